use Rattle.std.specs.Prelude.{◌≡◌, List, []}
use Rattle.tariff.specs.Scans.{Keeps}
use Rattle.tariff.specs.Table.{Entry, slots_to}
use Rattle.tariff.proofs.slots.fold.Given as goal

abbrev pub invariant-loop-i : goal.invariant-loop-i
invariant-loop-i g l = (kept : List Entry → _) → l.fn.first ≡ kept [] → Keeps (goal.F-post g l.next) kept → l.best ≡ kept (slots_to l.l l.i)
