use Rattle.std.specs.Prelude.{Bool, ◌≡◌}
use Rattle.tariff.specs.Scans.{Answers}
use Rattle.tariff.specs.Table.{Entry, slots_to, any_of}
use Rattle.tariff.proofs.slots.any.Given as goal

abbrev pub invariant-loop-i : goal.invariant-loop-i
invariant-loop-i g l = (test : Entry → Bool) → Answers (goal.F-post g l.passes) test → l.found ≡ any_of test (slots_to l.l l.i)
