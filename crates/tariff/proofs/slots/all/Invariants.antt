use Rattle.std.specs.Prelude.{Bool, ◌≡◌}
use Rattle.tariff.specs.Scans.{Answers}
use Rattle.tariff.specs.Table.{Entry, slots_to, all_of}
use Rattle.tariff.proofs.slots.all.Given as goal

abbrev pub invariant-loop-i : goal.invariant-loop-i
invariant-loop-i g l = (test : Entry → Bool) → Answers (goal.F-post g l.passes) test → l.ok ≡ all_of test (slots_to l.l l.i)
