use Rattle.std.specs.Prelude.{Bool, ◌≡◌, ◌≤◌}
use Rattle.tariff.specs.Scans.{Answers}
use Rattle.tariff.specs.Table.{Entry, slots_to, count_of}
use Rattle.tariff.proofs.slots.count.Given as goal

abbrev pub invariant-loop-i : goal.invariant-loop-i
invariant-loop-i g l = record { few : l.n ≤ l.i; so_far : (test : Entry → Bool) → Answers (goal.F-post g l.passes) test → l.n ≡ count_of test (slots_to l.l l.i) }
