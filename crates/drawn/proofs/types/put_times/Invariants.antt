use Rattle.drawn.specs.Week.{times_to}
use Rattle.tariff.specs.Table.{slots_of}
use Rattle.format.specs.Answers.{Wrote}
use lib.ListN.{length}
use mathlib.Core.Path.{◌≡◌}
use Prim.Native.Nat.{◌*◌, ◌≤◌}
use Rattle.drawn.proofs.types.put_times.Given as goal

abbrev pub invariant-loop-m : goal.invariant-loop-m
invariant-loop-m g = (length g.out ≡ length g.initial.out) × Wrote g.initial.out g.at g.n (times_to (slots_of g.l) g.daytype g.m) g.out × (g.n ≤ 8 * g.m)
