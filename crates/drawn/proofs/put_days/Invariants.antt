use Rattle.drawn.specs.Week.{days_to}
use Rattle.format.specs.Answers.{Wrote}
use lib.ListN.{length}
use mathlib.Core.Path.{◌≡◌}
use Prim.Native.Nat.{◌*◌}
use Rattle.drawn.proofs.put_days.Given as goal

abbrev pub invariant-loop-i : goal.invariant-loop-i
invariant-loop-i g = (length g.out ≡ length g.initial.out) × Wrote g.initial.out 0 (60 * g.i) (days_to g.l g.d g.i) g.out
