use Rattle.drawn.specs.Week.{changes}
use mathlib.Core.Path.{◌≡◌}
use Rattle.drawn.proofs.changes.Given as goal

abbrev pub invariant-loop-n : goal.invariant-loop-n
invariant-loop-n g = (g.found ≡ changes g.l g.t g.n)
