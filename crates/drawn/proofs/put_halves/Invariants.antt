use Rattle.drawn.specs.Week.{half_mark}
use Rattle.laws.proofs.Rows.{Row}
use Rattle.drawn.proofs.put_halves.Given as goal

abbrev pub invariant-loop-j : goal.invariant-loop-j
invariant-loop-j g = Row (half_mark g.l g.d) 48 g.initial.out g.at g.out g.j
