use Rattle.script.proofs.Words.{Spaces}
use Rattle.script.proofs.arguments.Given as goal

abbrev pub invariant-loop-b : goal.invariant-loop-b
invariant-loop-b l = Spaces l.line l.b-index l.n
