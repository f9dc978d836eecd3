use Rattle.script.proofs.Words.{Passed}
use Rattle.script.proofs.word_start.Given as goal

abbrev pub invariant-loop-j : goal.invariant-loop-j
invariant-loop-j l = Passed l.line l.k l._j l.from
