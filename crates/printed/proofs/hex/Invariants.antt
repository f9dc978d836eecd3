use Rattle.printed.proofs.Written.{HexSoFar}
use Rattle.printed.proofs.hex.Given as goal

abbrev pub invariant-loop-part : goal.invariant-loop-part
invariant-loop-part g l = HexSoFar l.bytes l.part-iterator.rest.now l.part-iterator.size l.text (g.W.Write.contents l.initial.out) (g.W.Write.contents l.out)
