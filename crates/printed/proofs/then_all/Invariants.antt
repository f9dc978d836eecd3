use Rattle.std.proofs.Common.{take, IfSome}
use Rattle.std.specs.Io.KnownBytes.{Appends}
use Rattle.printed.specs.Lines.{then_text}
use Rattle.printed.proofs.then_all.Given as goal

abbrev pub invariant-loop-x : goal.invariant-loop-x
invariant-loop-x g l = IfSome (then_text g.T.Display.output (take l.x-index l.fn.row)) (Appends (g.W.Write.contents l.initial.out) (g.W.Write.contents l.out))
