use Rattle.recorder.proofs.Boundaries.{still_here, gone_on}
use Rattle.recorder.proofs.Recorder.advance_to.Goals as goal

pub returns-then-half-to-clause-is : goal.returns-then-half-to-clause-is
returns-then-half-to-clause-is c = let g = c.requires in let k = c.cap.ensures in let a = c.gone_to-next.ensures in search still_here

pub returns-clause-is : goal.returns-clause-is
returns-clause-is c = let g = c.requires in let k = c.cap.ensures in let a = c.gone_to-next.ensures in let b = c.half.ensures in let d = c.half-to.ensures in let i = c.if-half-to.false in search gone_on
