use Rattle.std.proofs.Common.{rules}
use Rattle.recorder.proofs.Effects.{step_refused, step_accepted, step_done}
use Rattle.recorder.proofs.Recorder.step.Goals as goal

pub applied-requires : goal.applied-requires
applied-requires c = step_accepted _ _ _ _ _ c.in-Ok.ensures.judged

pub returns-in-Ok : goal.returns-in-Ok
returns-in-Ok c = let e = step_done _ _ _ _ _ c.in-Ok.ensures.judged tt _ _ _ _ c.applied.ensures.is in search rules

pub returns-in-Err : goal.returns-in-Err
returns-in-Err c = step_refused _ _ _ _ _ _ c.in-Err.ensures.judged c.in-Err.ensures.bare
