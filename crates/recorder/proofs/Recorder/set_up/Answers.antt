use Rattle.recorder.proofs.Setting.{begins, set_up_refused, set_up_done}
use Rattle.recorder.proofs.Recorder.set_up.Goals as goal

pub begin-requires : goal.begin-requires
begin-requires c = begins _ _ c.in-Ok.ensures.judged

pub returns-in-Ok : goal.returns-in-Ok
returns-in-Ok c = set_up_done _ _ _ _ _ _ _ _ c.in-Ok.ensures.judged c.begin.ensures c.fresh.ensures

pub returns-in-Err : goal.returns-in-Err
returns-in-Err c = rw c.blank.ensures (set_up_refused _ _ _ _ _ c.in-Err.ensures.judged c.in-Err.ensures.bare)
