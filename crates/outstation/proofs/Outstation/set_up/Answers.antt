use Rattle.outstation.proofs.Outstation.set_up.Goals as goal

pub returns-in-Ok : goal.returns-in-Ok
returns-in-Ok c = c.in-Ok.ensures

pub returns-in-Err : goal.returns-in-Err
returns-in-Err c = rw c.blank.ensures c.in-Err.ensures
