use Rattle.laws.proofs.Exits.{exit_is}
use Rattle.outstation.proofs.Laws.{event_refused, event_done, event_undone}
use Rattle.outstation.proofs.Outstation.with_event.Goals as goal

pub returns-in_err-answer : goal.returns-in_err-answer
returns-in_err-answer c = rw (exit_is c.from_residual.ensures.1) (event_refused _ _ _ _ _ c.requires _ _ _ _ _ _ (rw c.in_err-answer.was at c.step-answer.ensures))

pub returns-in-Ok : goal.returns-in-Ok
returns-in-Ok c = event_done _ _ _ _ _ c.requires _ _ _ _ _ _ (rw c.in_ok-answer.was at c.step-answer.ensures) _ c.in-Ok.ensures

pub returns-in-Err : goal.returns-in-Err
returns-in-Err c = event_undone _ _ _ _ _ c.requires _ _ _ _ _ _ (rw c.in_ok-answer.was at c.step-answer.ensures) _ c.in-Err.ensures
