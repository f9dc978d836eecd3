use Rattle.laws.proofs.Exits.{exit_is}
use Rattle.outstation.proofs.Setting.{set_up_refused, set_up_no_room, set_up_never, set_up_done}
use Rattle.outstation.proofs.Outstation.begun.Goals as goal

pub returns-in_err-answer : goal.returns-in_err-answer
returns-in_err-answer c = rw (exit_is c.from_residual.ensures.1) (set_up_refused _ _ _ _ _ _ _ c.in_err-answer.ensures.judged c.in_err-answer.ensures.bare)

pub returns-then-table-ne-TABLE : goal.returns-then-table-ne-TABLE
returns-then-table-ne-TABLE c = set_up_no_room _ _ _ _ _ _ c.in_ok-answer.ensures.judged c.if-table-ne-TABLE.true

pub returns-in_err-answer-2 : goal.returns-in_err-answer-2
returns-in_err-answer-2 c = absurd (set_up_never _ c.args.phase _ _ _ c.args.table.now c.in_ok-answer.ensures.judged _ _ _ _ _ (rw c.in_err-answer-2.was at c.set_up-answer.ensures))

pub returns : goal.returns
returns c = set_up_done _ _ _ _ _ _ c.in_ok-answer.ensures.judged c.if-table-ne-TABLE.false _ _ _ _ _ _ (rw c.in_ok-answer-2.was at c.set_up-answer.ensures) (c.fill.ensures.after (λ x e. e))
