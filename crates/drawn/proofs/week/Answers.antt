use Rattle.answers.specs.Answer.{answered}
use Rattle.laws.proofs.Exits.{exits_as}
use Rattle.drawn.proofs.Answered.{taken_day, stays_shown, refused_answer, taken_shown, taken_answer}
use Rattle.drawn.proofs.week.Goals as goal

pub returns-in_err-table_at : goal.returns-in_err-table_at
returns-in_err-table_at c = (stays_shown _ _ _ _ c.in_err-table_at.ensures, exits_as c.from_residual.ensures.1 answered (refused_answer _ _ _ _ c.in_err-table_at.ensures))

pub fit-requires : goal.fit-requires
fit-requires c = taken_day _ _ (c.in_ok-table_at.ensures).1

pub returns : goal.returns
returns c =
    let t = c.in_ok-table_at.ensures in
    let z = t.1 in
    (taken_shown _ _ _ z _ (rw t.0 at c.fit.ensures.0), taken_answer _ _ _ z _ (rw t.0 at c.fit.ensures.1))
