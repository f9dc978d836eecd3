use Rattle.laws.proofs.Exits.{exits_as}
use Rattle.answers.specs.Answer.{answered}
use Rattle.desk.specs.Numbers.{number_of}
use Rattle.desk.proofs.Tables.{rate_late, rate_refused, rate_given_lem}
use Rattle.desk.proofs.table.rate.Goals as goal

pub returns-then-time-ge-TIMES_IN_ALL : goal.returns-then-time-ge-TIMES_IN_ALL
returns-then-time-ge-TIMES_IN_ALL c = rate_late _ _ c.if-time-ge-TIMES_IN_ALL.true

pub returns-in_err-judge : goal.returns-in_err-judge
returns-in_err-judge c = exits_as c.from_residual.ensures.1 (λ r. number_of (answered r)) (rate_refused _ _ c.if-time-ge-TIMES_IN_ALL.false _ c.in_err-judge.ensures)

pub returns : goal.returns
returns c = rate_given_lem _ _ c.if-time-ge-TIMES_IN_ALL.false _ c.in_ok-judge.ensures c.rate_at.ensures
