use Rattle.laws.proofs.Exits.{exits_as}
use Rattle.answers.specs.Answer.{answered}
use Rattle.desk.specs.Numbers.{number_of}
use Rattle.desk.proofs.Laws.{window_refused, head_there, window_is}
use Rattle.desk.proofs.window.Goals as goal

pub returns-in_err-judge : goal.returns-in_err-judge
returns-in_err-judge c = exits_as c.from_residual.ensures.1 (λ r. number_of (answered r)) (window_refused _ _ c.in_err-judge.ensures)

pub first-requires : goal.first-requires
first-requires c = head_there _ c.in_ok-judge.ensures

pub days-requires : goal.days-requires
days-requires c = head_there _ c.in_ok-judge.ensures

pub returns : goal.returns
returns c = window_is _ c.in_ok-judge.ensures _ _ c.first.ensures.0 c.days.ensures.0
