use Rattle.calendar.proofs.Answers.{is_day_on}
use Rattle.calendar.proofs.day_on.Goals as goal

pub returns : goal.returns
returns c = search is_day_on
