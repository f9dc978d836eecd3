use Rattle.calendar.proofs.Answers.{is_seconds_on}
use Rattle.calendar.proofs.time_on.Goals as goal

pub returns : goal.returns
returns c = search is_seconds_on
