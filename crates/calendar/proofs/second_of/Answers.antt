use Rattle.calendar.proofs.Answers.{no_date, no_hour, no_minute, no_second, is_at_lem}
use Rattle.calendar.proofs.second_of.Goals as goal

pub returns-in_err-d : goal.returns-in_err-d
returns-in_err-d c = rw c.from_residual.ensures (no_date _ _ c.day_of_date.ensures c.in_err-d.was)

pub returns-then-s-ge24 : goal.returns-then-s-ge24
returns-then-s-ge24 c = search no_hour

pub returns-then-s-ge60 : goal.returns-then-s-ge60
returns-then-s-ge60 c = search no_minute

pub returns-then-s-ge60-2 : goal.returns-then-s-ge60-2
returns-then-s-ge60-2 c = search no_second

pub returns : goal.returns
returns c = search (is_at_lem, c.in_ok-d.was)
