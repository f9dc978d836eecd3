use Rattle.calendar.proofs.Lengths.{before_march_lem, before_few, from_march, from_fits, from_few}
use Rattle.calendar.proofs.days_before_month.Goals as goal

pub returns-then-i-lt2 : goal.returns-then-i-lt2
returns-then-i-lt2 c = (search before_march_lem, search before_few)

pub returns : goal.returns
returns c = (search from_march, search from_few)
