use Rattle.calendar.proofs.Direct.{year_fits}
use Rattle.calendar.proofs.Answers.{no_such_day, is_date, is_short}
use borrow.Author.Rules.{rules}
use Rattle.calendar.proofs.date_of_day.Goals as goal

pub returns-then-d-ge-DAYS_IN_ALL : goal.returns-then-d-ge-DAYS_IN_ALL
returns-then-d-ge-DAYS_IN_ALL c = search (no_such_day, rules)

pub month_at-m-requires : goal.month_at-m-requires
month_at-m-requires c = search (year_fits, rules)

pub returns : goal.returns
returns c = search (is_date, is_short, rules)
