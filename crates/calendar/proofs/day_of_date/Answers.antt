use Rattle.calendar.proofs.Answers.{no_year, no_month_zero, no_month, no_day_zero, no_day_lem, is_day_lem}
use borrow.Author.Rules.{rules}
use Rattle.calendar.proofs.day_of_date.Goals as goal

pub returns-then-yy-ge100 : goal.returns-then-yy-ge100
returns-then-yy-ge100 c = search no_year

pub returns-then-mm-lt1 : goal.returns-then-mm-lt1
returns-then-mm-lt1 c = search no_month_zero

pub returns-then-mm-gt12 : goal.returns-then-mm-gt12
returns-then-mm-gt12 c = search no_month

pub returns-then-dd-lt1 : goal.returns-then-dd-lt1
returns-then-dd-lt1 c = search no_day_zero

pub returns-then-month_length-dd : goal.returns-then-month_length-dd
returns-then-month_length-dd c = search no_day_lem

pub returns : goal.returns
returns c = search (is_day_lem, rules)
