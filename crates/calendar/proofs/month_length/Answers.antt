use Rattle.calendar.proofs.Lengths.{february_is, months_other, months_table, months_end}
use borrow.Author.Rules.{rules}
use Rattle.calendar.proofs.month_length.Goals as goal

pub returns-then-i-eq1 : goal.returns-then-i-eq1
returns-then-i-eq1 c = search (february_is, rules)

pub returns-then-i-lt12 : goal.returns-then-i-lt12
returns-then-i-lt12 c = search (months_other, months_table)

pub returns : goal.returns
returns c = search (months_end, rules)
