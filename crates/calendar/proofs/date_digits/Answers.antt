use Rattle.calendar.proofs.Answers.{is_date_digits}
use borrow.Author.Rules.{rules}
use Rattle.calendar.proofs.date_digits.Goals as goal

pub returns : goal.returns
returns c = search (is_date_digits, rules)
