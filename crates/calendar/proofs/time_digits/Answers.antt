use Rattle.calendar.proofs.Answers.{is_time_digits}
use borrow.Author.Rules.{rules}
use Rattle.calendar.proofs.time_digits.Goals as goal

pub returns : goal.returns
returns c = search (is_time_digits, rules)
