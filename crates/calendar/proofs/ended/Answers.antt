use Rattle.calendar.proofs.Answers.{ended_before, ended_today, ended_after}
use borrow.Author.Rules.{rules}
use Rattle.calendar.proofs.ended.Goals as goal

pub returns-then-d-today : goal.returns-then-d-today
returns-then-d-today c = search (ended_before, rules)

pub returns-then-d-today-2 : goal.returns-then-d-today-2
returns-then-d-today-2 c = search (ended_today, rules)

pub returns : goal.returns
returns c = search (ended_after, rules)
