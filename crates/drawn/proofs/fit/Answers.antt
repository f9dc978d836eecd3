use Rattle.drawn.proofs.Answered.{short_shown, short_answer, fit_room, fit_shown, fit_answer}
use borrow.Author.Rules.{rules}
use Rattle.drawn.proofs.fit.Goals as goal

pub returns-then-out-n : goal.returns-then-out-n
returns-then-out-n c = (search short_shown, search short_answer)

pub put_week-requires : goal.put_week-requires
put_week-requires c = (search fit_room, search rules)

pub returns : goal.returns
returns c = (search fit_shown, search fit_answer)
