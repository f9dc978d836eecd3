use Rattle.drawn.proofs.Answered.{week_room, lines_room, week_wrote}
use borrow.Author.Rules.{rules}
use Rattle.drawn.proofs.put_week.Goals as goal

pub put_days-requires : goal.put_days-requires
put_days-requires c = (search week_room, search rules)

pub put_lines-requires : goal.put_lines-requires
put_lines-requires c = search lines_room

pub returns : goal.returns
returns c = search week_wrote
