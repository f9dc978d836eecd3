use Rattle.drawn.proofs.Days.{mark_plus, mark_rate}
use Rattle.drawn.proofs.mark.Goals as goal

pub returns-then-changes : goal.returns-then-changes
returns-then-changes c = search mark_plus

pub returns : goal.returns
returns c = search mark_rate
