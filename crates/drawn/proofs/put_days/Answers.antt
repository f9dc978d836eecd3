use Rattle.drawn.proofs.Days.{days_start, days_on}
use borrow.Author.Rules.{rules}
use Rattle.drawn.proofs.put_days.Goals as goal

pub loop-i-init : goal.loop-i-init
loop-i-init c = (search rules, search days_start)

pub loop-i-preserved : goal.loop-i-preserved
loop-i-preserved c = (search rules, search days_on)
