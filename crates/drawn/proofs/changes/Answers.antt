use Rattle.drawn.proofs.Days.{changes_none, changes_turn}
use Rattle.drawn.proofs.changes.Goals as goal

pub loop-n-init : goal.loop-n-init
loop-n-init c = search changes_none

pub loop-n-preserved : goal.loop-n-preserved
loop-n-preserved c = search changes_turn
