use Rattle.drawn.proofs.Days.{half_turn}
use Rattle.laws.proofs.Rows.{row_none}
use Rattle.drawn.proofs.put_halves.Goals as goal

pub loop-j-init : goal.loop-j-init
loop-j-init c = search row_none

pub loop-j-preserved : goal.loop-j-preserved
loop-j-preserved c = search half_turn
