use Rattle.laws.proofs.Rows.{row_none, row_first, row_all}
use Rattle.desk.proofs.put_halves.Goals as goal

pub loop-j-init : goal.loop-j-init
loop-j-init c = search row_none

pub loop-j-preserved : goal.loop-j-preserved
loop-j-preserved c = search row_first

pub returns : goal.returns
returns c = search row_all
