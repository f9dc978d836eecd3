use Rattle.parts.proofs.Laws.{put_none, put_on}
use Rattle.parts.proofs.from8.Goals as goal

pub loop-i-init : goal.loop-i-init
loop-i-init c = search put_none

pub loop-i-preserved : goal.loop-i-preserved
loop-i-preserved c = search put_on
