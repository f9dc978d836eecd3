use Rattle.script.proofs.Words.{spaces_none, spaces_on, spaces_all}
use Rattle.script.proofs.arguments.Goals as goal

pub loop-b-init : goal.loop-b-init
loop-b-init c = search spaces_none

pub loop-b-preserved : goal.loop-b-preserved
loop-b-preserved c = search spaces_on

pub returns : goal.returns
returns c = search spaces_all
