use Rattle.drawn.proofs.Written.{switch_wrote}
use Rattle.drawn.proofs.types.put_switch.Goals as goal

pub returns : goal.returns
returns c = search switch_wrote
