use Rattle.drawn.proofs.Days.{head_wrote}
use Rattle.drawn.proofs.put_head.Goals as goal

pub returns : goal.returns
returns c = search head_wrote
