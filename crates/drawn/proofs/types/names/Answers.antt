use Rattle.drawn.specs.Week.{names}
use Rattle.drawn.proofs.types.names.Goals as goal

pub returns : goal.returns
unfolding names
returns c = rw c.uses.ensures
