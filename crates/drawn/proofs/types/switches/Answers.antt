use Rattle.drawn.specs.Week.{switches}
use Rattle.drawn.proofs.types.switches.Goals as goal

pub returns : goal.returns
unfolding switches
returns c = rw (c.is.ensures, c.minute.ensures.0)
