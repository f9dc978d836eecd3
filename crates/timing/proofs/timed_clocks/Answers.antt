use Rattle.timing.proofs.Laws.{time_is}
use Rattle.timing.proofs.timed_clocks.Goals as goal

pub returns : goal.returns
returns c = time_is _ _ _ _ c.played-r.ensures
