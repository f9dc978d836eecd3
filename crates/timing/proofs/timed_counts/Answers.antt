use Rattle.timing.proofs.Laws.{total_is}
use Rattle.timing.proofs.timed_counts.Goals as goal

pub returns : goal.returns
returns c = total_is _ _ _ _ c.played-r.ensures
