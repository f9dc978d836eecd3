use Rattle.timed.proofs.Laws.{played_is}
use Rattle.timed.proofs.played.Goals as goal

pub returns : goal.returns
returns c = played_is _ _ _ _ _ _ _ c.begun-first.ensures c.often.ensures
