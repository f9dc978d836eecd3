use Rattle.timing.proofs.Laws.{played_is}
use Rattle.timing.proofs.played.Goals as goal

pub returns : goal.returns
returns c = search played_is
