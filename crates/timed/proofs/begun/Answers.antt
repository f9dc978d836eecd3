use Rattle.timed.proofs.Laws.{set_up_after}
use Rattle.timed.proofs.begun.Goals as goal

pub returns : goal.returns
returns c = search set_up_after
