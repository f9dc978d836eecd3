use Rattle.timing.proofs.Laws.{set_up_after}
use Rattle.timing.proofs.begun.Goals as goal

pub returns : goal.returns
returns c = search set_up_after
