use Rattle.timed.proofs.Laws.{total_is}
use Rattle.timed.proofs.timed_tariff_counts.Goals as goal

pub returns : goal.returns
returns c = search total_is
