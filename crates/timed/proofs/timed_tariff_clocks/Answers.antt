use Rattle.timed.proofs.Laws.{time_is}
use Rattle.timed.proofs.timed_tariff_clocks.Goals as goal

pub returns : goal.returns
returns c = search time_is
