use Rattle.timed.proofs.Laws.{rate_is_lem}
use Rattle.timed.proofs.timed_tariff_loads.Goals as goal

pub returns : goal.returns
returns c = search rate_is_lem
