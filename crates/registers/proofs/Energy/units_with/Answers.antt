use Rattle.registers.proofs.Laws.{sum_fits, then_more, units_fit, units_done}
use Rattle.registers.proofs.Energy.units_with.Goals as goal

pub returns : goal.returns
returns c = search units_done
