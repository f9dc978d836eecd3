use Rattle.registers.proofs.Laws.{counted_is}
use Rattle.registers.proofs.Energy.counted.Goals as goal

pub returns : goal.returns
returns c = search counted_is
