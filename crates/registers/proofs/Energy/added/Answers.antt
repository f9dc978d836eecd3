use Rattle.registers.specs.Energy.{added_of}
use Rattle.registers.proofs.Laws.{added_few, added_fits}
use Rattle.std.proofs.Common.{rules}
use Rattle.registers.proofs.Energy.added.Goals as goal

pub returns : goal.returns
unfolding added_of
returns c = (cc, search (added_few, rules))
