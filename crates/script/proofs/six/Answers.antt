use Rattle.script.proofs.Numbers.{six_below}
use Rattle.script.proofs.six.Goals as goal

pub returns-clause-bound : goal.returns-clause-bound
returns-clause-bound c = six_below _ _ c.spelt.ensures
