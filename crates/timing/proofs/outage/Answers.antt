use Rattle.timing.proofs.Laws.{outage_begins, outage_ends}
use Rattle.timing.proofs.outage.Goals as goal

pub returns-then-i-eq1 : goal.returns-then-i-eq1
returns-then-i-eq1 c = search outage_begins

pub returns-else-i-eq1 : goal.returns-else-i-eq1
returns-else-i-eq1 c = search outage_ends
