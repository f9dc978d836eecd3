use Rattle.timed.proofs.Laws.{nth_load, nth_later}
use Rattle.timed.proofs.nth.Goals as goal

pub returns-then-i-eq0 : goal.returns-then-i-eq0
returns-then-i-eq0 c = search nth_load

pub returns-else-i-eq0 : goal.returns-else-i-eq0
returns-else-i-eq0 c = search nth_later
