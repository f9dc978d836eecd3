use Rattle.desk.proofs.Laws.{half_held, half_none}
use Rattle.desk.proofs.half_number.Goals as goal

pub returns-then-j-k : goal.returns-then-j-k
returns-then-j-k c = search half_held

pub returns-else-j-k : goal.returns-else-j-k
returns-else-j-k c = search half_none
