use Rattle.drawn.proofs.Written.{before_first, before_other}
use Rattle.drawn.proofs.types.put_before.Goals as goal

pub returns-then-minute-eq0 : goal.returns-then-minute-eq0
returns-then-minute-eq0 c = search before_first

pub returns : goal.returns
returns c = search before_other
