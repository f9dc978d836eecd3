use Rattle.drawn.proofs.Written.{time_stays, time_room, time_wrote}
use native.Mathlib.Omega.{arith}
use Rattle.drawn.proofs.types.put_time.Goals as goal

pub returns-then-rate-eq0 : goal.returns-then-rate-eq0
returns-then-rate-eq0 c = (search time_stays, omega arith)

pub put_switch-requires : goal.put_switch-requires
put_switch-requires c = search time_room

pub returns : goal.returns
returns c = (search time_wrote, omega arith)
