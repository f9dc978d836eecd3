use Rattle.drawn.proofs.Lengths.{time_none, time_some}
use native.Mathlib.Omega.{arith}
use Rattle.drawn.proofs.types.time_length.Goals as goal

pub returns-then-rate-eq0 : goal.returns-then-rate-eq0
returns-then-rate-eq0 c = (search time_none, omega arith)

pub returns : goal.returns
returns c = (search time_some, omega arith)
