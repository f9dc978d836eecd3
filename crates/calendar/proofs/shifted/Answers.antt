use native.Mathlib.Omega.{arith}
use Rattle.calendar.proofs.Direct.{shift_here, shift_on}
use Rattle.calendar.proofs.shifted.Goals as goal

pub returns-then-n-l : goal.returns-then-n-l
returns-then-n-l c = (search shift_here, omega arith)

pub returns-else-n-l : goal.returns-else-n-l
returns-else-n-l c = (search shift_on, omega arith)
