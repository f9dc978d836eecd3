use native.Mathlib.Omega.{arith}
use Rattle.calendar.proofs.Direct.{year_below, year_at}
use Rattle.calendar.proofs.year_at.Goals as goal

pub overflow_sub-result : goal.overflow_sub-result
overflow_sub-result c = search year_below

pub returns : goal.returns
returns c = (search year_at, omega arith, omega arith)
