use native.Mathlib.Omega.{arith}
use Rattle.calendar.proofs.Lengths.{years_before}
use Rattle.calendar.proofs.days_before_year.Goals as goal

pub returns : goal.returns
returns c = (search years_before, omega arith)
