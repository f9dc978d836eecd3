use native.Mathlib.Omega.{arith}
use Rattle.timing.proofs.Laws.{going_none, coming_on, going_done}
use Rattle.timing.proofs.often.Goals as goal

pub loop-i-init : goal.loop-i-init
loop-i-init c = (omega arith, omega arith, omega arith, omega arith, search going_none)

pub loop-i-preserved : goal.loop-i-preserved
loop-i-preserved c = (omega arith, omega arith, omega arith, omega arith, search coming_on)

pub returns : goal.returns
returns c = search going_done
