use Rattle.drawn.proofs.Lengths.{times_length_none, times_length_on}
use native.Mathlib.Omega.{arith}
use Rattle.drawn.proofs.types.times_length.Goals as goal

pub loop-m-init : goal.loop-m-init
loop-m-init c = (search times_length_none, omega arith)

pub loop-m-preserved : goal.loop-m-preserved
loop-m-preserved c = (search times_length_on, omega arith)
