use Rattle.drawn.proofs.Lengths.{types_length_none, types_length_on}
use native.Mathlib.Omega.{arith}
use Rattle.drawn.proofs.types.lines_length.Goals as goal

pub loop-i-init : goal.loop-i-init
loop-i-init c = (search types_length_none, omega arith)

pub loop-i-preserved : goal.loop-i-preserved
loop-i-preserved c = (search types_length_on, omega arith)
