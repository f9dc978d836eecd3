use Rattle.drawn.proofs.Lengths.{type_length_none, type_length_some}
use native.Mathlib.Omega.{arith}
use Rattle.drawn.proofs.types.type_length.Goals as goal

pub returns-then-not-is_used : goal.returns-then-not-is_used
returns-then-not-is_used c = (search type_length_none, omega arith)

pub returns : goal.returns
returns c = (search type_length_some, omega arith)
