use Rattle.drawn.proofs.Written.{types_start, types_room, types_on}
use native.Mathlib.Omega.{arith}
use borrow.Author.Rules.{rules}
use Rattle.drawn.proofs.types.put_lines.Goals as goal

pub loop-i-init : goal.loop-i-init
loop-i-init c = (search rules, search types_start, omega arith)

pub put_type-n-requires : goal.put_type-n-requires
put_type-n-requires c = search types_room

pub loop-i-preserved : goal.loop-i-preserved
loop-i-preserved c = (search rules, search types_on, omega arith)
