use Rattle.drawn.proofs.Written.{times_start, times_room, times_on}
use native.Mathlib.Omega.{arith}
use borrow.Author.Rules.{rules}
use Rattle.drawn.proofs.types.put_times.Goals as goal

pub loop-m-init : goal.loop-m-init
loop-m-init c = (search rules, search times_start, omega arith)

pub put_time-n-requires : goal.put_time-n-requires
put_time-n-requires c = search times_room

pub loop-m-preserved : goal.loop-m-preserved
loop-m-preserved c = (search rules, search times_on, omega arith)
