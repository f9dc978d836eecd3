use Rattle.drawn.proofs.Written.{type_stays, type_room, type_end_room, type_wrote}
use native.Mathlib.Omega.{arith}
use Rattle.drawn.proofs.types.put_type.Goals as goal

pub returns-then-not-is_used : goal.returns-then-not-is_used
returns-then-not-is_used c = (search type_stays, omega arith)

pub put_times-n-requires : goal.put_times-n-requires
put_times-n-requires c = search type_room

pub put_be-requires : goal.put_be-requires
put_be-requires c = search type_end_room

pub returns : goal.returns
returns c = (search type_wrote, omega arith)
