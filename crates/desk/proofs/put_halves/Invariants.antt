use Rattle.ledger.specs.Rooms.{day_at}
use Rattle.desk.specs.Given.{half_number}
use Rattle.laws.proofs.Rows.{Row}
use Rattle.desk.proofs.put_halves.Given as goal

abbrev pub invariant-loop-j : goal.invariant-loop-j
invariant-loop-j g = Row (half_number (day_at g.room.ledger.now g.room.at)) 48 g.initial.out 0 g.out g.j
