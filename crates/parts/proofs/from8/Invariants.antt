use lib.ListN.{length}
use Rattle.parts.specs.Rows.{number_in}
use Rattle.parts.proofs.Laws.{Put}
use Rattle.parts.proofs.from8.Given as goal

abbrev pub invariant-loop-i : goal.invariant-loop-i
invariant-loop-i l = Put l.initial.out l.out l.i (length l.initial.out) (number_in l.row)
