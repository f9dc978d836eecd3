use Rattle.laws.proofs.Rows.{Row}
use Rattle.rows.specs.Rows.{register_of, registers_at}
use Rattle.rows.proofs.put_registers.Given as goal

abbrev pub invariant-loop-i : goal.invariant-loop-i
invariant-loop-i l = Row (register_of l.rates) 8 l.initial.out registers_at l.out l.i
