use native.Mathlib.Omega.{arith}
use borrow.Author.Rules.{rules}
use Rattle.laws.proofs.Table.{filled_done}
use Rattle.quantity.specs.Units.{milliwatt_hours}
use Rattle.rows.specs.Rows.{register_in}
use Rattle.rows.proofs.Laws.{register_is}
use Rattle.rows.proofs.registers.Goals as goal

-- each call gave the element at its index
pub returns : goal.returns
returns c = filled_done (milliwatt_hours 0) 8 (register_in c.args.row.now) c.from_fn.result 8 (record {
  at_most = omega arith;
  long = c.from_fn.ensures.items.long;
  so_far = λ q k. let call = (c.from_fn.ensures.items.at q (milliwatt_hours 0) k).2 in search (rules, register_is);
}) (omega arith)
