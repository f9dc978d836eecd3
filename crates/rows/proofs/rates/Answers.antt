use native.Mathlib.Omega.{arith}
use borrow.Author.Rules.{rules}
use Rattle.laws.proofs.Table.{filled_done}
use Rattle.quantity.specs.Units.{kilowatt_hours}
use Rattle.rows.specs.Rows.{rate_in}
use Rattle.rows.proofs.Laws.{rate_is_lem}
use Rattle.rows.proofs.rates.Goals as goal

-- each call gave the element at its index
pub returns : goal.returns
returns c = filled_done (kilowatt_hours 0) 8 (rate_in c.args.row.now) c.from_fn.result 8 (record {
  at_most = omega arith;
  long = c.from_fn.ensures.items.long;
  so_far = λ q k. let call = (c.from_fn.ensures.items.at q (kilowatt_hours 0) k).2 in search (rules, rate_is_lem);
}) (omega arith)
