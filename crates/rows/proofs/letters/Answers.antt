use native.Mathlib.Omega.{arith}
use borrow.Author.Rules.{rules}
use Rattle.laws.proofs.Table.{filled_done}
use Rattle.rows.specs.Rows.{letter_in}
use Rattle.rows.proofs.Laws.{letter_is}
use Rattle.rows.proofs.letters.Goals as goal

-- each call gave the element at its index
pub returns : goal.returns
returns c = filled_done 0 12 (letter_in c.args.row.now) c.from_fn.result 12 (record {
  at_most = omega arith;
  long = c.from_fn.ensures.items.long;
  so_far = λ q k. let call = (c.from_fn.ensures.items.at q 0 k).2 in search (rules, letter_is);
}) (omega arith)
