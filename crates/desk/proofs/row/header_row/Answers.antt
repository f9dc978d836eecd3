use mathlib.Core.Path.{refl, ◌∙◌}
use Rattle.laws.proofs.Rows.{sets_whole}
use Rattle.desk.proofs.Blocks.{row_long, header_of_lem}
use Rattle.desk.proofs.row.header_row.Goals as goal

pub returns : goal.returns
returns c = header_of_lem _ _ _ _ _ c.args.h c.args.days c.put_letters.ensures c.put_totals.ensures c.put_rates.ensures refl ∙ sets_whole _ _ (row_long c.args.h c.args.days)
