use mathlib.Core.Path.{◌∙◌}
use Rattle.laws.proofs.Rows.{sets_whole}
use Rattle.rows.proofs.Laws.{row_long, recorder_of}
use Rattle.rows.proofs.recorder_row.Goals as goal

pub returns : goal.returns
returns c = recorder_of _ _ _ _ _ c.args.r c.put_letters.ensures c.put_first.ensures c.put_registers.ensures c.put_last.ensures ∙ sets_whole _ _ (row_long c.args.r)
