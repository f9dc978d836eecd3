use mathlib.Core.Path.{◌∙◌}
use Rattle.desk.proofs.Tables.{table_told}
use Rattle.desk.proofs.table.cop6_table_judge.Goals as goal

pub returns : goal.returns
returns c = c.number.ensures ∙ rw c.and.ensures (table_told _ c.judge.result c.judge.ensures)
