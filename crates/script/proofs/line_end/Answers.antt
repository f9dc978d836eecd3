use Rattle.script.proofs.Words.{line_none}
use Rattle.script.proofs.line_end.Goals as goal

pub returns-then-text-from : goal.returns-then-text-from
returns-then-text-from c = search line_none
