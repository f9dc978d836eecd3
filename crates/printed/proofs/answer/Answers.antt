use Rattle.printed.specs.Lines.{answer_line}
use Rattle.printed.proofs.answer.Goals as goal

pub returns : goal.returns
unfolding answer_line
returns g c = c.writeln.ensures.bytes
