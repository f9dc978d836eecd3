use Rattle.printed.specs.Lines.{unread_line}
use Rattle.printed.proofs.unread.Goals as goal

pub returns : goal.returns
unfolding unread_line
returns g c = c.writeln.ensures.bytes
