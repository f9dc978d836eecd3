use Rattle.parts.proofs.Laws.{wide_there, number_past}
use Rattle.parts.proofs.number8.Goals as goal

pub returns-then-i-row : goal.returns-then-i-row
returns-then-i-row c = search wide_there

pub returns : goal.returns
returns c = search number_past
