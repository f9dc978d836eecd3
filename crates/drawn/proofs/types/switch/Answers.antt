use Rattle.drawn.proofs.Lengths.{switch_yes, switch_no}
use Rattle.drawn.proofs.types.switch.Goals as goal

pub returns-then-switches : goal.returns-then-switches
returns-then-switches c = search switch_yes

pub returns : goal.returns
returns c = search switch_no
