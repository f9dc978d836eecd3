use Rattle.drawn.proofs.Days.{day_wrote}
use Rattle.drawn.proofs.put_day.Goals as goal

pub returns : goal.returns
returns c = search day_wrote
