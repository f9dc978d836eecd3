use Rattle.store.proofs.Spans.{day_passed}
use Rattle.store.proofs.Days.pass_day.Goals as goal

pub returns-clause-is : goal.returns-clause-is
returns-clause-is c = search day_passed
