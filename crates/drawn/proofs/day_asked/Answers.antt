use Rattle.drawn.proofs.Answered.{date_fits}
use Rattle.drawn.proofs.day_asked.Goals as goal

pub overflow_cast-date : goal.overflow_cast-date
overflow_cast-date c = record { fits = date_fits _ _ _ c.spelt.ensures c.in_ok-date.was }
