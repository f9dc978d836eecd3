use Rattle.outstation.proofs.Laws.{ready_length, ready_range, ready_off, ready_done}
use Rattle.outstation.proofs.ready.Goals as goal

pub returns-then-not-fits-clause-judged : goal.returns-then-not-fits-clause-judged
returns-then-not-fits-clause-judged c = search ready_length

pub returns-then-not-in_range-clause-judged : goal.returns-then-not-in_range-clause-judged
returns-then-not-in_range-clause-judged c = search ready_range

pub returns-then-not-r-clause-judged : goal.returns-then-not-r-clause-judged
returns-then-not-r-clause-judged c = search ready_off

pub returns-clause-judged : goal.returns-clause-judged
returns-clause-judged c = search ready_done
