use Rattle.timed.proofs.later.Goals as goal

pub returns-in-Counts : goal.returns-in-Counts
returns-in-Counts c = cc

pub returns-in-Clocks : goal.returns-in-Clocks
returns-in-Clocks c = cc
