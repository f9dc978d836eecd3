use Rattle.timing.proofs.nth.Goals as goal

pub returns-in-Counts : goal.returns-in-Counts
returns-in-Counts c = cc

pub returns-in-Clocks : goal.returns-in-Clocks
returns-in-Clocks c = cc

pub returns-in-Outages : goal.returns-in-Outages
returns-in-Outages c = cc
