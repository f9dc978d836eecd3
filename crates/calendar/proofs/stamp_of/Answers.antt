use Rattle.calendar.specs.Clock.{stamp_of}
use Rattle.calendar.proofs.Answers.{no_such_time, is_stamp}
use borrow.Author.Rules.{rules}
use Rattle.calendar.proofs.stamp_of.Goals as goal

pub returns-then-t-ge-TIMES_IN_ALL : goal.returns-then-t-ge-TIMES_IN_ALL
returns-then-t-ge-TIMES_IN_ALL c = search (no_such_time, rules)

pub returns : goal.returns
unfolding stamp_of
returns c = search (is_stamp, rules)
