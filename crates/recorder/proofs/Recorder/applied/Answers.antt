use Rattle.recorder.proofs.Answers.{accepted_time, accepted_begun}
use Rattle.recorder.proofs.Effects.{not_told, told_goes, told_done}
use borrow.Author.Rules.{rules}
use Rattle.recorder.proofs.Recorder.applied.Goals as goal

pub time-requires : goal.time-requires
time-requires c = search (accepted_time, accepted_begun)

pub changed-requires : goal.changed-requires
changed-requires c = search (not_told, rules)

pub told-requires : goal.told-requires
told-requires c = search told_goes

pub returns-clause-is : goal.returns-clause-is
returns-clause-is c = search (told_done, c.requires)
