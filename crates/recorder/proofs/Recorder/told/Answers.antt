use Rattle.recorder.proofs.Effects.{clock_done, on_flags, on_done}
use Rattle.recorder.proofs.Recorder.told.Goals as goal

pub returns-then-clock-clause-is : goal.returns-then-clock-clause-is
returns-then-clock-clause-is c = search clock_done

pub flag_from-requires : goal.flag_from-requires
flag_from-requires c = search on_flags

pub returns-clause-is : goal.returns-clause-is
returns-clause-is c = search on_done
