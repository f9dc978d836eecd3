use Rattle.recorder.proofs.Boundaries.{carry_goes, carried_on}
use Rattle.recorder.proofs.Recorder.carry_to.Goals as goal

pub go_on-requires : goal.go_on-requires
go_on-requires c = search carry_goes

pub returns-clause-is : goal.returns-clause-is
returns-clause-is c = search carried_on
