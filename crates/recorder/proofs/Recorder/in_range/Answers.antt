use Rattle.recorder.proofs.Answers.{in_halves}
use Rattle.recorder.proofs.Recorder.in_range.Goals as goal

pub returns : goal.returns
returns c = search in_halves
