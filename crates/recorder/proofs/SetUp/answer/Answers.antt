use Rattle.recorder.proofs.Setting.{bad_value_lem, bad_length, set_up_passed}
use Rattle.recorder.proofs.SetUp.answer.Goals as goal

pub returns-then-not-in_range : goal.returns-then-not-in_range
returns-then-not-in_range c = search bad_value_lem

pub returns-then-not-fits : goal.returns-then-not-fits
returns-then-not-fits c = search bad_length

pub returns : goal.returns
returns c = search set_up_passed
