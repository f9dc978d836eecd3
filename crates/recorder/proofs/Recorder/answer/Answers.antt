use Rattle.recorder.proofs.Answers.{in_halves, range_counts, range_time, no_class_lem, wrong_length, out_of_range_lem, event_judged}
use Rattle.recorder.proofs.Recorder.answer.Goals as goal

pub returns-then-cap-eq0 : goal.returns-then-cap-eq0
returns-then-cap-eq0 c = search no_class_lem

pub returns-then-not-fits : goal.returns-then-not-fits
returns-then-not-fits c = search wrong_length

pub returns-then-not-good : goal.returns-then-not-good
returns-then-not-good c = search (out_of_range_lem, in_halves)

pub event_answer-requires : goal.event_answer-requires
event_answer-requires c = search (range_counts, range_time, in_halves)

pub returns-clause-judged : goal.returns-clause-judged
returns-clause-judged c = search (event_judged, in_halves)
