use Rattle.drawn.proofs.Answered.{taken_day, prints_refusal, prints_text, printed_length}
use Rattle.drawn.proofs.drawn_from.Goals as goal

pub fit-requires : goal.fit-requires
fit-requires c = taken_day _ _ (c.in-Ok.ensures).1

pub returns-in-Ok : goal.returns-in-Ok
returns-in-Ok c =
    let t = c.in-Ok.ensures in
    let text = prints_text _ _ t.1 in
    let k = printed_length _ _ c.fit.result c.fit.ensures.1 in
    (rw (← text, ← t.0) c.fit.ensures.0, rw (← text, ← t.0, c.unwrap_or.ensures) k.0, rw c.unwrap_or.ensures k.1)

pub returns-in-Err : goal.returns-in-Err
returns-in-Err c =
    let text = prints_refusal _ _ _ c.in-Err.ensures in
    (rw (← text, ← c.number.ensures) c.refused.ensures.0, rw (← text, ← c.number.ensures) c.refused.ensures.1, c.refused.ensures.2)
