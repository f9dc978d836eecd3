use Rattle.drawn.proofs.Answered.{asked_long, prints_no_day, prints_day}
use Rattle.drawn.proofs.drawn.Goals as goal

pub returns-in_default : goal.returns-in_default
returns-in_default c =
    let text = prints_no_day c.args.input.now c.in_default.ensures in
    (rw (← text, ← c.number.ensures) c.refused.ensures.0, rw (← text, ← c.number.ensures) c.refused.ensures.1, c.refused.ensures.2)

pub slice_bounds-drawn_from-count : goal.slice_bounds-drawn_from-count
slice_bounds-drawn_from-count c = asked_long c.args.input.now _ c.in-Some.ensures

pub slice_bounds-drawn_from-start : goal.slice_bounds-drawn_from-start
slice_bounds-drawn_from-start c = asked_long c.args.input.now _ c.in-Some.ensures

pub returns : goal.returns
returns c =
    let text = prints_day c.args.input.now _ c.in-Some.ensures in
    (rw (← text) c.drawn_from.ensures.0, rw (← text) c.drawn_from.ensures.1, c.drawn_from.ensures.2)
