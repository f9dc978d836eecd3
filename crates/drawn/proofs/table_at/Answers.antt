use Rattle.std.proofs.Common.{rules, length, sym, ◌≡◌}
use Rattle.drawn.proofs.Answered.{judged_late, table_refused, table_taken}
use Rattle.tariff.proofs.Order.{accepted}
use Rattle.laws.proofs.Exits.{exit_is}
use Rattle.drawn.proofs.table_at.Goals as goal

pub returns-then-day-gt-LAST_DRAWN : goal.returns-then-day-gt-LAST_DRAWN
returns-then-day-gt-LAST_DRAWN c = rw (← judged_late _ _ c.if-day-gt-LAST_DRAWN.true)

pub returns-in_err-judge : goal.returns-in_err-judge
returns-in_err-judge c = rw (exit_is c.from_residual.ensures.1) (table_refused _ _ c.if-day-gt-LAST_DRAWN.false _ c.in_err-judge.ensures)

pub returns : goal.returns
returns c =
    let z = table_taken c.args.l.now c.args.day c.if-day-gt-LAST_DRAWN.false c.in_ok-judge.ensures in
    let long : length c.args.l.now ≡ 440 = (accepted c.args.l.now (sym c.in_ok-judge.ensures)).long in
    search rules
