use Rattle.laws.proofs.Exits.{exits_as}
use Rattle.answers.specs.Answer.{answered}
use Rattle.desk.specs.Numbers.{number_of}
use Rattle.desk.specs.Given.{given}
use Rattle.desk.proofs.Laws.{asked_taken, day_asked, day_room, halves_held}
use mathlib.Core.Path.{refl}
use borrow.Author.Rules.{rules}
use Rattle.desk.proofs.Blocks.{halves_refused, halves_short, halves_given}
use Rattle.desk.proofs.halves.Goals as goal

pub returns-in_err-held : goal.returns-in_err-held
returns-in_err-held c = exits_as c.from_residual.ensures.1 (λ r. given c.args.out.now (number_of (answered r))) (halves_refused _ _ _ _ c.in_err-held.ensures)

pub room_of-at-requires : goal.room_of-at-requires
room_of-at-requires c = day_asked _ _ _ (asked_taken _ _ _ c.in_ok-held.ensures) refl

pub returns-then-out-lt-HALVES : goal.returns-then-out-lt-HALVES
returns-then-out-lt-HALVES c = halves_short _ _ _ (asked_taken _ _ _ c.in_ok-held.ensures) c.if-out-lt-HALVES.true

pub invariant_of-put_halves : goal.invariant_of-put_halves
invariant_of-put_halves c = record { there = day_room _ _ _ (asked_taken _ _ _ c.in_ok-held.ensures) c.room_of-at.ensures }

pub put_halves-requires : goal.put_halves-requires
put_halves-requires c = (search rules, halves_held _ _ _ _ c.in_ok-held.ensures c.room_of-at.ensures)

pub returns : goal.returns
returns c =
    halves_given _ _ _ _ _ (asked_taken _ _ _ c.in_ok-held.ensures) c.room_of-at.ensures (halves_held _ _ _ _ c.in_ok-held.ensures c.room_of-at.ensures) _ (search rules) c.put_halves.ensures
