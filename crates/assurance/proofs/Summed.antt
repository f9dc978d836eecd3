-- A day's summary is the history's, where what is held of the day is.
-- Assumes nothing.
use Prim.Native.Nat.{ℕ, ◌<◌, ◌≤◌}
use mathlib.Core.Path.{◌≡◌, refl, sym, ap, ◌∙◌}
use mathlib.Core.Bool.{Bool, true, false}
use native.Mathlib.Decide.{dec_lt}
use native.Mathlib.Omega.{arith}
use Rattle.laws.specs.Bits.{bit}
use Rattle.laws.specs.Tests.{sum_below}
use Rattle.laws.proofs.Split.{by_dec}
use Rattle.laws.proofs.Tests.{sum_none, sum_same, sum_tail}
use Rattle.profile.specs.Profile.{advance_at, summed_advance}
use Rattle.profile.proofs.Laws.{sum_agree}
use Rattle.days.specs.Day.{Half, History, Day, absent, held, no_half, is_held, start_of, half_at, count}
use Rattle.days.specs.Energy.{values}
use Rattle.ledger.specs.Asked.{marked, day_summary}
use Rattle.ledger.proofs.Good.{half_out}
use Rattle.assurance.specs.Delivered.{Summed}

some_held : (y : Day) → 0 < count y → is_held y ≡ true
some_held absent l = absurd (omega arith)
some_held (held s xs f) l = refl

module _ (h : History) (d : ℕ) (y : Day) (few : count y ≤ 48) (start : is_held y ≡ true → start_of y ≡ h.start d)
    (value : (j : ℕ) → j < count y → half_at y j ≡ h.half d j) where
  advance_told : summed_advance (start_of y) (values y) (count y) ≡ sum_below (advance_at (h.start d) (λ j. (h.half d j).value)) (count y)
  unfolding summed_advance
  advance_told =
      by_dec (dec_lt 0 (count y))
      (λ l.
      sum_agree (start_of y) (values y) (λ j. (h.half d j).value) (count y) (λ j k. ap (λ (a : Half). a.value) (value j k))
      ∙ ap (λ (s : ℕ). summed_advance s (λ j. (h.half d j).value) (count y)) (start (some_held y l)))
      (λ l.
      let z : count y ≡ 0 = omega arith in
      rw z (sym (sum_none (advance_at (start_of y) (values y))) ∙ sum_none (advance_at (h.start d) (λ j. (h.half d j).value))))

  marks_told : (m : Half → Bool) → m no_half ≡ false → marked m y ≡ sum_below (λ j. bit (m (h.half d j))) (count y)
  unfolding marked
  marks_told m e =
      sum_tail (λ j. bit (m (half_at y j))) (count y) 48 few (λ i lo hi. rw (half_out y i lo, e))
      ∙ sum_same (λ j. bit (m (half_at y j))) (λ j. bit (m (h.half d j))) (count y) (λ j l. ap (λ (a : Half). bit (m a)) (value j l))

  pub summed : Summed h d y (day_summary y)
  unfolding day_summary
  summed = record {
    answer = refl;
    is_held_holds = refl;
    halves = refl;
    begins = refl;
    advance = advance_told;
    reverse = marks_told (λ a. a.reverse) refl;
    level2 = marks_told (λ a. a.level2) refl;
  }
