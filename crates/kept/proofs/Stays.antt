-- Of one filing: a good ledger stays good; what is newly held is what is held after less what was held before.
-- Assumes nothing.
use mathlib.Core.Path.{◌≡◌, refl, sym, ap, ◌∙◌}
use mathlib.Core.Bool.{true}
use mathlib.Core.List.{List}
use Prim.Native.Nat.{ℕ, ◌<◌, ◌+◌, ◌-◌}
use native.Mathlib.Omega.{arith}
use lib.Dec.{ltb, eqb}
use lib.ListN.{get_or}
use borrow.Author.Tests.{eqb-true, eqb-false}
use Rattle.laws.proofs.Split.{by_test}
use Rattle.laws.proofs.Tests.{sum_same}
use Rattle.block.specs.Answers.{answer}
use Rattle.days.specs.Day.{Day, count, extent_of}
use Rattle.days.specs.Agree.{join_day}
use Rattle.days.specs.View.{offer}
use Rattle.ledger.specs.Layout.{first_of, days_of}
use Rattle.ledger.specs.Rooms.{slot}
use Rattle.ledger.specs.Judged.{judged, fits}
use Rattle.ledger.proofs.Packed.{Fit, fit_of, slot_packed}
use Rattle.ledger.proofs.Good.{judged_good, slot_fits, pack_good}
use Rattle.rooms.specs.View.{view_of}
use Rattle.filing.specs.File.{read_of, file_answer, day_after, ledger_after, held_of, newly_held, Filing, filing, file_of}
use Rattle.filing.proofs.Answers.{answer_is}
use Rattle.filing.proofs.Filing.{file_judged, file_answer_holds}
use Rattle.filing.proofs.Offered.{offer_fits}

module _ (l b : List ℕ) where
  module _ (e : (file_of l b).answer.number ≡ 0) where
    none : file_answer l b ≡ 0
    none = sym (answer_is l b) ∙ e

    pub filed_judged : judged l ≡ 0
    filed_judged =
        by_test (eqb (judged l) 0)
        (λ t. eqb-true (judged l) 0 t)
        (λ t. sym (ap (λ (x : Filing). x.answer.number) (sym (file_judged l b (judged l) refl (eqb-false (judged l) 0 t)))) ∙ e)

    pub filed_read : (read_of b).number ≡ 0
    filed_read =
        by_test (eqb (read_of b).number 0)
        (λ t. eqb-true (read_of b).number 0 t)
        (λ t. rw t at (sym (file_answer_holds l b 0 (sym filed_judged) refl) ∙ none))

    filed_is : file_of l b ≡ filing (ledger_after l b) (answer 0 (newly_held l b))
    unfolding file_of
    filed_is = rw none

    module _ (byte : (p : ℕ) → get_or l p 0 < 256) where
      join_fits : (x y : Day) → fits x ≡ true → fits y ≡ true → fits (join_day x y) ≡ true
      unfolding join_day
      join_fits x y p q = by_test (ltb (extent_of x) (extent_of y)) (λ t. rw t q) (λ t. rw t p)

      after_fits : (i : ℕ) → i < days_of l → Fit (day_after l b i)
      unfolding day_after
      after_fits i h =
          fit_of (join_day (slot l i) (offer (view_of b) (first_of l + i)))
          (join_fits (slot l i) (offer (view_of b) (first_of l + i)) (slot_fits l byte filed_judged i h) (offer_fits b filed_read (first_of l + i)))

      pub stays_good : judged (file_of l b).ledger ≡ 0
      unfolding ledger_after
      stays_good =
          rw filed_is
          (pack_good l (day_after l b) (judged_good l filed_judged).count (judged_good l filed_judged).head after_fits)

      -- the days after filing
      pub day_after_lem : (i : ℕ) → i < days_of l → slot (file_of l b).ledger i ≡ join_day (slot l i) (offer (view_of b) (first_of l + i))
      unfolding ledger_after day_after
      day_after_lem i h = rw filed_is (slot_packed l (days_of l) (day_after l b) i h (after_fits i h))

      pub newly_held_lem : (file_of l b).answer.carried ≡ held_of (slot (file_of l b).ledger) (days_of l) - held_of (slot l) (days_of l)
      unfolding newly_held held_of day_after
      newly_held_lem =
          ap (λ (x : Filing). x.answer.carried) filed_is
          ∙ omega (arith, sum_same (λ i. count (slot (file_of l b).ledger i)) (λ i. count (day_after l b i)) (days_of l) (λ i h. ap count (day_after_lem i h)))
