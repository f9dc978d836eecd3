-- From the blocks to the bill: the energy of a stretch of half-hours that a ledger holds after honest blocks.
-- Assumes nothing.
use mathlib.Core.Path.{◌≡◌, sym, ap, ◌∙◌}
use mathlib.Core.Logic.{◌⊎◌, inl, inr, ⊎_elim}
use mathlib.Core.Bool.{true, false≢true}
use mathlib.Core.List.{List}
use Prim.Native.Nat.{ℕ, ◌<◌, ◌≤◌, ◌+◌, ◌-◌}
use native.Mathlib.Omega.{arith}
use lib.Dec.{leb, ltb}
use borrow.Author.Tests.{leb-true, ltb-true}
use Rattle.laws.proofs.Split.{by_test}
use Rattle.days.specs.Day.{History, Day, absent, is_held, start_of, half_at, count}
use Rattle.days.specs.Desk.{Desk, Laws, run, fresh, day_in}
use Rattle.days.specs.Told.{AllHonest, Told}
use Rattle.days.specs.Energy.{Steady, Metered, Unbroken, Close}
use Rattle.days.proofs.Held.{kept}
use Rattle.days.proofs.Energy.{energy}

module _ {L B : Type 0} (D : Desk L B) (W : Laws D) where
  module _ (h : History) (bs : List B) (hs : AllHonest D h bs) where
    told_in : (d : ℕ) → (day_in D (run D (fresh D) bs).ledger d ≡ absent) ⊎ Told D h bs d (day_in D (run D (fresh D) bs).ledger d)
    unfolding day_in
    told_in d =
        by_test (leb D.first d)
        (λ p. by_test (ltb d (D.first + D.days))
        (λ q.
        let lo = leb-true D.first d p in
        let hi = ltb-true d (D.first + D.days) q in
        let e : D.first + (d - D.first) ≡ d = omega arith in
        inr (rw (p, q) (rw e at ((kept D W h bs hs).day (d - D.first) (omega arith)))))
        (λ q. inl (rw (p, q))))
        (λ p. inl (rw p))

    pub energy_kept : (t : ℕ → ℕ) → Metered h t → Steady t → (q n : ℕ) → Unbroken (day_in D (run D (fresh D) bs).ledger) q n
        → Close t (day_in D (run D (fresh D) bs).ledger) q n
    energy_kept t m s q n u = energy h t m s x start room value q n u
      where
        x : ℕ → Day
        x = day_in D (run D (fresh D) bs).ledger

        start : (d : ℕ) → is_held (x d) ≡ true → start_of (x d) ≡ h.start d
        start d i = ⊎_elim (λ e. absurd (false≢true (sym (ap is_held e) ∙ i))) (λ k. k.start i) (told_in d)

        room : (d : ℕ) → count (x d) ≤ 48
        room d = ⊎_elim (λ e. rw e (omega arith)) (λ k. k.room) (told_in d)

        value : (d j : ℕ) → j < count (x d) → half_at (x d) j ≡ h.half d j
        value d j l = ⊎_elim (λ e. let z : count (x d) ≡ 0 = ap count e in absurd (omega arith)) (λ k. k.value j l) (told_in d)
