-- The advances of an unbroken stretch of held half-hours give the energy that passed, to within one register unit on both sides.
-- Assumes nothing.
use mathlib.Core.Path.{◌≡◌, refl, ap, ◌∙◌}
use mathlib.Core.Bool.{true}
use Prim.Native.Nat.{ℕ, zero, suc, ◌<◌, ◌≤◌, ◌+◌, ◌*◌, ◌/◌, ◌%◌}
use native.Mathlib.Omega.{arith}
use Rattle.quantity.specs.Units.{unit_of, value_round, value_at, units_from, advance}
use Rattle.profile.specs.Profile.{before_at, advance_at}
use Rattle.days.specs.Day.{Half, History, Day, absent, held, is_held, start_of, half_at, count}
use Rattle.days.specs.Energy.{Steady, Metered, values, advance_in, advances, Unbroken, Close}

-- the difference of values is the units passed, where these have four digits; only the last four digits of what stands before count
advance_is : (p x y : ℕ) → p % value_round ≡ value_at x → x ≤ y → units_from x y < value_round → advance p (value_at y) ≡ units_from x y
advance_is p x y e up slow = omega arith

held_of : (x : Day) (j : ℕ) → j < count x → is_held x ≡ true
held_of absent j l = absurd (omega arith)
held_of (held s xs f) j l = refl

module _ (h : History) (t : ℕ → ℕ) (m : Metered h t) (s : Steady t) (x : ℕ → Day)
    (start : (d : ℕ) → is_held (x d) ≡ true → start_of (x d) ≡ h.start d) (room : (d : ℕ) → count (x d) ≤ 48)
    (value : (d j : ℕ) → j < count (x d) → half_at (x d) j ≡ h.half d j) where
  before_is : (d j : ℕ) → j < count (x d) → before_at (start_of (x d)) (values (x d)) j % value_round ≡ value_at (t (48 * d + j))
  unfolding before_at
  before_is d zero l =
      let z : 48 * d + 0 ≡ 48 * d = omega arith in
      rw (start d (held_of (x d) 0 l), m.start d, z) (omega arith)
  before_is d (suc j) l = omega (arith, ap (λ (a : Half). a.value) (value d j (omega arith)) ∙ m.half d j (omega (arith, room d)))

  at_is : (d j : ℕ) → j < count (x d) → (half_at (x d) j).value ≡ value_at (t (48 * d + suc j))
  at_is d j l = rw (value d j l) (m.half d j (omega (arith, room d)))

  advance_in_lem : (q : ℕ) → q % 48 < count (x (q / 48)) → advance_in (x (q / 48)) (q % 48) ≡ units_from (t q) (t (suc q))
  unfolding advance_in advance_at
  advance_in_lem q l =
      let a : 48 * (q / 48) + q % 48 ≡ q = omega arith in
      let b : 48 * (q / 48) + suc (q % 48) ≡ suc q = omega arith in
      rw (at_is (q / 48) (q % 48) l, b) (advance_is (before_at (start_of (x (q / 48))) (values (x (q / 48))) (q % 48)) (t q) (t (suc q)) (rw a at (before_is (q / 48) (q % 48) l)) (s.up q) (s.slow q))

  advances_are : (q n : ℕ) → Unbroken x q n → (t q ≤ t (q + n)) × (advances x q n + t q / unit_of ≡ t (q + n) / unit_of)
  unfolding advances
  advances_are q zero u = let z : q + 0 ≡ q = omega arith in rw z (omega arith)
  advances_are q (suc n) u =
      let z : q + suc n ≡ suc q + n = omega arith in
      rw z (omega (arith, advances_are (suc q) n (λ p lo hi. u p (omega arith) (omega arith)), s.up q, advance_in_lem q (u q (omega arith) (omega arith))))

  pub energy : (q n : ℕ) → Unbroken x q n → Close t x q n
  energy q n u = omega (arith, advances_are q n u)
