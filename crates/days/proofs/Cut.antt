-- Two cuts of one history agree, and join to the longer one.
-- Assumes nothing.
use mathlib.Core.Path.{◌≡◌, refl, ap, ◌∙◌}
use mathlib.Core.Bool.{true}
use mathlib.Core.List.{List}
use Prim.Native.Nat.{ℕ, zero, suc, ◌-◌, max}
use native.Mathlib.Omega.{arith}
use lib.Dec.{ltb}
use lib.ListN.{length}
use borrow.Author.Tests.{eq-eqb, ltb-true, ltb-false}
use Rattle.laws.specs.Table.{table}
use Rattle.laws.proofs.Split.{by_test}
use Rattle.laws.proofs.Table.{length_table}
use Rattle.days.specs.Day.{Half, History, whole, flags_held, cut, extent_of, count}
use Rattle.days.specs.Agree.{agree, same_flags, same_day, join_day}
use Rattle.days.proofs.Agree.{same_half_refl}

agree_table : (f : ℕ → Half) (k m : ℕ) → agree (table k f) (table m f) ≡ true
unfolding table
agree_table f zero m = refl
agree_table f (suc k) zero = refl
agree_table f (suc k) (suc m) = rw (same_half_refl (f 0)) (agree_table (λ j. f (suc j)) k m)

flags_same : (xs ys : List Half) (k m f : ℕ) → length xs ≡ k → length ys ≡ m → same_flags xs (flags_held k f) ys (flags_held m f) ≡ true
unfolding same_flags flags_held
flags_same xs ys k m f p q =
    rw (p, q)
    (by_test (whole k)
    (λ a. by_test (whole m) (λ b. rw (a, b) (eq-eqb f f refl)) (λ b. rw (a, b)))
    (λ a. rw a))

pub same_cut : (h : History) (d a b : ℕ) → same_day (cut h d a) (cut h d b) ≡ true
same_cut h d zero b = refl
same_cut h d (suc k) zero = refl
same_cut h d (suc k) (suc m) =
    rw (eq-eqb (h.start d) (h.start d) refl, agree_table (h.half d) k m)
    (flags_same _ _ k m (h.flags d) (length_table k (h.half d)) (length_table m (h.half d)))

extent_cut : (h : History) (d e : ℕ) → extent_of (cut h d e) ≡ e
extent_cut h d zero = refl
extent_cut h d (suc k) = ap suc (length_table k (h.half d))

pub count_cut : (h : History) (d e : ℕ) → count (cut h d e) ≡ e - 1
count_cut h d zero = refl
count_cut h d (suc k) = length_table k (h.half d) ∙ omega arith

pub join_cut : (h : History) (d a b : ℕ) → join_day (cut h d a) (cut h d b) ≡ cut h d (max a b)
unfolding join_day
join_cut h d a b =
    rw (extent_cut h d a, extent_cut h d b)
    (by_test (ltb a b)
    (λ p. let e : max a b ≡ b = omega (arith, ltb-true a b p) in rw (p, e))
    (λ p. let e : max a b ≡ a = omega (arith, ltb-false a b p) in rw (p, e)))
