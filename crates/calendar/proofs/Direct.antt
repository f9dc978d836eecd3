-- A day's year and month by formulas: they are where the day falls in years and months in a row.
-- Assumes nothing.
use mathlib.Core.Path.{◌≡◌, refl, sym}
use mathlib.Core.Bool.{Bool, true, ◌&&◌}
use Prim.Native.Nat.{ℕ, zero, suc, ◌+◌, ◌-◌, ◌*◌, ◌/◌, ◌≤◌, ◌<◌}
use native.Mathlib.Omega.{arith}
use borrow.Author.Tests.{lt-ltb, le-ltb, eqb-true, ltb-true, leb-true}
use lib.Dec.{eqb, ltb, leb}
use Rattle.laws.specs.Tests.{all_below, sum_below}
use Rattle.laws.proofs.Bools.{both}
use Rattle.laws.proofs.Tests.{all_at, sum_none}
use Rattle.calendar.specs.declared.Spot.{Spot}
use Rattle.calendar.specs.Calendar.{days_in_all, leap_day, year_length, months, month_length, place}
use Rattle.calendar.specs.Shift.{before_march, shift}
use Rattle.calendar.proofs.Lengths.{leap_le, years_before, all_years}
use Rattle.calendar.proofs.Place.{place_of, place_fits, sum_one}
use Rattle.calendar.proofs.Months.{month_of, before}

-- ---- the year

abbrev year_of : ℕ → ℕ
year_of d = 4 * d / 1461

module _ (d b : ℕ) (h : d < days_in_all) (e : b ≡ sum_below year_length (year_of d)) where
  pub year_below : b ≤ d
  year_below = omega (arith, years_before (year_of d))

  pub year_at : record { which = year_of d; rest = d - b } ≡ place year_length 99 0 d
  year_at =
      let y = year_of d in
      let up : d < sum_below year_length (y + 1) = omega (arith, years_before (y + 1)) in
      let whole : sum_below year_length y + (d - b) ≡ d = omega (arith, year_below) in
      sym (rw whole at (place_of year_length y 99 (d - b) (omega arith) (omega (arith, year_below, sum_one year_length y))))

pub year_fits : (d : ℕ) (y : Spot) → d < days_in_all → y ≡ place year_length 99 0 d → y.rest < year_length y.which
year_fits d y h e = rw e (place_fits year_length 99 0 d (omega (arith, sum_none year_length, all_years)))

-- ---- the month: its formula, and the days before it, in a year whose February has 30

pub shift_here : (l n : ℕ) → n < before_march l → n ≡ shift l n
unfolding shift
shift_here l n h = rw (lt-ltb n (before_march l) h)

pub shift_on : (l n : ℕ) → before_march l ≤ n → n + (2 - l) ≡ shift l n
unfolding shift
shift_on l n h = rw (le-ltb n (before_march l) h)

-- a day of a year has its month by the formula: tried on every day of a common and of a leap year
right : ℕ → ℕ → Bool
right l n =
    let s = shift l n in
    leb (before (month_of s)) s && (leb (month_of s) 11 && (ltb (s - before (month_of s)) (months l (month_of s)) && eqb (sum_below (months l) (month_of s) + (s - before (month_of s))) n))

common_right : all_below (right 0) 365 ≡ true
unfolding all_below right shift sum_below months
common_right = refl

leap_right : all_below (right 1) 366 ≡ true
unfolding all_below right shift sum_below months
leap_right = refl

right_at : (l n : ℕ) → l ≤ 1 → n < 365 + l → right l n ≡ true
right_at zero n h g = all_at (right 0) 365 common_right n (omega arith)
right_at (suc zero) n h g = all_at (right 1) 366 leap_right n (omega arith)
right_at (suc (suc l)) n h g = absurd (omega arith)

record Right (l n s : ℕ) : Type 0 where
  pub start : before (month_of s) ≤ s
  pub last : month_of s ≤ 11
  pub fits : s - before (month_of s) < months l (month_of s)
  pub sum : sum_below (months l) (month_of s) + (s - before (month_of s)) ≡ n

right_facts : (l n s : ℕ) → l ≤ 1 → n < 365 + l → s ≡ shift l n → Right l n s
unfolding right
right_facts l n s h g e =
    let t = shift l n in
    let a = both (leb (before (month_of t)) t) (leb (month_of t) 11 && (ltb (t - before (month_of t)) (months l (month_of t)) && eqb (sum_below (months l) (month_of t) + (t - before (month_of t))) n)) (right_at l n h g) in
    let b = both (leb (month_of t) 11) (ltb (t - before (month_of t)) (months l (month_of t)) && eqb (sum_below (months l) (month_of t) + (t - before (month_of t))) n) a.1 in
    let c = both (ltb (t - before (month_of t)) (months l (month_of t))) (eqb (sum_below (months l) (month_of t) + (t - before (month_of t))) n) b.1 in
    rw e (record { start = leb-true _ _ a.0; last = leb-true _ _ b.0; fits = ltb-true _ _ c.0; sum = eqb-true _ _ c.1 })

module _ (yy n l s : ℕ) (h : n < year_length yy) (e : l ≡ leap_day yy) (f : s ≡ shift l n) where
  facts : Right (leap_day yy) n s
  unfolding year_length
  facts = right_facts (leap_day yy) n s (leap_le yy) (omega arith) (rw e at f)

  pub month_below : before (month_of s) ≤ s
  month_below = facts.start

  pub month_last : month_of s ≤ 11
  month_last = facts.last

  pub month_rest : s - before (month_of s) ≤ n
  month_rest = omega (arith, facts.sum)

  pub month_at : record { which = month_of s; rest = s - before (month_of s) } ≡ place (month_length yy) 11 0 n
  unfolding month_length
  month_at = let r = facts in sym (rw r.sum at (place_of (months (leap_day yy)) (month_of s) 11 (s - before (month_of s)) r.last r.fits))

pub year_short : (yy n : ℕ) → n < year_length yy → n < 366
unfolding year_length
year_short yy n h = omega (arith, leap_le yy)
