-- Lengths of years and months: how long they are at most, and what the days before one come to.
-- Assumes nothing.
use mathlib.Core.Path.{◌≡◌, refl, sym, ap, ◌∙◌}
use mathlib.Core.Bool.{Bool}
use mathlib.Core.List.{List, [], ◌∷◌}
use Prim.Native.Nat.{ℕ, zero, suc, ◌+◌, ◌-◌, ◌*◌, ◌/◌, ◌%◌, ◌≤◌, ◌<◌}
use native.Mathlib.Omega.{arith}
use native.Mathlib.Decide.{dec_lt, ℕ_discrete}
use borrow.Author.Tests.{eq-eqb, ne_eqb, eqb-true, leb-true}
use lib.Dec.{leb, eqb}
use lib.ListN.{get_or, get_or-eq_default}
use Rattle.laws.specs.Tests.{all_below, sum_below}
use Rattle.laws.proofs.Split.{by_dec}
use Rattle.laws.proofs.Tests.{all_at}
use Rattle.calendar.specs.Calendar.{leap_day, year_length, months, month_length, days_in_all}

-- ---- the leap day

pub leap_yes : (yy : ℕ) → yy % 4 ≡ 0 → 1 ≡ leap_day yy
unfolding leap_day
leap_yes yy h = rw (eq-eqb (yy % 4) 0 h)

pub leap_no : (yy : ℕ) → (yy % 4 ≡ 0 → ⊥) → 0 ≡ leap_day yy
unfolding leap_day
leap_no yy h = rw (ne_eqb (yy % 4) 0 h)

pub leap_le : (yy : ℕ) → leap_day yy ≤ 1
leap_le yy =
    by_dec (ℕ_discrete (yy % 4) 0) (λ h. rw (← leap_yes yy h) (omega arith)) (λ h. rw (← leap_no yy h) (omega arith))

-- ---- years

pub year_is : (yy l : ℕ) → l ≡ leap_day yy → 365 + l ≡ year_length yy
unfolding year_length
year_is yy l e = rw e

-- ---- months

abbrev common : List ℕ
common = 31 ∷ 28 ∷ 31 ∷ 30 ∷ 31 ∷ 30 ∷ 31 ∷ 31 ∷ 30 ∷ 31 ∷ 30 ∷ 31 ∷ []

-- the table of the common year is right but for February
pub months_other : (yy i : ℕ) → (i ≡ 1 → ⊥) → get_or common i 0 ≡ month_length yy i
unfolding months month_length
months_other yy zero h = refl
months_other yy (suc zero) h = absurd (h refl)
months_other yy (suc (suc i)) h = refl

pub february_is : (yy i l : ℕ) → i ≡ 1 → l ≡ leap_day yy → 28 + l ≡ month_length yy i
unfolding months month_length
february_is yy i l h e = rw (h, e)

pub months_end : (yy i : ℕ) → 12 ≤ i → 0 ≡ month_length yy i
unfolding months month_length
months_end yy i h = sym (get_or-eq_default (31 ∷ (28 + leap_day yy) ∷ 31 ∷ 30 ∷ 31 ∷ 30 ∷ 31 ∷ 31 ∷ 30 ∷ 31 ∷ 30 ∷ 31 ∷ []) 0 h)

within : ℕ → Bool
within i = leb (get_or common i 0) 31

pub months_table : (i : ℕ) → get_or common i 0 ≤ 31
unfolding within all_below
months_table i =
    by_dec (dec_lt i 12)
    (λ h. leb-true (get_or common i 0) 31 (all_at within 12 refl i h))
    (λ h. let l : 12 ≤ i = omega arith in rw (get_or-eq_default common 0 l) (omega arith))

pub month_le : (yy i : ℕ) → month_length yy i ≤ 31
month_le yy i =
    by_dec (ℕ_discrete i 1)
    (λ e. rw (← february_is yy i (leap_day yy) e refl) (omega (arith, leap_le yy)))
    (λ h. rw (← months_other yy i h) (months_table i))

-- ---- sums

pub all_years : sum_below year_length 100 ≡ days_in_all
unfolding sum_below year_length leap_day
all_years = refl

pub all_months : (yy : ℕ) → sum_below (month_length yy) 12 ≡ year_length yy
unfolding sum_below year_length months month_length
all_months yy = omega arith

-- the days before a year: one more for each leap year
pub years_before : (yy : ℕ) → 365 * yy + (yy + 3) / 4 ≡ sum_below year_length yy
unfolding sum_below year_length
years_before zero = refl
years_before (suc y) =
    by_dec (ℕ_discrete (y % 4) 0)
    (λ h. omega (arith, years_before y, leap_yes y h))
    (λ h. omega (arith, years_before y, leap_no y h))

abbrev before : List ℕ
before = 0 ∷ 31 ∷ 59 ∷ 90 ∷ 120 ∷ 151 ∷ 181 ∷ 212 ∷ 243 ∷ 273 ∷ 304 ∷ 334 ∷ []

-- the days before a month: those of the common year, and the leap day from March on
common_before : ℕ → Bool
common_before i = eqb (get_or before i 0) (sum_below (months 0) i)

before_is : (i : ℕ) → i < 12 → get_or before i 0 ≡ sum_below (months 0) i
unfolding common_before all_below sum_below months
before_is i h = eqb-true (get_or before i 0) (sum_below (months 0) i) (all_at common_before 12 refl i h)

low_before : ℕ → Bool
low_before i = leb (get_or before i 0) 334

before_le : (i : ℕ) → i < 12 → get_or before i 0 ≤ 334
unfolding low_before all_below
before_le i h = leb-true (get_or before i 0) 334 (all_at low_before 12 refl i h)

pub before_few : (i : ℕ) → i < 12 → get_or before i 0 ≤ 341
before_few i h = omega (arith, before_le i h)

pub from_few : (i l : ℕ) → i < 12 → l ≤ 1 → get_or before i 0 + l ≤ 341
from_few i l h e = omega (arith, before_le i h)

pub from_fits : (i l : ℕ) → i < 12 → l ≤ 1 → get_or before i 0 + l < 4294967296
from_fits i l h e = omega (arith, before_le i h)

pub before_march_lem : (yy i : ℕ) → i < 2 → get_or before i 0 ≡ sum_below (month_length yy) i
unfolding sum_below months month_length
before_march_lem yy zero h = refl
before_march_lem yy (suc zero) h = refl
before_march_lem yy (suc (suc i)) h = absurd (omega arith)

later : (l k : ℕ) → sum_below (months 0) (suc (suc k)) + l ≡ sum_below (months l) (suc (suc k))
unfolding sum_below months
later l zero = omega arith
later l (suc k) = omega (arith, later l k)

pub from_march : (yy i l : ℕ) → 2 ≤ i → i < 12 → l ≡ leap_day yy → get_or before i 0 + l ≡ sum_below (month_length yy) i
unfolding month_length
from_march yy i l h g e =
    let p : i ≡ suc (suc (i - 2)) = omega arith in
    ap (λ (n : ℕ). n + l) (before_is i g) ∙ ap (λ (j : ℕ). sum_below (months 0) j + l) p ∙ later l (i - 2)
    ∙ ap (λ (j : ℕ). sum_below (months l) j) (sym p) ∙ ap (λ (m : ℕ). sum_below (months m) i) e
