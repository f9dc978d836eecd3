-- Days and dates (docs/RULES.md, "Quantities": 2000-01-01 to 2099-12-31; YY means 20YY). A day is its number, 0 for 2000-01-01.
-- In these hundred years a year is a leap year exactly where 4 divides it: 2000 is one, and 2100 is past the end.
use Rattle.std.specs.Prelude.{Bool, cond, ◌&&◌, [], ◌∷◌, ℕ, zero, suc, ◌+◌, ◌-◌, ◌%◌, eqb, ltb, leb, get_or, Option, Some, None}
use Rattle.laws.specs.Tests.{sum_below}
use Rattle.calendar.specs.declared.Date.{Date}
use Rattle.calendar.specs.declared.Spot.{Spot}

abbrev pub days_in_all : ℕ
days_in_all = 36525

-- one day more in a leap year
unfoldable pub leap_day : ℕ → ℕ
leap_day yy = cond (eqb (yy % 4) 0) 1 0

unfoldable pub year_length : ℕ → ℕ
year_length yy = 365 + leap_day yy

-- of month i, 0 for January, in a year with l days more than 365
unfoldable pub months : ℕ → ℕ → ℕ
months l i = get_or (31 ∷ (28 + l) ∷ 31 ∷ 30 ∷ 31 ∷ 30 ∷ 31 ∷ 31 ∷ 30 ∷ 31 ∷ 30 ∷ 31 ∷ []) i 0

unfoldable pub month_length : ℕ → ℕ → ℕ
month_length yy i = months (leap_day yy) i

-- ---- from a date to its day

unfoldable pub real_date : ℕ → ℕ → ℕ → Bool
real_date yy mm dd = ltb yy 100 && (leb 1 mm && (leb mm 12 && (leb 1 dd && leb dd (month_length yy (mm - 1)))))

-- the days of the years before it, of the months before it, and of its month
unfoldable pub day_number : ℕ → ℕ → ℕ → ℕ
day_number yy mm dd = sum_below year_length yy + sum_below (month_length yy) (mm - 1) + (dd - 1)

unfoldable pub day_of : ℕ → ℕ → ℕ → Option ℕ
day_of yy mm dd = cond (real_date yy mm dd) (Some (day_number yy mm dd)) None

-- ---- from a day to its date

-- where n falls in lengths in a row, from length k on, with at most f of them passed over
unfoldable pub place : (ℕ → ℕ) → ℕ → ℕ → ℕ → Spot
place len zero k n = record { which = k; rest = n }
place len (suc f) k n = cond (ltb n (len k)) (record { which = k; rest = n }) (place len f (suc k) (n - len k))

unfoldable pub in_month : ℕ → Spot → Date
in_month yy m = record { yy = yy; mm = m.which + 1; dd = m.rest + 1 }

unfoldable pub in_year : Spot → Date
in_year y = in_month y.which (place (month_length y.which) 11 0 y.rest)

-- past the last day: all zeros
unfoldable pub date_of : ℕ → Date
date_of d = cond (ltb d days_in_all) (in_year (place year_length 99 0 d)) (record { yy = 0; mm = 0; dd = 0 })
