-- Some numbers and real dates are one to one.
-- Assumes nothing.
use Rattle.std.specs.Prelude.{Some, None}
use mathlib.Core.Path.{◌≡◌, refl, ap}
use mathlib.Core.Bool.{Bool, true, false, cond, ◌&&◌}
use Prim.Native.Nat.{ℕ, ◌+◌, ◌-◌, ◌≤◌, ◌<◌}
use native.Mathlib.Omega.{arith}
use borrow.Author.Tests.{lt-ltb, le-leb, ltb-true, leb-true}
use lib.Dec.{ltb, leb}
use Rattle.laws.specs.Tests.{sum_below}
use Rattle.laws.proofs.Bools.{both}
use Rattle.laws.proofs.Tests.{sum_none}
use Rattle.calendar.specs.declared.Spot.{Spot}
use Rattle.calendar.specs.Calendar.{days_in_all, place, leap_day, year_length, months, month_length, real_date, day_number, day_of, in_month, in_year, date_of}
use Rattle.calendar.proofs.Lengths.{month_le, all_years, all_months}
use Rattle.calendar.proofs.Place.{place_sum, place_le, place_fits, place_of, sum_one, sum_up}

-- ---- worked cases

pub real_240229 : day_of 24 2 29 ≡ Some 8825
unfolding day_of real_date day_number sum_below year_length months month_length leap_day
real_240229 = refl

pub unreal_230229 : day_of 23 2 29 ≡ None
unfolding day_of real_date months month_length leap_day
unreal_230229 = refl

pub date_of_last : date_of 36524 ≡ record { yy = 99; mm = 12; dd = 31 }
unfolding date_of in_year in_month place year_length months month_length leap_day
date_of_last = refl

-- ---- what a real date is

pub record Real (yy mm dd : ℕ) : Type 0 where
  pub year : yy < 100
  pub month : 1 ≤ mm
  pub last_month : mm ≤ 12
  pub day : 1 ≤ dd
  pub last_day_of : dd ≤ month_length yy (mm - 1)

pub real_facts : (yy mm dd : ℕ) → real_date yy mm dd ≡ true → Real yy mm dd
unfolding real_date
real_facts yy mm dd e =
    let a = both (ltb yy 100) (leb 1 mm && (leb mm 12 && (leb 1 dd && leb dd (month_length yy (mm - 1))))) e in
    let b = both (leb 1 mm) (leb mm 12 && (leb 1 dd && leb dd (month_length yy (mm - 1)))) a.1 in
    let c = both (leb mm 12) (leb 1 dd && leb dd (month_length yy (mm - 1))) b.1 in
    let d = both (leb 1 dd) (leb dd (month_length yy (mm - 1))) c.1 in
    record {
      year = ltb-true yy 100 a.0;
      month = leb-true 1 mm b.0;
      last_month = leb-true mm 12 c.0;
      day = leb-true 1 dd d.0;
      last_day_of = leb-true dd (month_length yy (mm - 1)) d.1;
    }

pub real_date_lem : (yy mm dd : ℕ) → Real yy mm dd → real_date yy mm dd ≡ true
unfolding real_date
real_date_lem yy mm dd r =
    rw (lt-ltb yy 100 r.year, le-leb 1 mm r.month, le-leb mm 12 r.last_month, le-leb 1 dd r.day, le-leb dd (month_length yy (mm - 1)) r.last_day_of)

-- ---- from a date to its day, and back

module _ (yy mm dd : ℕ) (r : Real yy mm dd) where
  pub day_short : dd ≤ 31
  day_short = omega (arith, r.last_day_of, month_le yy (mm - 1))

  -- the days before the date within its year are fewer than the year's
  in_year_lem : sum_below (month_length yy) (mm - 1) + (dd - 1) < year_length yy
  in_year_lem =
      let e : mm - 1 + 1 ≡ mm = omega arith in
      omega (arith, r.day, r.last_day_of, sum_one (month_length yy) (mm - 1), sum_up (month_length yy) (mm - 1 + 1) 12 (omega (arith, r.last_month)), all_months yy)

  pub day_below : day_number yy mm dd < days_in_all
  unfolding day_number
  day_below = omega (arith, in_year_lem, sum_one year_length yy, sum_up year_length (yy + 1) 100 (omega (arith, r.year)), all_years)

  pub date_of_day_of : date_of (day_number yy mm dd) ≡ record { yy = yy; mm = mm; dd = dd }
  unfolding date_of in_year in_month day_number
  date_of_day_of =
      let n = sum_below (month_length yy) (mm - 1) + (dd - 1) in
      let a : sum_below year_length yy + sum_below (month_length yy) (mm - 1) + (dd - 1) ≡ sum_below year_length yy + n = omega arith in
      let y : place year_length 99 0 (sum_below year_length yy + n) ≡ record { which = yy; rest = n } = place_of year_length yy 99 n (omega (arith, r.year)) in_year_lem in
      let m : place (month_length yy) 11 0 n ≡ record { which = mm - 1; rest = dd - 1 } =
      place_of (month_length yy) (mm - 1) 11 (dd - 1) (omega (arith, r.last_month)) (omega (arith, r.day, r.last_day_of)) in
      let b : mm - 1 + 1 ≡ mm = omega (arith, r.month) in
      let c : dd - 1 + 1 ≡ dd = omega (arith, r.day) in
      rw (lt-ltb _ days_in_all day_below, a, y, m, b, c)

-- ---- from a day to its date, and back

module _ (d : ℕ) (h : d < days_in_all) where
  y : Spot
  y = place year_length 99 0 d

  m : Spot
  unfolding y
  m = place (month_length y.which) 11 0 y.rest

  date_is : date_of d ≡ in_month y.which m
  unfolding y m date_of in_year
  date_is = rw (lt-ltb d days_in_all h)

  pub date_real : Real (date_of d).yy (date_of d).mm (date_of d).dd
  unfolding y m in_month
  date_real =
      let fits : y.rest < year_length y.which = place_fits year_length 99 0 d (omega (arith, sum_none year_length, all_years)) in
      let fits-m : m.rest < month_length y.which m.which = place_fits (month_length y.which) 11 0 y.rest (omega (arith, sum_none (month_length y.which), all_months y.which)) in
      let e : m.which + 1 - 1 ≡ m.which = omega arith in
      rw date_is (record {
        year = omega (arith, place_le year_length 99 0 d);
        month = omega arith;
        last_month = omega (arith, place_le (month_length y.which) 11 0 y.rest);
        day = omega arith;
        last_day_of = rw e (omega arith);
      })

  pub day_of_date_of : day_number (date_of d).yy (date_of d).mm (date_of d).dd ≡ d
  unfolding y m in_month day_number
  day_of_date_of =
      let e : m.which + 1 - 1 ≡ m.which = omega arith in
      rw (date_is, e) (omega (arith, sum_none year_length, sum_none (month_length y.which), place_sum year_length 99 0 d, place_sum (month_length y.which) 11 0 y.rest))

  pub date_day : day_of (date_of d).yy (date_of d).mm (date_of d).dd ≡ Some d
  unfolding day_of
  date_day = rw (real_date_lem (date_of d).yy (date_of d).mm (date_of d).dd date_real) (ap Some day_of_date_of)

-- ---- what an answer of `day_of` says

cond_unreal : (b : Bool) (n : ℕ) → cond b (Some n) None ≡ None → b ≡ false
cond_unreal true n e = absurd (let z : ◌≡◌ {A = ℕ} 0 1 = cc in omega arith)
cond_unreal false n e = refl

cond_day : (b : Bool) (n m : ℕ) → cond b (Some n) None ≡ Some m → (b ≡ true) × (m ≡ n)
cond_day true n m e = (refl, cc)
cond_day false n m e = absurd (let z : ◌≡◌ {A = ℕ} 0 1 = cc in omega arith)

module _ (yy mm dd : ℕ) where
  pub unreal_date : day_of yy mm dd ≡ None → real_date yy mm dd ≡ false
  unfolding day_of
  unreal_date e = cond_unreal (real_date yy mm dd) (day_number yy mm dd) e

  module _ (n : ℕ) (e : day_of yy mm dd ≡ Some n) where
    parts : (real_date yy mm dd ≡ true) × (n ≡ day_number yy mm dd)
    unfolding day_of
    parts = cond_day (real_date yy mm dd) (day_number yy mm dd) n e

    pub found_date : real_date yy mm dd ≡ true
    found_date = parts.0

    pub found_is : n ≡ day_number yy mm dd
    found_is = parts.1

    pub found_real : Real yy mm dd
    found_real = real_facts yy mm dd found_date

    pub found_below : n < days_in_all
    found_below = rw found_is (day_below yy mm dd found_real)

    pub day_date : date_of n ≡ record { yy = yy; mm = mm; dd = dd }
    day_date = rw found_is (date_of_day_of yy mm dd found_real)
