-- Each answer of the code from its own cause, in the needs' direction, for `search`.
-- Assumes nothing.
use Rattle.std.specs.Prelude.{Option, Some, None}
use mathlib.Core.Path.{◌≡◌, sym, ap, ◌∙◌}
use mathlib.Core.Bool.{false}
use Prim.Native.Nat.{ℕ, ◌+◌, ◌-◌, ◌*◌, ◌/◌, ◌%◌, ◌≤◌, ◌<◌}
use native.Mathlib.Omega.{arith}
use borrow.Author.Tests.{lt-ltb, le-ltb, lt-leb, eq-eqb, ne_eqb}
use lib.Dec.{ltb, leb}
use Rattle.laws.specs.Tests.{sum_below}
use Rattle.laws.proofs.Bools.{no_left, no_right}
use Rattle.calendar.specs.declared.Date.{Date}
use Rattle.calendar.specs.declared.Spot.{Spot}
use Rattle.calendar.specs.declared.Stamp.{Stamp}
use Rattle.calendar.specs.Calendar.{days_in_all, place, year_length, month_length, real_date, day_number, day_of, in_month, in_year, date_of}
use Rattle.calendar.specs.Clock.{seconds_of_day, times_in_all, real_clock, real_stamp, second_number, second_of, stamp_of, ended_at, ended_on}
use Rattle.calendar.specs.Digits.{date_digits, time_digits, day_on, stamp_in, seconds_on}
use Rattle.calendar.proofs.Dates.{real_date_lem, day_short, date_real, unreal_date, found_date, found_is}

-- ---- date_of_day

pub no_such_day : (d : ℕ) → days_in_all ≤ d → record { yy = 0; mm = 0; dd = 0 } ≡ date_of d
unfolding date_of
no_such_day d h = rw (le-ltb d days_in_all h)

module _ (d : ℕ) (y m : Spot) (h : d < days_in_all) (ey : y ≡ place year_length 99 0 d) (em : m ≡ place (month_length y.which) 11 0 y.rest) where
  pub is_date : record { yy = y.which; mm = m.which + 1; dd = m.rest + 1 } ≡ date_of d
  unfolding date_of in_year in_month
  is_date = rw (lt-ltb d days_in_all h) (ap (in_month y.which) em ∙ ap in_year ey)

  pub is_short : m.rest + 1 ≤ 31
  is_short = rw (← ap (λ (a : Date). a.dd) is_date) at (day_short (date_of d).yy (date_of d).mm (date_of d).dd (date_real d h))

-- ---- day_of_date

module _ (yy mm dd : ℕ) where
  unreal : real_date yy mm dd ≡ false → None ≡ day_of yy mm dd
  unfolding day_of
  unreal e = rw e

  pub no_year : 100 ≤ yy → None ≡ day_of yy mm dd
  unfolding real_date
  no_year h = unreal (no_left _ _ (le-ltb yy 100 h))

  pub no_month_zero : mm < 1 → None ≡ day_of yy mm dd
  unfolding real_date
  no_month_zero h = unreal (no_right (ltb yy 100) _ (no_left _ _ (lt-leb 1 mm h)))

  pub no_month : 12 < mm → None ≡ day_of yy mm dd
  unfolding real_date
  no_month h = unreal (no_right (ltb yy 100) _ (no_right (leb 1 mm) _ (no_left _ _ (lt-leb mm 12 h))))

  pub no_day_zero : dd < 1 → None ≡ day_of yy mm dd
  unfolding real_date
  no_day_zero h = unreal (no_right (ltb yy 100) _ (no_right (leb 1 mm) _ (no_right (leb mm 12) _ (no_left _ _ (lt-leb 1 dd h)))))

  pub no_day_lem : (n : ℕ) → n ≡ month_length yy (mm - 1) → n < dd → None ≡ day_of yy mm dd
  unfolding real_date
  no_day_lem n e h =
      unreal (no_right (ltb yy 100) _ (no_right (leb 1 mm) _ (no_right (leb mm 12) _ (no_right (leb 1 dd) _ (lt-leb dd (month_length yy (mm - 1)) (omega arith))))))

  pub is_day_lem : (a b n : ℕ) → yy < 100 → 1 ≤ mm → mm ≤ 12 → 1 ≤ dd → n ≡ month_length yy (mm - 1) → dd ≤ n
      → a ≡ sum_below year_length yy → b ≡ sum_below (month_length yy) (mm - 1) → Some (a + b + (dd - 1)) ≡ day_of yy mm dd
  unfolding day_of day_number
  is_day_lem a b n hy hm lm hd e ld ea eb =
      rw (real_date_lem yy mm dd (record { year = hy; month = hm; last_month = lm; day = hd; last_day_of = omega arith }), ea, eb)

-- ---- stamp_of

pub no_such_time : (t : ℕ) → times_in_all ≤ t → record { yy = 0; mm = 0; dd = 0; hh = 0; mi = 0; ss = 0 } ≡ stamp_of t
unfolding stamp_of
no_such_time t h = rw (le-ltb t times_in_all h)

pub is_stamp : (t : ℕ) (d : Date) → t < times_in_all → d ≡ date_of (t / seconds_of_day)
    → record { yy = d.yy; mm = d.mm; dd = d.dd; hh = t % seconds_of_day / 3600; mi = t % seconds_of_day % 3600 / 60; ss = t % seconds_of_day % 60 } ≡ stamp_of t
unfolding stamp_of
is_stamp t d h e = rw (lt-ltb t times_in_all h, e)

-- ---- second_of

module _ (s : Stamp) where
  never : real_stamp s ≡ false → None ≡ second_of s
  unfolding second_of
  never e = rw e

  pub no_date : (r : Option ℕ) → r ≡ day_of s.yy s.mm s.dd → r ≡ None → None ≡ second_of s
  unfolding real_stamp
  no_date r e u = never (no_left _ _ (unreal_date s.yy s.mm s.dd (sym e ∙ u)))

  no_clock : real_clock s.hh s.mi s.ss ≡ false → None ≡ second_of s
  unfolding real_stamp
  no_clock e = never (no_right (real_date s.yy s.mm s.dd) _ e)

  pub no_hour : 24 ≤ s.hh → None ≡ second_of s
  unfolding real_clock
  no_hour h = no_clock (no_left _ _ (le-ltb s.hh 24 h))

  pub no_minute : 60 ≤ s.mi → None ≡ second_of s
  unfolding real_clock
  no_minute h = no_clock (no_right (ltb s.hh 24) _ (no_left _ _ (le-ltb s.mi 60 h)))

  pub no_second : 60 ≤ s.ss → None ≡ second_of s
  unfolding real_clock
  no_second h = no_clock (no_right (ltb s.hh 24) _ (no_right (ltb s.mi 60) _ (le-ltb s.ss 60 h)))

  pub is_at_lem : (r : Option ℕ) (d n : ℕ) → r ≡ day_of s.yy s.mm s.dd → r ≡ Some d → s.hh < 24 → s.mi < 60 → s.ss < 60
      → n ≡ d * 86400 + s.hh * 3600 + s.mi * 60 + s.ss → Some n ≡ second_of s
  unfolding second_of real_stamp real_clock second_number
  is_at_lem r d n e u h m c en =
      let a : day_of s.yy s.mm s.dd ≡ Some d = sym e ∙ u in
      rw (found_date s.yy s.mm s.dd d a, lt-ltb s.hh 24 h, lt-ltb s.mi 60 m, lt-ltb s.ss 60 c, ← found_is s.yy s.mm s.dd d a, en)

-- ---- ended

module _ (t d : ℕ) where
  pub ended_before : d < t / 86400 → 48 ≡ ended_on t d
  unfolding ended_on
  ended_before h = rw (lt-ltb d (t / 86400) h)

  pub ended_today : (r : ℕ) → d ≡ t / 86400 → r ≡ ended_at t → r ≡ ended_on t d
  unfolding ended_on
  ended_today r h e = rw (le-ltb d (t / 86400) (omega arith), eq-eqb d (t / 86400) h) e

  pub ended_after : t / 86400 ≤ d → (d ≡ t / 86400 → ⊥) → 0 ≡ ended_on t d
  unfolding ended_on
  ended_after h n = rw (le-ltb d (t / 86400) h, ne_eqb d (t / 86400) n)

-- ---- digits

pub is_date_digits : (d : ℕ) (a : Date) → a ≡ date_of d → a.yy * 10000 + a.mm * 100 + a.dd ≡ date_digits (date_of d)
is_date_digits d a e = rw e

pub is_day_on : (x : ℕ) (r : Option ℕ) → r ≡ day_of (x / 10000) (x / 100 % 100) (x % 100) → r ≡ day_on x
unfolding day_on
is_day_on x r e = e

pub is_time_digits : (t : ℕ) (s : Stamp) → s ≡ stamp_of t
    → (s.yy * 10000 + s.mm * 100 + s.dd) * 1000000 + (s.hh * 10000 + s.mi * 100 + s.ss) ≡ time_digits t
unfolding time_digits
is_time_digits t s e = rw e

pub is_seconds_on : (x : ℕ) (r : Option ℕ) → r ≡ second_of (stamp_in x) → r ≡ seconds_on x
unfolding seconds_on
is_seconds_on x r e = e
