-- Seconds and real stamps are one to one; half-hours ended, as one formula.
-- Assumes nothing.
use Rattle.std.specs.Prelude.{Some, None}
use mathlib.Core.Path.{◌≡◌, refl, sym, ap, ◌∙◌}
use mathlib.Core.Bool.{Bool, true, false, cond, ◌&&◌}
use Prim.Native.Nat.{ℕ, ◌+◌, ◌-◌, ◌*◌, ◌/◌, ◌%◌, ◌≤◌, ◌<◌, min}
use native.Mathlib.Omega.{arith}
use native.Mathlib.Decide.{dec_lt, ℕ_discrete}
use borrow.Author.Tests.{lt-ltb, ltb-true}
use lib.Dec.{ltb}
use Rattle.laws.proofs.Bools.{both}
use Rattle.laws.proofs.Split.{by_dec}
use Rattle.calendar.specs.declared.Stamp.{Stamp}
use Rattle.calendar.specs.Calendar.{real_date, day_number}
use Rattle.calendar.specs.Clock.{seconds_of_day, seconds_of_half, halves_of_day, times_in_all, real_clock, real_stamp, second_number, second_of, stamp_of, ended_at, ended_on}
use Rattle.calendar.proofs.Dates.{Real, real_facts, real_date_lem, day_below, date_of_day_of, date_real, day_of_date_of}
use Rattle.calendar.proofs.Answers.{ended_before, ended_today, ended_after}

pub record RealStamp (s : Stamp) : Type 0 where
  pub date : Real s.yy s.mm s.dd
  pub hour : s.hh < 24
  pub minute : s.mi < 60
  pub second : s.ss < 60

pub stamp_facts : (s : Stamp) → real_stamp s ≡ true → RealStamp s
unfolding real_stamp real_clock
stamp_facts s e =
    let a = both (real_date s.yy s.mm s.dd) (ltb s.hh 24 && (ltb s.mi 60 && ltb s.ss 60)) e in
    let b = both (ltb s.hh 24) (ltb s.mi 60 && ltb s.ss 60) a.1 in
    let c = both (ltb s.mi 60) (ltb s.ss 60) b.1 in
    record {
      date = real_facts s.yy s.mm s.dd a.0;
      hour = ltb-true s.hh 24 b.0;
      minute = ltb-true s.mi 60 c.0;
      second = ltb-true s.ss 60 c.1;
    }

pub stamp_is_real : (s : Stamp) → RealStamp s → real_stamp s ≡ true
unfolding real_stamp real_clock
stamp_is_real s r =
    rw (real_date_lem s.yy s.mm s.dd r.date, lt-ltb s.hh 24 r.hour, lt-ltb s.mi 60 r.minute, lt-ltb s.ss 60 r.second)

module _ (t : ℕ) (h : t < times_in_all) where
  pub stamp_real : RealStamp (stamp_of t)
  unfolding stamp_of
  stamp_real = rw (lt-ltb t times_in_all h) (record { date = date_real (t / seconds_of_day) (omega arith); hour = omega arith; minute = omega arith; second = omega arith })

  second_of_stamp : second_number (stamp_of t) ≡ t
  unfolding stamp_of second_number
  second_of_stamp = rw (lt-ltb t times_in_all h, day_of_date_of (t / seconds_of_day) (omega arith)) (omega arith)

  pub stamp_second : second_of (stamp_of t) ≡ Some t
  unfolding second_of
  stamp_second = rw (stamp_is_real (stamp_of t) stamp_real) (ap Some second_of_stamp)

clock_parts : (n h m s : ℕ) → n ≡ h * 3600 + m * 60 + s → m < 60 → s < 60 → (n / 3600 ≡ h) × (n % 3600 / 60 ≡ m) × (n % 60 ≡ s)
clock_parts n h m s e l k = (omega arith, omega arith, omega arith)

cond_at : (b : Bool) (n m : ℕ) → cond b (Some n) None ≡ Some m → (b ≡ true) × (m ≡ n)
cond_at true n m e = (refl, cc)
cond_at false n m e = absurd (let z : ◌≡◌ {A = ℕ} 0 1 = cc in omega arith)

module _ (s : Stamp) (t : ℕ) (e : second_of s ≡ Some t) where
  at : (real_stamp s ≡ true) × (t ≡ second_number s)
  unfolding second_of
  at = cond_at (real_stamp s) (second_number s) t e

  pub found_stamp : RealStamp s
  found_stamp = stamp_facts s at.0

  parts : (t / seconds_of_day ≡ day_number s.yy s.mm s.dd) × (t % seconds_of_day ≡ s.hh * 3600 + s.mi * 60 + s.ss)
  unfolding second_number
  parts =
      let r = found_stamp in
      let q = at.1 in
      (omega (arith, r.hour, r.minute, r.second), omega (arith, r.hour, r.minute, r.second))

  pub found_day : t / seconds_of_day ≡ day_number s.yy s.mm s.dd
  found_day = parts.0

  pub found_clock : t % seconds_of_day ≡ s.hh * 3600 + s.mi * 60 + s.ss
  found_clock = parts.1

  pub time_below : t < times_in_all
  time_below = omega (arith, found_day, day_below s.yy s.mm s.dd found_stamp.date)

  pub second_stamp : stamp_of t ≡ s
  unfolding stamp_of
  second_stamp =
      let r = found_stamp in
      let p = clock_parts (t % seconds_of_day) s.hh s.mi s.ss found_clock r.minute r.second in
      rw (lt-ltb t times_in_all time_below, found_day, date_of_day_of s.yy s.mm s.dd r.date, p.0, p.1, p.2)

-- ---- half-hours ended

pub ended_formula : (t d : ℕ) → ended_on t d ≡ min halves_of_day ((t - d * seconds_of_day) / seconds_of_half)
ended_formula t d =
    by_dec (dec_lt d (t / seconds_of_day))
    (λ h. sym (ended_before t d h) ∙ omega arith)
    (λ h. by_dec (ℕ_discrete d (t / seconds_of_day))
    (λ e. sym (ended_today t d (ended_at t) e refl) ∙ omega arith)
    (λ n. sym (ended_after t d (omega arith) n) ∙ omega arith))

pub ended_le : (t d : ℕ) → ended_on t d ≤ halves_of_day
ended_le t d = omega (arith, ended_formula t d)
