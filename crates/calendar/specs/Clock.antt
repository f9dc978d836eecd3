-- Time (docs/RULES.md, "Quantities"): whole seconds from 2000-01-01 00:00:00; a day has 48 half-hours, and a second that is a boundary
-- belongs to the half-hour it opens, so a half-hour has ended at t when its end is at or before t.
use Rattle.std.specs.Prelude.{Bool, cond, ◌&&◌, ℕ, ◌+◌, ◌*◌, ◌/◌, ◌%◌, eqb, ltb, Option, Some, None}
use Rattle.calendar.specs.declared.Stamp.{Stamp}
use Rattle.calendar.specs.Calendar.{real_date, day_number, date_of}

abbrev pub seconds_of_day : ℕ
seconds_of_day = 86400

abbrev pub seconds_of_half : ℕ
seconds_of_half = 1800

abbrev pub halves_of_day : ℕ
halves_of_day = 48

-- the first time past 2099
abbrev pub times_in_all : ℕ
times_in_all = 3155760000

-- ---- from a date and a time of day to its second

unfoldable pub real_clock : ℕ → ℕ → ℕ → Bool
real_clock hh mi ss = ltb hh 24 && (ltb mi 60 && ltb ss 60)

unfoldable pub real_stamp : Stamp → Bool
real_stamp s = real_date s.yy s.mm s.dd && real_clock s.hh s.mi s.ss

unfoldable pub second_number : Stamp → ℕ
second_number s = day_number s.yy s.mm s.dd * seconds_of_day + s.hh * 3600 + s.mi * 60 + s.ss

unfoldable pub second_of : Stamp → Option ℕ
second_of s = cond (real_stamp s) (Some (second_number s)) None

-- ---- from a second to its date and time of day, all zeros past the last

unfoldable pub stamp_of : ℕ → Stamp
stamp_of t =
    let d = date_of (t / seconds_of_day) in
    let s = t % seconds_of_day in
    cond (ltb t times_in_all)
    (record { yy = d.yy; mm = d.mm; dd = d.dd; hh = s / 3600; mi = s % 3600 / 60; ss = s % 60 })
    (record { yy = 0; mm = 0; dd = 0; hh = 0; mi = 0; ss = 0 })

-- ---- half-hours ended: of t's own day; of any day d, all of one before and none of one after

abbrev pub ended_at : ℕ → ℕ
ended_at t = t % seconds_of_day / seconds_of_half

unfoldable pub ended_on : ℕ → ℕ → ℕ
ended_on t d = cond (ltb d (t / seconds_of_day)) halves_of_day (cond (eqb d (t / seconds_of_day)) (ended_at t) 0)
