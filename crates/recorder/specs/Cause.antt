-- What an event is refused for, of a recorder that is good (docs/RULES.md, "Answer numbers"): 1, 6, 13, 2 and 3, each by the event and what the recorder has.
use Rattle.std.specs.Prelude.{ℕ, ◌-◌, Bool, true, false, not, cond, ◌&&◌, ltb, leb}
use Rattle.format.specs.Identifier.{ppp_ok}
use Rattle.quantity.specs.Units.{value_round}
use Rattle.registers.specs.Energy.{rate_ok}
use Rattle.registers.specs.Shift.{too_far, early, late}
use Rattle.calendar.specs.Clock.{times_in_all}
use Rattle.recorder.specs.Recorder.{Event, Count, Clock, Off, On, Access, Meter, Reset, Rate, Reverse, Ppp, Adjust}

-- 1: On while on, any other event while off
abbrev pub is_on : Event → Bool
is_on (Count c) = false
is_on (Clock t) = false
is_on Off = false
is_on (On t) = true
is_on Access = false
is_on (Meter c) = false
is_on Reset = false
is_on (Rate n) = false
is_on Reverse = false
is_on (Ppp a b c) = false
is_on (Adjust h) = false

unfoldable pub wrong_power : Bool → Event → Bool
wrong_power on e = cond (is_on e) on (not on)

-- 6: a rate that is none of 1 to 8, a PPP with a wrong character, an adjust by more than 900 seconds
abbrev pub bad_value : Event → Bool
bad_value (Count c) = false
bad_value (Clock t) = false
bad_value Off = false
bad_value (On t) = false
bad_value Access = false
bad_value (Meter c) = false
bad_value Reset = false
bad_value (Rate n) = not (rate_ok n)
bad_value Reverse = false
bad_value (Ppp a b c) = not (ppp_ok a b c)
bad_value (Adjust h) = too_far h

-- 13: a time before the running half-hour began
abbrev pub too_early : ℕ → Event → Bool
too_early now (Count c) = false
too_early now (Clock t) = false
too_early now Off = false
too_early now (On t) = false
too_early now Access = false
too_early now (Meter c) = false
too_early now Reset = false
too_early now (Rate n) = false
too_early now Reverse = false
too_early now (Ppp a b c) = false
too_early now (Adjust h) = early now h

-- 2: a time before the present one or past 2099
abbrev pub in_time : ℕ → ℕ → Bool
in_time now t = leb now t && ltb t times_in_all

abbrev pub bad_time : ℕ → Event → Bool
bad_time now (Count c) = false
bad_time now (Clock t) = not (in_time now t)
bad_time now Off = false
bad_time now (On t) = not (in_time now t)
bad_time now Access = false
bad_time now (Meter c) = false
bad_time now Reset = false
bad_time now (Rate n) = false
bad_time now Reverse = false
bad_time now (Ppp a b c) = false
bad_time now (Adjust h) = late now h

-- 3: the running half-hour's units would pass 9,999
abbrev pub most_units : ℕ
most_units = value_round - 1

abbrev pub too_much : (ℕ → ℕ) → Event → Bool
too_much units (Count c) = ltb most_units (units c)
too_much units (Clock t) = false
too_much units Off = false
too_much units (On t) = false
too_much units Access = false
too_much units (Meter c) = false
too_much units Reset = false
too_much units (Rate n) = false
too_much units Reverse = false
too_much units (Ppp a b c) = false
too_much units (Adjust h) = false
