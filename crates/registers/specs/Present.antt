-- The present (docs/RULES.md, "Events"): its time, whether power is on, and the days stored, which are 1 to those of the class and no more than there were up to today.
use Rattle.std.specs.Prelude.{ℕ, ◌+◌, ◌-◌, ◌*◌, ◌/◌, ◌<◌, ◌≤◌, min, Bool, true, List, [], ◌∷◌, nat_le, nat_lt}
use Rattle.laws.specs.Tests.{all_true}
use Rattle.registers.specs.declared.Present.{Present}
use Rattle.calendar.specs.Calendar.{days_in_all}
use Rattle.calendar.specs.Clock.{seconds_of_day, halves_of_day, times_in_all}

-- the half-hours of all days
abbrev pub halves_in_all : ℕ
halves_in_all = days_in_all * halves_of_day

abbrev pub present_tests : ℕ → Present → List Bool
present_tests cap p =
    nat_lt p.time times_in_all ∷ nat_le 1 p.days ∷ nat_le p.days cap ∷ nat_le p.days (p.time / seconds_of_day + 1) ∷ []

abbrev pub present_ok : ℕ → Present → Bool
present_ok cap p = all_true (present_tests cap p)

-- it is t, with power on: one day more is stored for each midnight passed, up to those of the class
abbrev pub present_at : ℕ → ℕ → Present → Present
present_at cap t p = record { time = t; on = true; days = min cap (p.days + (t / seconds_of_day - p.time / seconds_of_day)) }

-- what that asks, as plain bounds
pub record Later (cap t : ℕ) (p : Present) : Type 0 where
  pub days : p.days ≤ cap
  pub most : cap ≤ days_in_all
  pub from : p.time / seconds_of_day ≤ t / seconds_of_day
  pub to : t < times_in_all
