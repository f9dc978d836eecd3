-- The demand registers (docs/RULES.md, "Events", Reset): current is the largest demand of the half-hours closed since set-up or the last Reset; a Reset moves it to previous and adds it to cumulative.
-- Of a reset date 0 is never, and d + 1 is day d.
use Rattle.std.specs.Prelude.{ℕ, ◌+◌, ◌%◌, ◌<◌, max, Bool, List, [], ◌∷◌, nat_le, nat_lt}
use Rattle.laws.specs.Tests.{all_true}
use Rattle.quantity.specs.declared.CentiKilowatts.{CentiKilowatts}
use Rattle.quantity.specs.Units.{demand_round, centi_kilowatts, demand_sum}
use Rattle.registers.specs.declared.Demand.{Demand}
use Rattle.registers.specs.declared.Energy.{Energy}
use Rattle.registers.specs.declared.Running.{Running}
use Rattle.registers.specs.Energy.{demand_since}
use Rattle.calendar.specs.Calendar.{days_in_all}

-- a reset count has two digits
abbrev pub count_round : ℕ
count_round = 100

-- the ranges; a demand has six digits
abbrev pub demand_tests : Demand → List Bool
demand_tests d =
    nat_lt d.current.0 demand_round
    ∷ nat_lt d.previous.0 demand_round
    ∷ nat_lt d.cumulative.0 demand_round
    ∷ nat_le d.reset days_in_all
    ∷ nat_lt d.count count_round ∷ []

abbrev pub demand_ok : Demand → Bool
demand_ok d = all_true (demand_tests d)

abbrev pub larger : CentiKilowatts → CentiKilowatts → CentiKilowatts
larger a b = centi_kilowatts (max a.0 b.0)

-- the running half-hour ends
abbrev pub demand_raised : CentiKilowatts → Demand → Demand
demand_raised x d =
    record { current = larger d.current x; previous = d.previous; cumulative = d.cumulative; reset = d.reset; count = d.count }

abbrev pub demand_closed : Energy → Running → Demand → Demand
demand_closed e h d = demand_raised (demand_since h.base e) d

-- Reset on a day
abbrev pub demand_reset : ℕ → Demand → Demand
demand_reset day d =
    record {
      current = centi_kilowatts 0;
      previous = d.current;
      cumulative = demand_sum d.cumulative d.current;
      reset = day + 1;
      count = (d.count + 1) % count_round;
    }

abbrev pub no_demand : Demand
no_demand = record { current = centi_kilowatts 0; previous = centi_kilowatts 0; cumulative = centi_kilowatts 0; reset = 0; count = 0 }

-- what a Reset asks, as plain bounds
pub record Resettable (on : ℕ) (d : Demand) : Type 0 where
  pub day : on < days_in_all
  pub count : d.count < count_round
