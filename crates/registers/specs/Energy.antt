-- The energy registers (docs/RULES.md, "Events", Count): pulses are the counter's value less the last one, modulo 2^32; times the weight they are added to the total and to the active rate's register.
-- Beside that the units of the running half-hour, reckoned without run-round, by which Count is refused.
use Rattle.std.specs.Prelude.{ℕ, ◌+◌, ◌-◌, ◌*◌, ◌%◌, ◌^◌, ◌<◌, ◌≤◌, Bool, false, ◌&&◌, List, [], ◌∷◌, get_or, replicate, nat_le, nat_lt, slice_index_or, slice_set}
use Rattle.laws.specs.Tests.{all_true, all_below}
use Rattle.quantity.specs.declared.CentiKilowatts.{CentiKilowatts}
use Rattle.quantity.specs.declared.RegisterUnits.{RegisterUnits}
use Rattle.quantity.specs.declared.MilliwattHours.{MilliwattHours}
use Rattle.quantity.specs.Units.{total_round, milliwatt_hours, reading_of, last_four, advance_of, demand_of, reading_gap, energy_sum}
use Rattle.registers.specs.declared.Energy.{Energy}
use Rattle.registers.specs.declared.Running.{Running}

-- thousandths of a watt-hour per pulse: 1 to 100,000
abbrev pub least_weight : ℕ
least_weight = 1

abbrev pub most_weight : ℕ
most_weight = 100000

abbrev pub weight_ok : MilliwattHours → Bool
weight_ok w = nat_le least_weight w.0 && nat_le w.0 most_weight

-- rates are 1 to 8, each with its register
abbrev pub rate_count : ℕ
rate_count = 8

abbrev pub rate_ok : ℕ → Bool
rate_ok n = nat_le 1 n && nat_le n rate_count

abbrev pub no_energy : MilliwattHours
no_energy = milliwatt_hours 0

abbrev pub rate_test : List MilliwattHours → ℕ → Bool
rate_test rs i = nat_lt (get_or rs i no_energy).0 total_round

unfoldable pub rates_ok : List MilliwattHours → Bool
rates_ok rs = all_below (rate_test rs) rate_count

-- the ranges
abbrev pub energy_tests : Energy → List Bool
energy_tests e = nat_lt e.total.0 total_round ∷ rate_ok e.rate ∷ rates_ok e.rates ∷ []

abbrev pub energy_ok : Energy → Bool
energy_ok e = all_true (energy_tests e)

-- c less the last value, modulo 2^32
abbrev pub pulses_of : ℕ → ℕ → ℕ
pulses_of last c = (c + 2 ^ 32 - last) % 2 ^ 32

-- the energy of those pulses
unfoldable pub added_of : MilliwattHours → ℕ → ℕ → MilliwattHours
added_of weight last c = milliwatt_hours (pulses_of last c * weight.0)

-- the most pulses that there can be, and the most energy
abbrev pub most_pulses : ℕ
most_pulses = 4294967295

abbrev pub most_added : ℕ
most_added = most_pulses * most_weight

-- the reading less the reading at the half-hour's start, and what Count(c) would add to it
unfoldable pub units_with : MilliwattHours → RegisterUnits → ℕ → Energy → ℕ
units_with weight base c e =
    (reading_gap (reading_of e.total) base).0
    + ((reading_of (milliwatt_hours (e.total.0 + (added_of weight e.last c).0))).0 - (reading_of e.total).0)

-- Count(c): to the total and to the active rate's register, each modulo a million kWh
unfoldable pub energy_counted : MilliwattHours → ℕ → Energy → Energy
energy_counted weight c e =
    let more = added_of weight e.last c in
    record {
      total = energy_sum e.total more;
      last = c;
      rate = e.rate;
      rates = slice_set e.rates (e.rate - 1) (energy_sum (slice_index_or e.rates (e.rate - 1) no_energy) more);
    }

-- c becomes the last value, nothing is counted
abbrev pub energy_last : ℕ → Energy → Energy
energy_last c e = record { total = e.total; last = c; rate = e.rate; rates = e.rates }

abbrev pub energy_rate : ℕ → Energy → Energy
energy_rate n e = record { total = e.total; last = e.last; rate = n; rates = e.rates }

-- registers that begin at a total, a half-hour that begins at a reading
abbrev pub energy_from : MilliwattHours → ℕ → ℕ → Energy
energy_from total last rate = record { total = total; last = last; rate = rate; rates = replicate rate_count no_energy }

abbrev pub running_from : RegisterUnits → Running
running_from u = record { base = u; reverse = false; level2 = false }

-- the demand of a half-hour that began at a reading
abbrev pub demand_since : RegisterUnits → Energy → CentiKilowatts
demand_since base e = demand_of (advance_of (last_four (reading_of e.total)) (last_four base))

-- what counting asks, as plain bounds
pub record Countable (w : MilliwattHours) (e : Energy) : Type 0 where
  pub weight : w.0 ≤ most_weight
  pub total : e.total.0 < total_round
  pub low : 1 ≤ e.rate
  pub high : e.rate ≤ rate_count
