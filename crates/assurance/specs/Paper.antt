-- An outstation with paper that never ends: what set-up and the events wrote, with no store and no register that runs round.
-- Half-hour q is half-hour q % 48 of day q / 48, all numbered from 2000-01-01 00:00 (docs/RULES.md, "Quantities").
use Rattle.std.specs.Prelude.{ℕ, zero, suc, ◌+◌, ◌-◌, ◌*◌, ◌/◌, max, Bool, List}
use Rattle.laws.specs.Bits.{bit}
use Rattle.quantity.specs.Units.{reading_at, value_at, units_from}
use Rattle.calendar.specs.Clock.{seconds_of_half, seconds_of_day, halves_of_day}
use Rattle.days.specs.Day.{History}
use Rattle.recorder.specs.declared.SetUp.{SetUp}
use Rattle.recorder.specs.Effect.{power_lost, meter_changed, demand_cleared}

-- the energy of accepted Counts, in thousandths of a watt-hour: what came before half-hour q began (of a half-hour to come: all so far), and what at rate i + 1
pub record Counts : Type 0 where
  pub before : ℕ → ℕ
  pub rate : ℕ → ℕ

-- the half-hours marked
pub record Marks : Type 0 where
  pub reverse : ℕ → Bool
  pub level2 : ℕ → Bool

-- the days that an outage touched, and those on which Meter or Reset happened
pub record Flags : Type 0 where
  pub outage : ℕ → Bool
  pub meter : ℕ → Bool
  pub reset : ℕ → Bool

-- demands in hundredths of a kW: the half-hour of set-up or of the last Reset; what that Reset found, and all Resets together;
-- how many they were, and the day of the last (0 never, d + 1 on day d)
pub record Demands : Type 0 where
  pub since : ℕ
  pub previous : ℕ
  pub cumulative : ℕ
  pub resets : ℕ
  pub date : ℕ

pub record Tape : Type 0 where
  pub counts : Counts
  pub marks : Marks
  pub flags : Flags
  pub demands : Demands

-- the present time, power, the counter's last value, the active rate, the identifier; and what is written
pub record Paper : Type 0 where
  pub time : ℕ
  pub on : Bool
  pub last : ℕ
  pub rate : ℕ
  pub identifier : List ℕ
  pub tape : Tape

-- the running half-hour, and today
abbrev pub now : Paper → ℕ
now p = p.time / seconds_of_half

abbrev pub today : Paper → ℕ
today p = p.time / seconds_of_day

-- the total as half-hour q began, not reduced; the units of half-hour q
unfoldable pub total_at : SetUp → Counts → ℕ → ℕ
total_at s c q = s.total.0 + c.before q

unfoldable pub units_of : SetUp → Counts → ℕ → ℕ
units_of s c q = units_from (total_at s c q) (total_at s c (suc q))

-- the largest of f from, .., f (from + n - 1); so the largest demand of the half-hours from one up to q
unfoldable pub largest : (ℕ → ℕ) → ℕ → ℕ → ℕ
largest f from zero = 0
largest f from (suc n) = max (largest f from n) (f (from + n))

abbrev pub peak_of : SetUp → Counts → ℕ → ℕ → ℕ
peak_of s c from q = 2 * largest (units_of s c) from (q - from)

-- a day's flags
unfoldable pub flags_of : Flags → ℕ → ℕ
flags_of f d = bit (f.outage d) * power_lost + bit (f.meter d) * meter_changed + bit (f.reset d) * demand_cleared

-- the history that the paper is
unfoldable pub history_of : SetUp → Tape → History
history_of s p =
    record {
      start = λ d. reading_at (total_at s p.counts (halves_of_day * d));
      flags = λ d. flags_of p.flags d;
      half = λ d j.
          record {
            value = value_at (total_at s p.counts (halves_of_day * d + suc j));
            reverse = p.marks.reverse (halves_of_day * d + j);
            level2 = p.marks.level2 (halves_of_day * d + j);
          };
    }
