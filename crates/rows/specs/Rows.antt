-- A recorder as a row of numbers, in the order in which `show` prints them (docs/REPLAY.md), behind the identifier's letters; and the recorder, or the header,
-- that a row makes. A header as a row is `header_row` of the library for C. Number i of a row is 0 where it has none, and a field takes as many bits of its number
-- as it has.
use Rattle.std.specs.Prelude.{ℕ, ◌+◌, ◌%◌, ◌<◌, ◌≡◌, Bool, cond, List, [], ◌∷◌, ◌++◌, eqb, leb, length, get_or}
use Rattle.std.proofs.lemmas.List.Edits.{sets}
use Rattle.laws.specs.Bits.{bit}
use Rattle.laws.specs.Table.{table}
unfoldable pub use Rattle.parts.specs.Rows.{number_in}
use Rattle.quantity.specs.declared.MilliwattHours.{MilliwattHours}
use Rattle.quantity.specs.declared.KilowattHours.{KilowattHours}
use Rattle.quantity.specs.Units.{milliwatt_hours, units, kilowatt_hours, centi_kilowatts}
use Rattle.format.specs.Identifier.{ident_length, letter_of}
use Rattle.block.specs.declared.Header.{Header}
use Rattle.store.specs.declared.Class.{Class}
use Rattle.store.specs.declared.Class.TheVariants.{A, B, C, D, Blank}
use Rattle.registers.specs.declared.Demand.{Demand}
use Rattle.registers.specs.declared.Energy.{Energy}
use Rattle.registers.specs.declared.Present.{Present}
use Rattle.registers.specs.declared.Running.{Running}
use Rattle.recorder.specs.declared.Identity.{Identity}
use Rattle.recorder.specs.declared.Recorder.{Recorder}

-- a row written at the beginning of an output; one without room for it stays as it was
unfoldable pub put_row : List ℕ → List ℕ → List ℕ
put_row out xs = cond (leb (length xs) (length out)) (sets out 0 xs) out

-- ---- a recorder as a row

-- a class by its number, 0 for none
abbrev pub class_number : Class → ℕ
class_number A = 1
class_number B = 2
class_number C = 3
class_number D = 4
class_number Blank = 0

unfoldable pub register_of : List MilliwattHours → ℕ → ℕ
register_of rates i = (get_or rates i (milliwatt_hours 0)).0

-- class, weight, time, power, days stored, total, counter's last value, active rate
abbrev pub first_eight : Recorder → List ℕ
first_eight r =
    class_number r.identity.class ∷ r.identity.weight.0 ∷ r.clock.time ∷ bit r.clock.on ∷ r.clock.days
    ∷ r.energy.total.0 ∷ r.energy.last ∷ r.energy.rate ∷ []

-- current, previous, cumulative demand, last reset, reset count, reading at the running half-hour's start, its two marks
abbrev pub last_eight : Recorder → List ℕ
last_eight r =
    r.demand.current.0 ∷ r.demand.previous.0 ∷ r.demand.cumulative.0 ∷ r.demand.reset ∷ r.demand.count
    ∷ r.running.base.0 ∷ bit r.running.reverse ∷ bit r.running.level2 ∷ []

unfoldable pub recorder_row : Recorder → List ℕ
recorder_row r =
    table ident_length (letter_of r.identity.identifier) ++ (first_eight r ++ (table 8 (register_of r.energy.rates) ++ last_eight r))

-- where the parts of the row begin, and how many numbers it has
abbrev pub first_eight_at : ℕ
first_eight_at = ident_length

abbrev pub registers_at : ℕ
registers_at = first_eight_at + 8

abbrev pub last_eight_at : ℕ
last_eight_at = registers_at + 8

abbrev pub recorder_numbers : ℕ
recorder_numbers = last_eight_at + 8

-- ---- fields out of a row

abbrev pub small_in : List ℕ → ℕ → ℕ
small_in l i = number_in l i % 4294967296

abbrev pub is_in : List ℕ → ℕ → Bool
is_in l i = eqb (number_in l i) 1

unfoldable pub letter_in : List ℕ → ℕ → ℕ
letter_in l i = number_in l i % 256

unfoldable pub class_numbered : ℕ → Class
class_numbered n = cond (eqb n 1) A (cond (eqb n 2) B (cond (eqb n 3) C (cond (eqb n 4) D Blank)))

-- ---- a recorder out of its row

unfoldable pub register_in : List ℕ → ℕ → MilliwattHours
register_in l i = milliwatt_hours (number_in l (registers_at + i))

abbrev pub identity_from : List ℕ → Identity
identity_from l =
    record { identifier = table ident_length (letter_in l); class = class_numbered (number_in l first_eight_at); weight = milliwatt_hours (number_in l (first_eight_at + 1)) }

abbrev pub present_from : List ℕ → Present
present_from l = record { time = number_in l (first_eight_at + 2); on = is_in l (first_eight_at + 3); days = small_in l (first_eight_at + 4) }

abbrev pub energy_from : List ℕ → Energy
energy_from l =
    record {
      total = milliwatt_hours (number_in l (first_eight_at + 5));
      last = small_in l (first_eight_at + 6);
      rate = small_in l (first_eight_at + 7);
      rates = table 8 (register_in l);
    }

abbrev pub demand_from : List ℕ → Demand
demand_from l =
    record {
      current = centi_kilowatts (number_in l last_eight_at);
      previous = centi_kilowatts (number_in l (last_eight_at + 1));
      cumulative = centi_kilowatts (number_in l (last_eight_at + 2));
      reset = small_in l (last_eight_at + 3);
      count = small_in l (last_eight_at + 4);
    }

abbrev pub running_from : List ℕ → Running
running_from l = record { base = units (number_in l (last_eight_at + 5)); reverse = is_in l (last_eight_at + 6); level2 = is_in l (last_eight_at + 7) }

unfoldable pub recorder_from : List ℕ → Recorder
recorder_from l =
    record { identity = identity_from l; clock = present_from l; energy = energy_from l; demand = demand_from l; running = running_from l }

-- ---- a header out of its row: behind the letters time, kWh register, current, previous, cumulative demand, last reset, reset count, eight rate registers

abbrev pub totals_at : ℕ
totals_at = ident_length

abbrev pub rates_at : ℕ
rates_at = totals_at + 7

unfoldable pub rate_in : List ℕ → ℕ → KilowattHours
rate_in l i = kilowatt_hours (number_in l (rates_at + i))

unfoldable pub header_from : List ℕ → Header
header_from l =
    record {
      identifier = table ident_length (letter_in l);
      time = number_in l totals_at;
      kwh = kilowatt_hours (number_in l (totals_at + 1));
      current = centi_kilowatts (number_in l (totals_at + 2));
      previous = centi_kilowatts (number_in l (totals_at + 3));
      cumulative = centi_kilowatts (number_in l (totals_at + 4));
      reset = small_in l (totals_at + 5);
      count = small_in l (totals_at + 6);
      rates = table 8 (rate_in l);
    }

-- ---- what of any recorder and of any header in a machine holds: their arrays are as long as they are, and their numbers fit

pub record RecorderFits (r : Recorder) : Type 0 where
  pub letters : length r.identity.identifier ≡ ident_length
  pub bytes : (i : ℕ) → i < ident_length → letter_of r.identity.identifier i < 256
  pub registers : length r.energy.rates ≡ 8
  pub days : r.clock.days < 4294967296
  pub last : r.energy.last < 4294967296
  pub rate : r.energy.rate < 4294967296
  pub reset : r.demand.reset < 4294967296
  pub count : r.demand.count < 4294967296

pub record HeaderFits (h : Header) : Type 0 where
  pub letters : length h.identifier ≡ ident_length
  pub bytes : (i : ℕ) → i < ident_length → letter_of h.identifier i < 256
  pub rates : length h.rates ≡ 8
  pub reset : h.reset < 4294967296
  pub count : h.count < 4294967296
