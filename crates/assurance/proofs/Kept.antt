-- The invariant: as half-hour q runs, the registers are the paper's totals run round, and each day that is stored is the paper's, in its room.
-- Assumes nothing.
use Prim.Native.Nat.{ℕ, suc, ◌+◌, ◌-◌, ◌*◌, ◌/◌, ◌%◌, ◌<◌, ◌≤◌, min}
use mathlib.Core.Path.{◌≡◌, ap}
use mathlib.Core.Bool.{Bool, true, false}
use mathlib.Core.List.{List}
use native.Mathlib.Omega.{arith}
use lib.ListN.{length, get_or}
use Rattle.laws.specs.Bits.{pack_bits}
use Rattle.quantity.specs.Units.{total_round, demand_round, reading_at, value_at}
use Rattle.format.specs.Identifier.{ident_ok, SameMeter}
use Rattle.store.specs.Class.{days_of}
use Rattle.store.specs.Store.{Store, Fits}
use Rattle.registers.specs.declared.Energy.{Energy}
use Rattle.registers.specs.declared.Demand.{Demand}
use Rattle.registers.specs.declared.Present.{Present}
use Rattle.registers.specs.declared.Running.{Running}
use Rattle.registers.specs.Demand.{count_round}
use Rattle.registers.specs.Energy.{least_weight, most_weight, no_energy}
use Rattle.recorder.specs.declared.SetUp.{SetUp}
use Rattle.recorder.specs.Recorder.{Mem}
use Rattle.recorder.specs.Cause.{most_units}
use Rattle.assurance.specs.Paper.{Counts, Marks, Demands, Tape, Paper, now, total_at, units_of, peak_of, flags_of}

abbrev pub cap_of : SetUp → ℕ
cap_of s = days_of s.class

abbrev pub first_day : SetUp → ℕ
first_day s = s.time / 86400

-- set-up was accepted
pub record Given (s : SetUp) : Type 0 where
  pub identifier : ident_ok s.identifier 0 ≡ true
  pub some : 0 < cap_of s
  pub weight_low : least_weight ≤ s.weight.0
  pub weight_high : s.weight.0 ≤ most_weight
  pub time : s.time < 3155760000
  pub total : s.total.0 < total_round

-- the half-hours of day d that have ended as half-hour q runs; and a day's marks
abbrev pub reached : ℕ → ℕ → ℕ
reached q d = min 48 (q - 48 * d)

unfoldable pub of_day : (ℕ → Bool) → ℕ → ℕ → Bool
of_day f d j = f (48 * d + j)

-- day d is in the store: not before set-up, not to come, and less than a round old
pub record Stored (s : SetUp) (q d : ℕ) : Type 0 where
  pub first : first_day s ≤ d
  pub last : d ≤ q / 48
  pub near : q / 48 < d + cap_of s

-- ---- the registers

-- totals never fall, no half-hour passes 9,999 units, and nothing is counted of what is to come
pub record EnergyKept (s : SetUp) (c : Counts) (q : ℕ) (e : Energy) : Type 0 where
  pub up : (h : ℕ) → total_at s c h ≤ total_at s c (suc h)
  pub slow : (h : ℕ) → units_of s c h ≤ most_units
  pub flat : (h : ℕ) → q < h → total_at s c h ≡ total_at s c (suc q)
  pub total : e.total.0 ≡ total_at s c (suc q) % total_round
  pub rates_long : length e.rates ≡ 8
  pub rates : (i : ℕ) → i < 8 → (get_or e.rates i no_energy).0 ≡ c.rate i % total_round
  pub rate_low : 1 ≤ e.rate
  pub rate_high : e.rate ≤ 8

pub record DemandKept (s : SetUp) (c : Counts) (p : Demands) (q : ℕ) (d : Demand) : Type 0 where
  pub since : p.since ≤ q
  pub current : d.current.0 ≡ peak_of s c p.since q
  pub previous : d.previous.0 ≡ p.previous
  pub previous_few : p.previous < demand_round
  pub cumulative : d.cumulative.0 ≡ p.cumulative % demand_round
  pub reset : d.reset ≡ p.date
  pub date : p.date ≤ 36525
  pub count : d.count ≡ p.resets % count_round
  pub never : p.date ≡ 0 → p.resets ≡ 0

-- nothing is marked of what is to come
pub record RunningKept (s : SetUp) (c : Counts) (m : Marks) (q : ℕ) (r : Running) : Type 0 where
  pub base : r.base.0 ≡ reading_at (total_at s c q)
  pub reverse : r.reverse ≡ m.reverse q
  pub level2 : r.level2 ≡ m.level2 q
  pub no_reverse : (h : ℕ) → q < h → m.reverse h ≡ false
  pub no_level2 : (h : ℕ) → q < h → m.level2 h ≡ false

pub record ClockKept (s : SetUp) (q : ℕ) (c : Present) : Type 0 where
  pub begun : s.time / 1800 ≤ q
  pub here : c.time / 1800 ≡ q
  pub days : c.days ≡ min (cap_of s) (q / 48 + 1 - first_day s)

-- ---- the store: room r has day d, of which k half-hours have ended

pub record ValuesKept (s : SetUp) (c : Counts) (d k r : ℕ) (values starts : List ℕ) : Type 0 where
  pub start : get_or starts r 0 ≡ reading_at (total_at s c (48 * d))
  pub value : (j : ℕ) → j < k → get_or values (r * 48 + j) 0 ≡ value_at (total_at s c (48 * d + suc j))

pub record MarksKept (m : Marks) (d k r : ℕ) (words : List ℕ) : Type 0 where
  pub reverse : get_or words (r * 3) 0 ≡ pack_bits k (of_day m.reverse d)
  pub level2 : get_or words (r * 3 + 1) 0 ≡ pack_bits k (of_day m.level2 d)

pub record StoreKept (s : SetUp) (p : Tape) (q : ℕ) (x : Store) : Type 0 where
  pub fits : Fits (cap_of s) x
  pub values : (d : ℕ) → Stored s q d → ValuesKept s p.counts d (reached q d) (d % cap_of s) x.values x.starts
  pub marks : (d : ℕ) → Stored s q d → MarksKept p.marks d (reached q d) (d % cap_of s) x.marks
  pub flags : (d : ℕ) → Stored s q d → get_or x.marks (d % cap_of s * 3 + 2) 0 ≡ flags_of p.flags d

-- ---- the identifier: one, and of the set-up's meter

pub record NameKept (s : SetUp) (id kept : List ℕ) : Type 0 where
  pub is : kept ≡ id
  pub right : ident_ok id 0 ≡ true
  pub meter : SameMeter id s.identifier

-- ---- all of it

pub record KeptAt (s : SetUp) (p : Tape) (q : ℕ) (x : Mem) : Type 0 where
  pub identity : (x.recorder.identity.class ≡ s.class) × (x.recorder.identity.weight ≡ s.weight)
  pub clock : ClockKept s q x.recorder.clock
  pub energy : EnergyKept s p.counts q x.recorder.energy
  pub demand : DemandKept s p.counts p.demands q x.recorder.demand
  pub running : RunningKept s p.counts p.marks q x.recorder.running
  pub no_flags : (d : ℕ) → q / 48 < d → flags_of p.flags d ≡ 0
  pub store : StoreKept s p q x.store

-- and the recorder's present is the paper's
pub record Kept (s : SetUp) (p : Paper) (x : Mem) : Type 0 where
  pub time : x.recorder.clock.time ≡ p.time
  pub on : x.recorder.clock.on ≡ p.on
  pub last : x.recorder.energy.last ≡ p.last
  pub rate : x.recorder.energy.rate ≡ p.rate
  pub name : NameKept s p.identifier x.recorder.identity.identifier
  pub century : p.time < 3155760000
  pub at : KeptAt s p.tape (now p) x

-- the recorder's class and its day
module _ (s : SetUp) (p : Tape) (q : ℕ) (x : Mem) (g : KeptAt s p q x) where
  pub cap_is : days_of x.recorder.identity.class ≡ cap_of s
  cap_is = ap days_of g.identity.0

  pub day_is : x.recorder.clock.time / 86400 ≡ q / 48
  day_is = omega (arith, g.clock.here)
