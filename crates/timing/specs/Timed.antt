-- What the loops that are timed do: set-up with fixed values, then events one after another, each handing its recorder and store to the next.
use Rattle.std.specs.Prelude.{ℕ, ◌+◌, ◌*◌, ◌/◌, ◌%◌, cond, List, [], ◌∷◌, eqb}
use Rattle.laws.specs.Each.{for_to}
use Rattle.quantity.specs.Units.{watt_hours}
use Rattle.store.specs.declared.Class.TheVariants.{D}
use Rattle.store.specs.Class.{days_of}
use Rattle.store.specs.Store.{Store}
use Rattle.recorder.specs.declared.SetUp.{SetUp}
use Rattle.recorder.specs.declared.Event.{Event}
use Rattle.recorder.specs.declared.Event.TheVariants.{Count, Clock, Off, On}
use Rattle.recorder.specs.Recorder.{Mem}
use Rattle.recorder.specs.Step.{step}
use Rattle.recorder.specs.SetUp.{given, set_up}
use Rattle.readout.specs.Read.{read_back}
use Rattle.timing.specs.declared.Kind.{Kind}
use Rattle.timing.specs.declared.Kind.TheVariants.{Counts, Clocks, Outages}

-- class d, 1 Wh a pulse, at 2000-01-01 00:00:00, all at zero
abbrev pub meter : SetUp
meter = given (65 ∷ 66 ∷ 67 ∷ 88 ∷ 50 ∷ 52 ∷ 48 ∷ 48 ∷ 48 ∷ 48 ∷ 49 ∷ 55 ∷ []) D (watt_hours 1) 0 (watt_hours 0) 0

unfoldable pub begun : Store → Mem
begun s = (set_up meter s).after

-- Off, and On so many seconds later, in turn
abbrev pub outage : ℕ → ℕ → Event
outage by i = cond (eqb (i % 2) 1) Off (On (by * (i / 2)))

-- the i-th event: the counter goes on by one pulse each time, or the time by so many seconds, with power or without
abbrev pub nth : Kind → ℕ → Event
nth Counts i = Count i
nth (Clocks by) i = Clock (by * i)
nth (Outages by) i = outage by i

unfoldable pub coming : Kind → ℕ → Mem → Mem
coming kind i x = (step x (nth kind (i + 1))).after

-- n of them
unfoldable pub played : Kind → ℕ → Store → Mem
played kind n s = for_to (coming kind) 0 n (begun s)

-- what is answered, the total or the time, beside the store
pub record Totalled : Type 0 where
  pub answer : ℕ
  pub store : Store

abbrev pub totalled : ℕ → Store → Totalled
totalled answer s = record { answer = answer; store = s }

abbrev pub total_of : Mem → Totalled
total_of x = totalled x.recorder.energy.total.0 x.store

abbrev pub time_of : Mem → Totalled
time_of x = totalled x.recorder.clock.time x.store

-- a store when time has gone on to a second
abbrev pub stored : ℕ → Store → Mem
stored to s = played (Clocks to) 1 s

abbrev pub all_days : ℕ
all_days = days_of D

-- reads of all days: the output, and the bytes carried, added up
pub record Reads : Type 0 where
  pub out : List ℕ
  pub bytes : ℕ

abbrev pub reads : List ℕ → ℕ → Reads
reads out bytes = record { out = out; bytes = bytes }

unfoldable pub reading : Mem → ℕ → Reads → Reads
reading x i y = let d = read_back all_days x y.out in reads d.out (y.bytes + d.handed.carried)

unfoldable pub reads_of : ℕ → Mem → List ℕ → Reads
reads_of n x out = for_to (reading x) 0 n (reads out 0)
