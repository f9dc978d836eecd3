-- What the functions below the entries ask of a recorder and its store: each is proved to hold wherever they are called, and no entry asks anything.
use Rattle.std.specs.Prelude.{ℕ, ◌/◌, ◌<◌, ◌≤◌, Bool, true, false, Option, Some, None, cond, List}
use Rattle.quantity.specs.Units.{total_round}
use Rattle.registers.specs.Demand.{count_round}
use Rattle.registers.specs.Shift.{shifted}
use Rattle.calendar.specs.Clock.{seconds_of_half, times_in_all}
use Rattle.store.specs.Class.{days_of}
use Rattle.store.specs.Store.{Store, Fits, Words}
use Rattle.recorder.specs.declared.SetUp.{SetUp}
use Rattle.recorder.specs.Recorder.{Recorder, Mem, Event, Count, Clock, Off, On, Access, Meter, Reset, Rate, Reverse, Ppp, Adjust, cap_of, half_of}
use Rattle.recorder.specs.Boundary.{advance_to}
use Rattle.recorder.specs.Effect.{accessed, turned_on}

pub record Good (x : Mem) : Type 0 where
  pub time : x.recorder.clock.time < times_in_all
  pub days : x.recorder.clock.days ≤ cap_of x.recorder
  pub total : x.recorder.energy.total.0 < total_round
  pub fits : Fits (cap_of x.recorder) x.store

-- time can become t, whose half-hour has not ended
pub record Goes (t : ℕ) (x : Mem) : Type 0 where
  pub good : Good x
  pub from : half_of x.recorder ≤ t / seconds_of_half
  pub to : t < times_in_all

-- a Reset
pub record Resets (r : Recorder) : Type 0 where
  pub time : r.clock.time < times_in_all
  pub count : r.demand.count < count_round

-- flags
pub record Flaggable (r : Recorder) (m : List ℕ) : Type 0 where
  pub time : r.clock.time < times_in_all
  pub words : Words (cap_of r) m

-- the time that an event tells, and whether it marks the half-hour that runs before
abbrev pub time_in : ℕ → Event → Option (ℕ × Bool)
time_in now (Count c) = None
time_in now (Clock t) = Some (t, false)
time_in now Off = None
time_in now (On t) = Some (t, false)
time_in now Access = None
time_in now (Meter c) = None
time_in now Reset = None
time_in now (Rate n) = None
time_in now Reverse = None
time_in now (Ppp a b c) = None
time_in now (Adjust h) = Some (shifted now h, true)

-- the recorder as it is before time goes on; what is done then, On alone while power is off
abbrev pub marked_if : Bool → Recorder → Recorder
marked_if b r = cond b (accessed r) r

abbrev pub told : ℕ → Mem → Mem
told t x = cond x.recorder.clock.on (advance_to t x) (turned_on t x)

-- a set-up that is accepted
pub record Begins (s : SetUp) (x : Store) : Type 0 where
  pub time : s.time < times_in_all
  pub total : s.total.0 < total_round
  pub fits : Fits (days_of s.class) x
