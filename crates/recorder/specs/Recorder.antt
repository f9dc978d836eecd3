-- The recorder beside the store that it is lent, by the names that the code declares.
use Rattle.std.specs.Prelude.{ℕ, ◌/◌, List}
use Rattle.quantity.specs.declared.RegisterUnits.{RegisterUnits}
use Rattle.quantity.specs.Units.{reading_of}
use Rattle.registers.specs.declared.Demand.{Demand}
use Rattle.registers.specs.declared.Energy.{Energy}
use Rattle.registers.specs.declared.Present.{Present}
use Rattle.registers.specs.declared.Running.{Running}
use Rattle.calendar.specs.Clock.{seconds_of_day, seconds_of_half}
use Rattle.store.specs.Class.{days_of}
use Rattle.store.specs.declared.Days.{Days}
use Rattle.store.specs.Store.{Store, store, store_of}
pub use Rattle.recorder.specs.declared.Identity.{Identity}
pub use Rattle.recorder.specs.declared.Recorder.{Recorder}
pub use Rattle.recorder.specs.declared.Event.{Event}
pub use Rattle.recorder.specs.declared.Event.TheVariants.{Count, Clock, Off, On, Access, Meter, Reset, Rate, Reverse, Ppp, Adjust}

pub record Mem : Type 0 where
  pub recorder : Recorder
  pub store : Store

abbrev pub mem : Recorder → List ℕ → List ℕ → List ℕ → Mem
mem r v s m = record { recorder = r; store = store v s m }

-- with the days that are lent
abbrev pub mem_of : Recorder → Days → Mem
mem_of r d = record { recorder = r; store = store_of d }

abbrev pub with : Mem → Recorder → Mem
with x r = record { recorder = r; store = x.store }

-- the days that the class holds, the running half-hour's number, today's, the present reading
abbrev pub cap_of : Recorder → ℕ
cap_of r = days_of r.identity.class

abbrev pub half_of : Recorder → ℕ
half_of r = r.clock.time / seconds_of_half

abbrev pub today_of : Recorder → ℕ
today_of r = r.clock.time / seconds_of_day

abbrev pub reading_now : Recorder → RegisterUnits
reading_now r = reading_of r.energy.total

-- the recorder with one group replaced
abbrev pub with_identity : Identity → Recorder → Recorder
with_identity i r = record { identity = i; clock = r.clock; energy = r.energy; demand = r.demand; running = r.running }

abbrev pub with_clock : Present → Recorder → Recorder
with_clock c r = record { identity = r.identity; clock = c; energy = r.energy; demand = r.demand; running = r.running }

abbrev pub with_energy : Energy → Recorder → Recorder
with_energy e r = record { identity = r.identity; clock = r.clock; energy = e; demand = r.demand; running = r.running }

abbrev pub with_demand : Demand → Recorder → Recorder
with_demand d r = record { identity = r.identity; clock = r.clock; energy = r.energy; demand = d; running = r.running }

abbrev pub with_running : Running → Recorder → Recorder
with_running h r = record { identity = r.identity; clock = r.clock; energy = r.energy; demand = r.demand; running = h }
