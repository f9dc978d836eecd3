-- What an accepted event does (docs/RULES.md, "Events", the table, in its order).
use Rattle.std.specs.Prelude.{ℕ, ◌+◌, ◌-◌, max, true, false, [], ◌∷◌}
use Rattle.format.specs.Identifier.{with_ppp}
use Rattle.registers.specs.Demand.{demand_reset}
use Rattle.registers.specs.Energy.{energy_counted, energy_last, energy_rate}
use Rattle.registers.specs.declared.Shift.{Shift}
use Rattle.registers.specs.Shift.{shifted}
use Rattle.store.specs.Store.{store, flag_at, flagged}
use Rattle.recorder.specs.Recorder.{Recorder, Mem, Event, Count, Clock, Off, On, Access, Meter, Reset, Rate, Reverse, Ppp, Adjust, with, cap_of, today_of, with_identity, with_clock, with_energy, with_demand, with_running}
use Rattle.recorder.specs.Boundary.{advance_to}

-- daily flags
abbrev pub power_lost : ℕ
power_lost = 128

abbrev pub meter_changed : ℕ
meter_changed = 64

abbrev pub demand_cleared : ℕ
demand_cleared = 32

abbrev pub counted : ℕ → Recorder → Recorder
counted c r = with_energy (energy_counted r.identity.weight c r.energy) r

abbrev pub last_is : ℕ → Recorder → Recorder
last_is c r = with_energy (energy_last c r.energy) r

abbrev pub rate_is : ℕ → Recorder → Recorder
rate_is n r = with_energy (energy_rate n r.energy) r

abbrev pub switched_off : Recorder → Recorder
switched_off r = with_clock (record { time = r.clock.time; on = false; days = r.clock.days }) r

abbrev pub was_reset : Recorder → Recorder
was_reset r = with_demand (demand_reset (today_of r) r.demand) r

-- PPP becomes these three
abbrev pub ppp_is : ℕ → ℕ → ℕ → Recorder → Recorder
ppp_is a b c r =
    with_identity (record { identifier = with_ppp (a ∷ b ∷ c ∷ []) r.identity.identifier; class = r.identity.class; weight = r.identity.weight }) r

-- the running half-hour is marked: Level 2 access, reverse running
abbrev pub accessed : Recorder → Recorder
accessed r = with_running (record { base = r.running.base; reverse = r.running.reverse; level2 = true }) r

abbrev pub reversed : Recorder → Recorder
reversed r = with_running (record { base = r.running.base; reverse = true; level2 = r.running.level2 }) r

-- today gets a flag
unfoldable pub flag_today : ℕ → Mem → Mem
flag_today flag x =
    let r = x.recorder in
    record { recorder = r; store = store x.store.values x.store.starts (flag_at (cap_of r) flag (today_of r) x.store.marks) }

-- every stored day from one on to today gets it
abbrev pub first_flagged : Recorder → ℕ → ℕ
first_flagged r from = max from (today_of r + 1 - r.clock.days)

unfoldable pub flag_from : ℕ → ℕ → Mem → Mem
flag_from from flag x =
    let r = x.recorder in
    record {
      recorder = r;
      store = store x.store.values x.store.starts (flagged (cap_of r) (first_flagged r from) (today_of r + 1) flag x.store.marks);
    }

-- On(t), Meter(c) and Reset
abbrev pub turned_on : ℕ → Mem → Mem
turned_on t x = flag_from (today_of x.recorder) power_lost (advance_to t x)

abbrev pub metered : ℕ → Mem → Mem
metered c x = flag_today meter_changed (with x (accessed (last_is c x.recorder)))

abbrev pub cleared : Mem → Mem
cleared x = flag_today demand_cleared (with x (accessed (was_reset x.recorder)))

-- Adjust(n): the mark first, so that it is the half-hour's that runs before the move
abbrev pub adjusted : Shift → Mem → Mem
adjusted h x = advance_to (shifted x.recorder.clock.time h) (with x (accessed x.recorder))

unfoldable pub after : Mem → Event → Mem
after x (Count c) = with x (counted c x.recorder)
after x (Clock t) = advance_to t x
after x Off = with x (switched_off x.recorder)
after x (On t) = turned_on t x
after x Access = with x (accessed x.recorder)
after x (Meter c) = metered c x
after x Reset = cleared x
after x (Rate n) = with x (rate_is n x.recorder)
after x Reverse = with x (reversed x.recorder)
after x (Ppp a b c) = with x (accessed (ppp_is a b c x.recorder))
after x (Adjust h) = adjusted h x
