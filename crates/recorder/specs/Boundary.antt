-- Boundaries (docs/RULES.md, "Events", Clock): each boundary passed closes a half-hour at the present reading. The running one keeps its marks; those passed over have advance 0 and none.
-- Current demand is the largest of the half-hours closed; where a boundary is midnight a day opens, in the oldest day's room when the store is full.
use Rattle.std.specs.Prelude.{ℕ, ◌+◌, ◌*◌, ◌/◌, ◌%◌, min, true, cond, eqb}
use Rattle.laws.specs.Each.{for_to}
use Rattle.quantity.specs.Units.{last_four}
use Rattle.registers.specs.Demand.{demand_closed}
use Rattle.registers.specs.Energy.{running_from}
use Rattle.registers.specs.Present.{present_at}
use Rattle.calendar.specs.Clock.{seconds_of_half, halves_of_day}
use Rattle.store.specs.Store.{Store, turned, gone}
use Rattle.recorder.specs.Recorder.{Recorder, Mem, with, cap_of, half_of, reading_now, with_clock, with_demand, with_running}

-- the running half-hour ends: its demand may be the largest, and the next begins at the present reading, unmarked
unfoldable pub ended : Recorder → Recorder
ended r = with_demand (demand_closed r.energy r.running r.demand) (with_running (running_from (reading_now r)) r)

-- the days stored once half-hour q has ended
abbrev pub days_after : ℕ → ℕ → ℕ → ℕ
days_after cap q days = cond (eqb ((q + 1) % halves_of_day) 0) (min cap (days + 1)) days

-- one boundary
unfoldable pub close_one : Mem → Mem
close_one x =
    let r = x.recorder in
    record {
      recorder = with_clock (record { time = (half_of r + 1) * seconds_of_half; on = r.clock.on; days = days_after (cap_of r) (half_of r) r.clock.days }) (ended r);
      store = turned (cap_of r) (half_of r) (last_four (reading_now r)).0 (reading_now r).0 r.running.reverse r.running.level2 x.store;
    }

abbrev pub close_at : ℕ → Mem → Mem
close_at k x = close_one x

-- those from the running half-hour up to that of t, none where t lies in the running one, and then it is t, with power on
unfoldable pub advance_to : ℕ → Mem → Mem
advance_to t x =
    let y = for_to close_at (half_of x.recorder) (t / seconds_of_half) x in
    with y (with_clock (record { time = t; on = true; days = y.recorder.clock.days }) y.recorder)

-- the same at one go, where t lies in a later half-hour: the running one ends, and the others are passed over
abbrev pub gone_to : ℕ → Recorder → Recorder
gone_to t r = with_clock (present_at (cap_of r) t r.clock) (ended r)

abbrev pub store_at : ℕ → Recorder → Store → Store
store_at n r s = gone (cap_of r) (half_of r) n (last_four (reading_now r)).0 (reading_now r).0 r.running.reverse r.running.level2 s
