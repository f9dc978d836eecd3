-- What an Adjust does to a recorder in range with a store of its lengths (docs/RULES.md, "Events"): with power on, at both ends of its range, on either side of zero, and everywhere between; with power off.
use Rattle.std.specs.Prelude.{ℕ, ◌+◌, ◌-◌, ◌%◌, ◌<◌, ◌≤◌, ◌≡◌, Bool, true, cond, ltb, leb, eqb, length}
use Rattle.calendar.specs.Clock.{times_in_all}
use Rattle.registers.specs.declared.Shift.{Shift}
use Rattle.registers.specs.declared.Shift.TheVariants.{Ahead, Back}
use Rattle.store.specs.Class.{right_lengths}
use Rattle.recorder.specs.Recorder.{Mem, Clock, Access, Adjust, with, cap_of, with_clock}
use Rattle.recorder.specs.Range.{in_range}
use Rattle.recorder.specs.Boundary.{close_one}
use Rattle.recorder.specs.Effect.{accessed, after}
use Rattle.recorder.specs.Step.{Done, step}

pub record Ready (power : Bool) (x : Mem) : Type 0 where
  pub range : in_range x.recorder ≡ true
  pub on : x.recorder.clock.on ≡ power
  pub lengths : right_lengths (cap_of x.recorder) (length x.store.values) (length x.store.starts) (length x.store.marks) ≡ true

module _ (x : Mem) where
  abbrev now : ℕ
  now = x.recorder.clock.time

  -- the seconds that have passed of the running half-hour
  abbrev passed : ℕ
  passed = now % 1800

  abbrev pub refuses : ℕ → Done
  refuses n = record { answer = n; carried = 0; after = x }

  abbrev done : Mem → Done
  done y = record { answer = 0; carried = 0; after = y }

  abbrev at : ℕ → Mem → Mem
  at t y = with y (with_clock (record { time = t; on = true; days = y.recorder.clock.days }) y.recorder)

  abbrev marked : Mem
  marked = with x (accessed x.recorder)

  -- it is t in the same half-hour, which is marked: the store, the rate and all else are as they were
  abbrev pub stays : ℕ → Done
  stays t = done (at t marked)

  -- it is t in the next half-hour, which is not marked: the store has the one before, closed with its mark
  abbrev pub closes : ℕ → Done
  closes t = done (at t (close_one marked))

  -- the range, -900 to 900, and a half-hour's seconds stand here as numbers: what is proved does not follow a definition that is changed
  pub record Ends : Type 0 where
    pub at_901_back : step x (Adjust (Back 901)) ≡ refuses 6
    pub at_900_back : step x (Adjust (Back 900)) ≡ cond (leb 900 passed) (stays (now - 900)) (refuses 13)
    pub at_1_back : step x (Adjust (Back 1)) ≡ cond (leb 1 passed) (stays (now - 1)) (refuses 13)
    pub at_0_back : step x (Adjust (Back 0)) ≡ stays now
    pub at_0_ahead : step x (Adjust (Ahead 0)) ≡ stays now
    pub at_1_ahead : step x (Adjust (Ahead 1)) ≡ cond (ltb (now + 1) times_in_all) (cond (eqb passed 1799) (closes (now + 1)) (stays (now + 1))) (refuses 2)
    pub at_900_ahead : step x (Adjust (Ahead 900)) ≡ cond (ltb (now + 900) times_in_all) (cond (leb 900 passed) (closes (now + 900)) (stays (now + 900))) (refuses 2)
    pub at_901_ahead : step x (Adjust (Ahead 901)) ≡ refuses 6
    -- and by any number of seconds
    pub far_back : (n : ℕ) → 900 < n → step x (Adjust (Back n)) ≡ refuses 6
    pub back : (n : ℕ) → n ≤ 900 → step x (Adjust (Back n)) ≡ cond (leb n passed) (stays (now - n)) (refuses 13)
    pub ahead : (n : ℕ) → n ≤ 900 → step x (Adjust (Ahead n)) ≡ cond (ltb (now + n) times_in_all) (cond (leb 1800 (passed + n)) (closes (now + n)) (stays (now + n))) (refuses 2)
    pub far_ahead : (n : ℕ) → 900 < n → step x (Adjust (Ahead n)) ≡ refuses 6
    -- so forward is as Clock, once the running half-hour is marked, and zero as Access
    pub as_clock : (n : ℕ) → after x (Adjust (Ahead n)) ≡ after (after x Access) (Clock (now + n))
    pub as_access : (after x (Adjust (Ahead 0)) ≡ after x Access) × (after x (Adjust (Back 0)) ≡ after x Access)

  -- with power off, whatever the number
  abbrev pub OffRefuses : Type 0
  OffRefuses = (h : Shift) → step x (Adjust h) ≡ refuses 1
