-- The complete days of a class, and the current day besides (docs/RULES.md, "Set-up"): after any events and reads, every day from the class's number of complete days ago
-- to yesterday, not before the day of set-up, is in the store whole; and a read that asks for one day more than that number sends all of them.
use Rattle.std.specs.Prelude.{ℕ, suc, ◌+◌, ◌/◌, ◌<◌, ◌≤◌, ◌≡◌, true, List, length}
use Rattle.calendar.specs.Clock.{seconds_of_day, halves_of_day, ended_on}
use Rattle.block.specs.Layout.{block_bytes}
use Rattle.writer.specs.Send.{Sent}
use Rattle.days.specs.Day.{cut}
use Rattle.days.specs.View.{offer}
use Rattle.rooms.specs.View.{view_of}
use Rattle.store.specs.Class.{complete_days}
use Rattle.store.specs.Store.{Store}
use Rattle.registers.specs.declared.Present.{Present}
use Rattle.recorder.specs.declared.SetUp.{SetUp}
use Rattle.recorder.specs.Recorder.{Mem}
use Rattle.recorder.specs.SetUp.{set_up}
use Rattle.readout.specs.Read.{read_of}
use Rattle.assurance.specs.Run.{Call, run_all, events_of, block_of}
use Rattle.assurance.specs.Life as life

module _ (s : SetUp) (x : Store) (cs : List Call) where
  -- the recorder and its store after the run; its clock, and the day of that
  abbrev pub end : Mem
  end = run_all (set_up s x).after cs

  abbrev pub clock : Present
  clock = end.recorder.clock

  abbrev pub today : ℕ
  today = clock.time / seconds_of_day

  -- day d is one of the complete days: not before set-up's, over, and no more days ago than the class's number of them
  abbrev pub Complete : ℕ → Type 0
  Complete d = (s.time / seconds_of_day ≤ d) × (d < today) × (today ≤ d + complete_days s.class)

  -- a read that asks for these and today
  abbrev pub asked : ℕ
  asked = complete_days s.class + 1

  abbrev pub read_all : List ℕ → Sent
  read_all out = read_of asked end out

  pub record AllComplete : Type 0 where
    -- all 48 half-hours of such a day have ended; and the store has its start, values, marks and flags as the history has them
    pub over : (d : ℕ) → Complete d → ended_on clock.time d ≡ halves_of_day
    pub stored : (d : ℕ) → Complete d → life.DayStored s x (events_of cs) d
    -- the read is answered 0 while power is on, where the output has room for the days asked; and then what a ledger takes of the block is the whole day as the history has it
    pub answered : (out : List ℕ) → clock.on ≡ true → block_bytes asked ≤ length out → (read_all out).answer.number ≡ 0
    pub sent : (out : List ℕ) → (read_all out).answer.number ≡ 0 → (d : ℕ) → Complete d
        → offer (view_of (block_of (read_all out))) d ≡ cut (life.past s x (events_of cs)) d (suc halves_of_day)
