-- Adjustments of the clock (docs/RULES.md, "Events", Adjust), at both ends of the range, on either side of zero, of a boundary, of midnight, of set-up and of the hundred years. For each what the
-- definitions give, and what is due. The half-hour is mostly the one that begins at 12:00:00 of 2000-01-01, second 43200.
use Rattle.std.specs.Prelude.{ℕ, List, [], ◌∷◌, ◌++◌, map}
use Rattle.laws.specs.Bits.{bit}
use Rattle.registers.specs.declared.Shift.{Shift}
use Rattle.registers.specs.declared.Shift.TheVariants.{Ahead, Back}
use Rattle.recorder.specs.declared.Event.TheVariants.{Count, Clock, Off, On, Adjust}
use Rattle.recorder.specs.Recorder.{Mem}
use Rattle.recorder.specs.Step.{run}
use Rattle.recorder.specs.Stored.{value_of, level2_word}
use Rattle.cases.specs.Cases.{Case, meter, next, total, answers, marked}

abbrev pub set_at : ℕ → Mem
set_at time = meter time 0 0 1

-- the answers at a time to seconds ahead and back
abbrev pub judged : ℕ → List Shift → List ℕ
judged time hs = answers (set_at time) (map Adjust hs)

-- the time, the running half-hour's Level 2 mark, and the word of the first day's marks, in which the half-hour closed last is the lowest bit
abbrev pub stands : Mem → List ℕ
stands x = x.recorder.clock.time ∷ bit x.recorder.running.level2 ∷ level2_word x 0 ∷ []

-- after adjustments from a time on
abbrev pub moved : ℕ → List Shift → List ℕ
moved time hs = stands (run (set_at time) (map Adjust hs))

abbrev pub adjustments : List Case
adjustments =
    -- 12:15:00, -901, -900, 0 and 0, 900, 901
    record { given = judged 44100 (Back 901 ∷ Back 900 ∷ Back 0 ∷ Ahead 0 ∷ Ahead 900 ∷ Ahead 901 ∷ []); due = 6 ∷ 0 ∷ 0 ∷ 0 ∷ 0 ∷ 6 ∷ [] }
    -- refused, nothing is moved or marked; back to the half-hour's beginning; on to its end, at which it closes with its mark and the next has none
    ∷ record { given = moved 44100 (Back 901 ∷ Ahead 901 ∷ []); due = 44100 ∷ 0 ∷ 0 ∷ [] }
    ∷ record { given = moved 44100 (Back 900 ∷ []); due = 43200 ∷ 1 ∷ 0 ∷ [] }
    ∷ record { given = moved 44100 (Ahead 900 ∷ []); due = 45000 ∷ 0 ∷ 1 ∷ [] }
    -- 12:14:59, -900 and 900: before the beginning, and short of the end
    ∷ record { given = judged 44099 (Back 900 ∷ Back 899 ∷ Ahead 900 ∷ []); due = 13 ∷ 0 ∷ 0 ∷ [] }
    ∷ record { given = moved 44099 (Ahead 900 ∷ []); due = 44999 ∷ 1 ∷ 0 ∷ [] }
    -- zero, of either sign, inside a half-hour and at its beginning: it marks
    ∷ record { given = moved 44100 (Ahead 0 ∷ []) ++ moved 44100 (Back 0 ∷ []); due = 44100 ∷ 1 ∷ 0 ∷ 44100 ∷ 1 ∷ 0 ∷ [] }
    ∷ record { given = moved 43200 (Ahead 0 ∷ []) ++ moved 43200 (Back 0 ∷ []); due = 43200 ∷ 1 ∷ 0 ∷ 43200 ∷ 1 ∷ 0 ∷ [] }
    -- 12:00:00 and 12:00:01, -1
    ∷ record { given = judged 43200 (Back 1 ∷ []) ++ judged 43201 (Back 1 ∷ Back 2 ∷ []); due = 13 ∷ 0 ∷ 13 ∷ [] }
    ∷ record { given = moved 43201 (Back 1 ∷ Back 1 ∷ []); due = 43200 ∷ 1 ∷ 0 ∷ [] }
    -- 12:29:58 and 12:29:59, 1
    ∷ record { given = moved 44998 (Ahead 1 ∷ []) ++ moved 44999 (Ahead 1 ∷ []); due = 44999 ∷ 1 ∷ 0 ∷ 45000 ∷ 0 ∷ 1 ∷ [] }
    -- several in one half-hour; and over its end, once more in the next: both are marked
    ∷ record { given = moved 44100 (Back 900 ∷ Ahead 900 ∷ Ahead 899 ∷ []); due = 44999 ∷ 1 ∷ 0 ∷ [] }
    ∷ record { given = moved 44100 (Ahead 900 ∷ Back 0 ∷ []); due = 45000 ∷ 1 ∷ 1 ∷ [] }
    -- an ended half-hour is not opened again
    ∷ record { given = moved 44100 (Ahead 900 ∷ Back 1 ∷ []); due = 45000 ∷ 0 ∷ 1 ∷ [] }
    -- 23:45:00, 900: the mark is the old day's, its last half-hour's; the new day has none
    ∷ record { given = moved 85500 (Ahead 900 ∷ []); due = 86400 ∷ 0 ∷ 1 ∷ [] }
    ∷ record { given = level2_word (next (set_at 85500) (Adjust (Ahead 900))) 1 ∷ (next (set_at 85500) (Adjust (Ahead 900))).recorder.clock.days ∷ []; due = 0 ∷ 2 ∷ [] }
    -- set up at 12:10:00, -600, -601: the half-hour began before the second of set-up
    ∷ record { given = judged 43800 (Back 600 ∷ Back 601 ∷ []) ++ moved 43800 (Back 600 ∷ []); due = 0 ∷ 13 ∷ 43200 ∷ 1 ∷ 0 ∷ [] }
    -- 2000-01-01 00:00:00; 6 before 13
    ∷ record { given = judged 0 (Back 901 ∷ Back 900 ∷ Back 1 ∷ Back 0 ∷ []); due = 6 ∷ 13 ∷ 13 ∷ 0 ∷ [] }
    -- 2099-12-31 23:45:00, and its last second; 6 before 2
    ∷ record { given = judged 3155759100 (Back 900 ∷ Ahead 899 ∷ Ahead 900 ∷ Ahead 901 ∷ []); due = 0 ∷ 0 ∷ 2 ∷ 6 ∷ [] }
    ∷ record { given = judged 3155759999 (Back 1 ∷ Ahead 0 ∷ Ahead 1 ∷ Ahead 900 ∷ Ahead 901 ∷ []); due = 0 ∷ 0 ∷ 2 ∷ 2 ∷ 6 ∷ [] }
    -- while off, 1 before 6, 13 and 2
    ∷ record { given = answers (next (set_at 43200) Off) (map Adjust (Ahead 0 ∷ Ahead 901 ∷ Back 901 ∷ Back 1 ∷ [])); due = 1 ∷ 1 ∷ 1 ∷ 1 ∷ [] }
    ∷ record { given = answers (next (set_at 3155759999) Off) (Adjust (Ahead 1) ∷ []); due = 1 ∷ [] }
    -- power lost after a move back from 12:15:00 to 12:00:00: On at 12:00:00; at the second before
    ∷ record { given = answers (run (set_at 44100) (Adjust (Back 900) ∷ Off ∷ [])) (On 43200 ∷ On 43199 ∷ []); due = 0 ∷ 2 ∷ [] }
    -- 50 Wh, back, 50 Wh: the half-hour has both, 10 units, and its mark
    ∷ record {
      given =
          let x = run (set_at 44100) (Count 50 ∷ Adjust (Back 900) ∷ Count 100 ∷ Clock 45000 ∷ []) in
          total x ∷ value_of x 0 23 ∷ value_of x 0 24 ∷ level2_word x 0 ∷ [];
      due = 100000 ∷ 0 ∷ 10 ∷ 1 ∷ [];
    }
    -- no reverse mark, no flag, no reset
    ∷ record { given = marked (Adjust (Ahead 0)) ++ marked (Adjust (Ahead 900)); due = 1 ∷ 0 ∷ 0 ∷ 0 ∷ 0 ∷ 1 ∷ 0 ∷ 0 ∷ 0 ∷ 0 ∷ [] }
    ∷ []
