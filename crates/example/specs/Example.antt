-- One life worked through, so that demand 3 is seen to speak of something: counts, a read at 01:10 and one at 02:05, an outage over two midnights, a read of
-- three days after it; of the three blocks the second is lost and the first comes late. Each number is that of docs/RULES.md.
use Rattle.std.specs.Prelude.{ℕ, ◌*◌, ◌≡◌, List, [], ◌∷◌, map, length, get_or, replicate}
use Rattle.quantity.specs.Units.{watt_hours, unit_of}
use Rattle.answers.specs.Answer.{Answer}
use Rattle.days.specs.Day.{start_of, flags_of, half_at, count}
use Rattle.days.specs.Energy.{advances}
use Rattle.ledger.specs.Asked.{missing_of}
use Rattle.rooms.specs.View.{view_of}
use Rattle.store.specs.declared.Class.TheVariants.{A}
use Rattle.store.specs.Store.{Store}
use Rattle.recorder.specs.declared.SetUp.{SetUp}
use Rattle.recorder.specs.declared.Event.TheVariants.{Count, Clock, Off, On}
use Rattle.recorder.specs.Recorder.{Mem}
use Rattle.recorder.specs.Step.{step}
use Rattle.recorder.specs.SetUp.{given, set_up}
use Rattle.cases.specs.Cases.{full}
use Rattle.readout.specs.Read.{read_of}
use Rattle.assurance.specs.Run.{Call, happens, reads, left, blocks_in}
use Rattle.assurance.specs.Delivered.{answers_all, carried_all, held_on, counted, opened, filed}

-- ABCX24000017, class a, 10 Wh a pulse, from 2000-01-01 00:00:00
abbrev pub identifier : List ℕ
identifier = 65 ∷ 66 ∷ 67 ∷ 88 ∷ 50 ∷ 52 ∷ 48 ∷ 48 ∷ 48 ∷ 48 ∷ 49 ∷ 55 ∷ []

abbrev pub meter : SetUp
meter = given identifier A (watt_hours 10) 0 (watt_hours 0) 0

abbrev pub lent : Store
lent = full

abbrev pub calls : List Call
calls =
    -- 50 pulses; at 01:10 one day is read
    happens (Count 50) ∷ happens (Clock 4200) ∷ reads 1 (replicate 331 0)
    -- 70 pulses more; at 02:05 one day is read
    ∷ happens (Count 120) ∷ happens (Clock 7500) ∷ reads 1 (replicate 331 0)
    -- off from 23:50 to 00:10 on the third day, with a Count in between; three days are read
    ∷ happens (Clock 85800) ∷ happens Off ∷ happens (Count 130) ∷ happens (On 173400) ∷ reads 3 (replicate 769 0) ∷ []

abbrev pub answer_to : Mem → Call → ℕ
answer_to x (happens e) = (step x e).answer
answer_to x (reads n out) = (read_of n x out).answer.number

unfoldable pub answers_to : Mem → List Call → List ℕ
answers_to x [] = []
answers_to x (c ∷ cs) = answer_to x c ∷ answers_to (left x c) cs

-- its blocks: the third and then the first, in a ledger of the three days
abbrev pub block : ℕ → List ℕ
block i = get_or (blocks_in (set_up meter lent).after calls) i []

abbrev pub late : List (List ℕ)
late = block 2 ∷ block 0 ∷ []

abbrev pub ledger : List ℕ
ledger = replicate 358 0

abbrev pub held : List ℕ
held = filed meter lent calls ledger identifier 0 3 late

-- what is newly held by each of some blocks, in a ledger of the first day alone
abbrev pub newly_by : List (List ℕ) → List ℕ
newly_by bs = map (λ (a : Answer). a.carried) (answers_all (opened meter lent calls (replicate 130 0) identifier 0 1 bs) bs)

-- day d is held with so many half-hours, this start and these flags; and the value of half-hour j
pub record IsDay (d k start flags : ℕ) : Type 0 where
  pub half_hours : count (held_on held d) ≡ k
  pub begins : start_of (held_on held d) ≡ start
  pub flagged : flags_of (held_on held d) ≡ flags

abbrev pub value_at : ℕ → ℕ → ℕ
value_at d j = (half_at (held_on held d) j).value

pub record Worked : Type 0 where
  -- every call is accepted but the Count while off
  pub answers : answers_to (set_up meter lent).after calls ≡ 0 ∷ 0 ∷ 0 ∷ 0 ∷ 0 ∷ 0 ∷ 0 ∷ 0 ∷ 1 ∷ 0 ∷ 0 ∷ []
  -- blocks of one, one and three days
  pub bytes : map length (blocks_in (set_up meter lent).after calls) ≡ 331 ∷ 331 ∷ 769 ∷ []
  -- off 23:50 on the 1st, on 00:10 on the 3rd: three days flagged 0x80
  pub outage : map (view_of (block 2)).flags (0 ∷ 1 ∷ 2 ∷ []) ≡ 128 ∷ 128 ∷ 128 ∷ []
  -- one-day blocks of 01:10 and 02:05, either order: 4 held
  pub in_order : newly_by (block 0 ∷ block 1 ∷ []) ≡ 2 ∷ 2 ∷ []
  pub swapped : newly_by (block 1 ∷ block 0 ∷ []) ≡ 4 ∷ 0 ∷ []
  -- the third block, and then the late one: two days are whole, with their flags; of the third only the start is known, and all of it is missing
  pub newly : carried_all (answers_all (opened meter lent calls ledger identifier 0 3 late) late) ≡ 96
  pub first : IsDay 0 48 0 128
  pub second : IsDay 1 48 120 128
  pub third : IsDay 2 0 120 0
  pub values : value_at 0 0 ∷ value_at 0 1 ∷ value_at 0 2 ∷ value_at 0 47 ∷ value_at 1 0 ∷ [] ≡ 50 ∷ 50 ∷ 120 ∷ 120 ∷ 120 ∷ []
  pub missing : missing_of held 2 ≡ record { answer = 0; first = 0; count = 48 }
  -- 120 pulses are 1,200 Wh, and the advances of both days, at 10 Wh each, come to that
  pub energy : counted meter lent calls 0 96 ≡ (watt_hours 1200).0
  pub advanced : unit_of * advances (held_on held) 0 96 ≡ (watt_hours 1200).0
