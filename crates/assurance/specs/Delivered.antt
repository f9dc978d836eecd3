-- A run's blocks at the desk: any list drawn from them, filed one after another in a fresh ledger of that meter, and what the ledger then holds
-- (docs/RULES.md, "The ledger").
use Rattle.std.specs.Prelude.{ℕ, ◌<◌, ◌≤◌, ◌+◌, ◌-◌, ◌*◌, ◌/◌, min, ◌≡◌, ◌↔◌, true, cond}
use mathlib.Core.List.{List, [], ◌∷◌, Memᴰ}
use Rattle.laws.specs.Bits.{bit}
use Rattle.laws.specs.Tests.{sum_below}
use Rattle.calendar.specs.Clock.{seconds_of_half, seconds_of_day, halves_of_day, ended_on}
use Rattle.format.specs.Identifier.{SameMeter, ppp_of, with_ppp}
use Rattle.answers.specs.Answer.{Answer}
use Rattle.profile.specs.Profile.{advance_at}
use Rattle.days.specs.Day.{History, Day, absent, is_held, start_of, flags_of, half_at, count}
use Rattle.days.specs.View.{Carries}
use Rattle.days.specs.Energy.{advances, Unbroken, Within}
use Rattle.ledger.specs.Layout.{first_of}
use Rattle.ledger.specs.Rooms.{slot}
use Rattle.ledger.specs.Open.{open_of}
use Rattle.ledger.specs.Asked.{in_window, SummaryAnswer, summary_of, MissingAnswer, missing_of}
use Rattle.rooms.specs.View.{view_of}
use Rattle.filing.specs.File.{file_of}
use Rattle.kept.specs.Desk.{file_all}
use Rattle.store.specs.Store.{Store}
use Rattle.recorder.specs.declared.SetUp.{SetUp}
use Rattle.recorder.specs.SetUp.{set_up}
use Rattle.assurance.specs.Written.{blank_paper}
use Rattle.assurance.specs.Meaning.{counted_before}
use Rattle.recorder.specs.Recorder.{Mem}
use Rattle.assurance.specs.Run.{Call, run_all, events_of, blocks_in, ReadIn}
use Rattle.assurance.specs.Life as life

-- the answers of filing blocks one after another, and what they carry together
unfoldable pub answers_all : List ℕ → List (List ℕ) → List Answer
answers_all l [] = []
answers_all l (b ∷ bs) = (file_of l b).answer ∷ answers_all (file_of l b).ledger bs

abbrev pub carried_all : List Answer → ℕ
carried_all [] = 0
carried_all (a ∷ rest) = a.carried + carried_all rest

-- day d as a ledger holds it: absent outside its window
unfoldable pub held_on : List ℕ → ℕ → Day
held_on l d = cond (in_window l d) (slot l (d - first_of l)) absent

-- the summary u of day d, which is held as y: of its half-hours held the summed advance and the marks are the history's
pub record Summed (h : History) (d : ℕ) (y : Day) (u : SummaryAnswer) : Type 0 where
  pub answer : u.answer ≡ 0
  pub is_held_holds : u.held ≡ is_held y
  pub halves : u.count ≡ count y
  pub begins : u.start.0 ≡ start_of y
  pub advance : u.advance.0 ≡ sum_below (advance_at (h.start d) (λ j. (h.half d j).value)) (count y)
  pub reverse : u.reverse ≡ sum_below (λ j. bit (h.half d j).reverse) (count y)
  pub level2 : u.level2 ≡ sum_below (λ j. bit (h.half d j).level2) (count y)

module _ (s : SetUp) (x : Store) (cs : List Call) where
  abbrev pub past : History
  past = life.past s x (events_of cs)

  -- the energy of the Counts accepted in the n half-hours from q on, in thousandths of a watt-hour
  abbrev pub counted : ℕ → ℕ → ℕ
  counted q n = counted_before s (q + n) (blank_paper s) (events_of cs) - counted_before s q (blank_paper s) (events_of cs)

  -- blocks of the run's reads: any left out, any repeated, in any order
  abbrev pub Drawn : List (List ℕ) → Type 0
  Drawn bs = (b : List ℕ) → Memᴰ b bs → Memᴰ b (blocks_in (set_up s x).after cs)

  module _ (l id : List ℕ) (first days : ℕ) (bs : List (List ℕ)) where
    -- the fresh ledger, and the ledger after all of them
    abbrev pub opened : List ℕ
    opened = (open_of l id first days).ledger

    abbrev pub filed : List ℕ
    filed = file_all opened bs

    -- some delivered block carries day d; and was read after its half-hour j had ended
    abbrev pub DayTold : ℕ → Type 0
    DayTold d = (b : List ℕ) × Memᴰ b bs × Carries (view_of b) d

    abbrev pub HalfTold : ℕ → ℕ → Type 0
    HalfTold d j = (b : List ℕ) × Memᴰ b bs × Carries (view_of b) d × (j < ended_on (view_of b).time d)

    -- the same by the calls alone, whatever the blocks say: some delivered block was sent by a read that gave day d among its days; when half-hour j of it was before
    -- the running one
    abbrev pub Sender : List ℕ → Type 0
    Sender b = ReadIn (set_up s x).after cs b

    abbrev pub when_read : (b : List ℕ) → Sender b → Mem
    when_read b r = run_all (set_up s x).after r.earlier

    abbrev pub Gave : (b : List ℕ) → Sender b → ℕ → Type 0
    Gave b r d =
        let today = (when_read b r).recorder.clock.time / seconds_of_day in
        (d ≤ today) × (today < d + min r.asked (when_read b r).recorder.clock.days)

    abbrev pub DayRead : ℕ → Type 0
    DayRead d = (b : List ℕ) × Memᴰ b bs × (r : Sender b) × Gave b r d

    abbrev pub HalfRead : ℕ → ℕ → Type 0
    HalfRead d j =
        (b : List ℕ) × Memᴰ b bs × (r : Sender b) × Gave b r d × (halves_of_day * d + j < (when_read b r).recorder.clock.time / seconds_of_half)

    -- y is what the ledger has of day d, and m what it says is missing
    pub record DayHeld (d : ℕ) (y : Day) (m : MissingAnswer) : Type 0 where
      pub day : (is_held y ≡ true) ↔ DayTold d
      pub half : (j : ℕ) → (j < count y) ↔ HalfTold d j
      pub start : is_held y ≡ true → start_of y ≡ past.start d
      pub value : (j : ℕ) → j < count y → half_at y j ≡ past.half d j
      pub flags : count y ≡ halves_of_day → flags_of y ≡ past.flags d
      pub part : count y < halves_of_day → flags_of y ≡ 0
      pub missing : m.answer ≡ 0
      pub lack : (j : ℕ) → ((m.first ≤ j) × (j < m.first + m.count)) ↔ ((j < halves_of_day) × (HalfTold d j → ⊥))

    pub record Holds : Type 0 where
      -- nothing is refused
      pub answers : (a : Answer) → Memᴰ a (answers_all opened bs) → a.number ≡ 0
      -- each was sent by a read of the run; so told, below, is: had ended when a delivered block that gives the day was read
      pub read : (b : List ℕ) → Memᴰ b bs → Sender b
      pub told_day : (d : ℕ) → DayTold d ↔ DayRead d
      pub told_half : (d j : ℕ) → j < halves_of_day → HalfTold d j ↔ HalfRead d j
      -- each day of the window
      pub day : (i : ℕ) → i < days → DayHeld (first + i) (held_on filed (first + i)) (missing_of filed (first + i))
      pub summary : (i : ℕ) → i < days → Summed past (first + i) (held_on filed (first + i)) (summary_of filed (first + i))
      -- what was newly held is what is held
      pub newly : carried_all (answers_all opened bs) ≡ sum_below (λ i. count (held_on filed (first + i))) days
      -- the same blocks in another order, with other repeats, in another fresh ledger for the same identifier: the same bytes
      pub order : (m : List ℕ) (ds : List (List ℕ)) → (open_of m id first days).answer ≡ 0 → ((b : List ℕ) → Memᴰ b bs ↔ Memᴰ b ds)
          → file_all (open_of m id first days).ledger ds ≡ filed
      -- in one for another identifier of that meter: the same bytes but for PPP, which each keeps as it was opened with
      pub other : (m j : List ℕ) (ds : List (List ℕ)) → SameMeter j s.identifier → (open_of m j first days).answer ≡ 0 → ((b : List ℕ) → Memᴰ b bs ↔ Memᴰ b ds)
          → file_all (open_of m j first days).ledger ds ≡ with_ppp (ppp_of j) filed
      -- a stretch of half-hours all held: its advances and the energy counted in it are within 10 Wh of each other, the bound itself not reached
      pub energy : (q n : ℕ) → Unbroken (held_on filed) q n
          → Within (advances (held_on filed) q n) (counted q n)
