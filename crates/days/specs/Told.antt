-- Demand 3: what a ledger holds of a day after a list of blocks is exactly what some delivered block told, as it happened; what is missing is
-- exactly the rest.
use Rattle.std.specs.Prelude.{◌≡◌, ◌↔◌, true, cond, ℕ, ◌<◌, ◌≤◌, ◌+◌}
use mathlib.Core.List.{List, [], ◌∷◌, Memᴰ}
use Rattle.calendar.specs.Clock.{ended_on}
use Rattle.days.specs.Day.{History, Day, is_held, start_of, flags_of, half_at, count, missing}
use Rattle.days.specs.View.{Honest, Carries}
use Rattle.days.specs.Desk.{Desk, run, fresh, held_by}

-- how many of the blocks the desk does not take
abbrev pub untaken : {L B : Type 0} → Desk L B → List B → ℕ
untaken D [] = 0
untaken D (b ∷ bs) = cond (D.takes b) 0 1 + untaken D bs

module _ {L B : Type 0} (D : Desk L B) (h : History) (bs : List B) where
  -- of the blocks that the desk takes, each is honest
  abbrev pub AllHonest : Type 0
  AllHonest = (b : B) → Memᴰ b bs → D.takes b ≡ true → Honest h (D.view b)

  -- some block that the desk takes carries day d; and of it half-hour j, as one that has ended
  abbrev pub DayTold : ℕ → Type 0
  DayTold d = (b : B) × Memᴰ b bs × (D.takes b ≡ true) × Carries (D.view b) d

  abbrev pub HalfTold : ℕ → ℕ → Type 0
  HalfTold d j = (b : B) × Memᴰ b bs × (D.takes b ≡ true) × Carries (D.view b) d × (j < ended_on (D.view b).time d)

  pub record Told (d : ℕ) (x : Day) : Type 0 where
    pub day : (is_held x ≡ true) ↔ DayTold d
    pub half : (j : ℕ) → (j < count x) ↔ HalfTold d j
    pub start : is_held x ≡ true → start_of x ≡ h.start d
    pub value : (j : ℕ) → j < count x → half_at x j ≡ h.half d j
    pub room : count x ≤ 48
    pub whole : count x ≡ 48 → flags_of x ≡ h.flags d
    pub part : count x < 48 → flags_of x ≡ 0
    pub lack : (j : ℕ) → Memᴰ j (missing x) ↔ ((j < 48) × (HalfTold d j → ⊥))

  -- no block that is taken is refused, each day of the window is as told, and the counts of newly held add up to what is held
  pub record Kept : Type 0 where
    pub refused : (run D (fresh D) bs).refused ≡ untaken D bs
    pub day : (i : ℕ) → i < D.days → Told (D.first + i) (D.slot (run D (fresh D) bs).ledger i)
    pub newly : (run D (fresh D) bs).newly ≡ held_by D (run D (fresh D) bs).ledger
