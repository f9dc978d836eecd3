-- Why a good ledger refuses a block that the reader takes (docs/ANSWERS.md, answers 11 and 12), by the identifiers and the days themselves.
use Rattle.std.specs.Prelude.{ℕ, ◌+◌, ◌<◌, ◌≤◌, ◌≡◌, true, List, ◌↔◌, get_or}
use Rattle.calendar.specs.Clock.{halves_of_day}
use Rattle.format.specs.Identifier.{ident_length, ppp_length}
use Rattle.days.specs.Day.{Day, is_held, start_of, flags_of, half_at, count}
use Rattle.days.specs.View.{offer}
use Rattle.ledger.specs.Layout.{first_of, days_of}
use Rattle.ledger.specs.Rooms.{slot}
use Rattle.rooms.specs.View.{view_of}
use Rattle.filing.specs.File.{file_of}

-- what two holdings of one day both have is the same: start, values and marks, and the flags where both are complete
pub record Alike (x y : Day) : Type 0 where
  pub start : is_held x ≡ true → is_held y ≡ true → start_of x ≡ start_of y
  pub half : (j : ℕ) → j < count x → j < count y → half_at x j ≡ half_at y j
  pub flags : halves_of_day ≤ count x → halves_of_day ≤ count y → flags_of x ≡ flags_of y

module _ (l b : List ℕ) where
  -- past PPP, the ledger's characters are the block's
  abbrev pub SameIdentifier : Type 0
  SameIdentifier = (q : ℕ) → ppp_length ≤ q → q < ident_length → get_or l q 0 ≡ get_or b (5 + q) 0

  -- every day of the window, as held and as offered
  abbrev pub AllAlike : Type 0
  AllAlike = (i : ℕ) → i < days_of l → Alike (slot l i) (offer (view_of b) (first_of l + i))

  pub record Causes : Type 0 where
    pub other : ((file_of l b).answer.number ≡ 11) ↔ (SameIdentifier → ⊥)
    pub differs : ((file_of l b).answer.number ≡ 12) ↔ (SameIdentifier × (AllAlike → ⊥))
    pub filed : ((file_of l b).answer.number ≡ 0) ↔ (SameIdentifier × AllAlike)
