-- A ledger in memory of whatever kind L, fed with blocks of whatever kind B (docs/RULES.md, "The ledger"): what it must have, the laws that it must
-- keep, and a run of filings.
use Rattle.std.specs.Prelude.{◌≡◌, Bool, true, false, cond, ◌&&◌, List, [], ◌∷◌, ℕ, ◌<◌, ◌+◌, ◌-◌, leb, ltb}
use Rattle.laws.specs.Tests.{sum_below}
use Rattle.days.specs.Day.{Day, absent, count}
use Rattle.days.specs.Agree.{same_day, join_day}
use Rattle.days.specs.View.{View, offer}

pub record Filed (L : Type 0) : Type 0 where
  pub ledger : L
  pub refused : ℕ
  pub newly : ℕ

pub record Desk (L B : Type 0) : Type 0 where
  -- the window: first day and number of days
  pub first : ℕ
  pub days : ℕ
  -- the i-th day of the window as the memory holds it; the memory that holds given days; the days that it can hold
  pub slot : L → ℕ → Day
  pub pack : (ℕ → Day) → L
  pub fits : Day → Bool
  -- a block that the desk takes, and what it says
  pub takes : B → Bool
  pub view : B → View
  pub file : L → B → Filed L

module _ {L B : Type 0} (D : Desk L B) where
  abbrev pub Fitting : (ℕ → Day) → Type 0
  Fitting f = (i : ℕ) → i < D.days → D.fits (f i) ≡ true

  -- f's days after b
  abbrev pub joined : (ℕ → Day) → B → ℕ → Day
  joined f b i = join_day (f i) (offer (D.view b) (D.first + i))

  -- the half-hours that f's days hold, and a ledger's
  unfoldable pub held_in : (ℕ → Day) → ℕ
  held_in f = sum_below (λ i. count (f i)) D.days

  abbrev pub held_by : L → ℕ
  held_by l = held_in (D.slot l)

  pub record Laws : Type 0 where
    -- what is packed is found again, where each day fits; only the days of the window are packed
    pub slot_pack : (f : ℕ → Day) → Fitting f → (i : ℕ) → i < D.days → D.slot (D.pack f) i ≡ f i
    pub pack_same : (f g : ℕ → Day) → ((i : ℕ) → i < D.days → f i ≡ g i) → D.pack f ≡ D.pack g
    -- an absent day fits, and whatever a block that is taken offers
    pub absent_fits : D.fits absent ≡ true
    pub offer_fits : (b : B) → D.takes b ≡ true → (d : ℕ) → D.fits (offer (D.view b) d) ≡ true
    pub file_bad : (f : ℕ → Day) (b : B) → Fitting f → D.takes b ≡ false
        → D.file (D.pack f) b ≡ record { ledger = D.pack f; refused = 1; newly = 0 }
    pub file_good : (f : ℕ → Day) (b : B) → Fitting f → D.takes b ≡ true
        → ((i : ℕ) → i < D.days → same_day (f i) (offer (D.view b) (D.first + i)) ≡ true)
        → D.file (D.pack f) b ≡ record { ledger = D.pack (joined f b); refused = 0; newly = held_in (joined f b) - held_in f }

  -- day d as l holds it: absent outside the window
  unfoldable pub day_in : L → ℕ → Day
  day_in l d = cond (leb D.first d && ltb d (D.first + D.days)) (D.slot l (d - D.first)) absent

  -- blocks filed one after the other
  unfoldable pub run : L → List B → Filed L
  run l [] = record { ledger = l; refused = 0; newly = 0 }
  run l (b ∷ bs) =
      let r = run (D.file l b).ledger bs in
      record { ledger = r.ledger; refused = (D.file l b).refused + r.refused; newly = (D.file l b).newly + r.newly }

  unfoldable pub fresh : L
  fresh = D.pack (λ i. absent)
