-- The days' lines, in the form that the proofs of the code look for.
-- Assumes nothing.
use Prim.Native.Nat.{ℕ, zero, suc, ◌+◌, ◌*◌, ◌%◌, ◌<◌}
use mathlib.Core.Path.{◌≡◌, refl, ◌∙◌, subst}
use mathlib.Core.Bool.{Bool, true, false, not, ◌||◌}
use mathlib.Core.List.{List, [], ◌∷◌, ◌++◌}
use native.Mathlib.Numerals.{add-one}
use native.Mathlib.Omega.{arith}
use lib.Dec.{eqb}
use lib.ListN.{length, set, length-append}
use lib.Seq.{sets}
use Rattle.laws.specs.Table.{table}
use Rattle.laws.proofs.Table.{length_table}
use Rattle.laws.proofs.Rows.{Row, row_more}
use Rattle.calendar.specs.Calendar.{date_of}
use Rattle.calendar.specs.Digits.{date_digits}
use Rattle.format.specs.Numbers.{binary, digits_in}
use Rattle.format.specs.Answers.{Wrote}
use Rattle.format.proofs.Numbers.{length_digits}
use Rattle.format.proofs.Writing.{then, wrote_as, one_byte}
use Rattle.lines.specs.Listing.{space, newline, word}
use Rattle.tariff.specs.Rate.{day_type, weekday_of, rate_at}
use Rattle.drawn.specs.Week.{changes, mark_at, half_mark, day_head, day_line, days_to}

-- ---- the character of a half-hour

module _ (l : List ℕ) (t : ℕ) where
  pub changes_none : false ≡ changes l t 0
  unfolding changes
  changes_none = refl

  pub changes_turn : (n first rate : ℕ) (found : Bool) → found ≡ changes l t n → first ≡ rate_at l t → rate ≡ rate_at l (t + n * 60)
      → (found || not (eqb rate first)) ≡ changes l t (n + 1)
  unfolding changes
  changes_turn n first rate found p q r = rw (add-one, p, q, r)

  module _ (b : Bool) (p : b ≡ changes l t 30) where
    pub mark_plus : b ≡ true → 43 ≡ mark_at l t
    unfolding mark_at
    mark_plus h = rw (← p, h)

    pub mark_rate : (r : ℕ) → b ≡ false → r ≡ rate_at l t → 48 + r % 10 ≡ mark_at l t
    unfolding mark_at
    mark_rate r h e = rw (← p, h, e)

pub half_turn : (l : List ℕ) (d : ℕ) (out₀ : List ℕ) (at : ℕ) (out : List ℕ) (j v : ℕ) → Row (half_mark l d) 48 out₀ at out j → j < 48 → v ≡ mark_at l (d * 86400 + j * 1800)
    → Row (half_mark l d) 48 out₀ at (set out (at + j) v) (j + 1)
unfolding half_mark
half_turn l d out₀ at out j v r h e = row_more (half_mark l d) 48 out₀ at out j r v h e

-- ---- a line

pub head_wrote : (s l m k o : List ℕ) (i d date week daytype : ℕ) → date ≡ date_digits (date_of d) → week ≡ weekday_of d → daytype ≡ day_type s d
    → Wrote l i 7 (word 6 date space) m → Wrote m (i + 7) 2 (word 1 week space) k → Wrote k (i + 9) 2 (word 1 daytype space) o → Wrote l i 11 (day_head s d) o
head_wrote s l m k o i d date week daytype e f g p q r = rw (← e, ← f, ← g) (then (then p q) r)

pub day_wrote : (s l m k o : List ℕ) (i d : ℕ) → Wrote l i 11 (day_head s d) m → k ≡ sets m (i + 11) (table 48 (half_mark s d)) → Wrote k (i + 59) 1 (digits_in binary 1 10) o
    → Wrote l i 60 (day_line s d) o
unfolding day_line
day_wrote s l m k o i d p e r =
    let q : Wrote m (i + 11) 48 (table 48 (half_mark s d)) k = record { is = e; long = length_table 48 (half_mark s d) } in
    then (then p q) (wrote_as 1 (newline ∷ []) r (one_byte 10 (omega arith)) refl)

-- ---- the loop over the days

module _ (s : List ℕ) (d : ℕ) (l : List ℕ) where
  pub days_start : Wrote l 0 (60 * 0) (days_to s d 0) l
  unfolding days_to
  days_start = record { is = refl; long = refl }

  pub days_on : (i : ℕ) (m k : List ℕ) → Wrote l 0 (60 * i) (days_to s d i) m → Wrote m (60 * i) 60 (day_line s (d + i)) k → Wrote l 0 (60 * (i + 1)) (days_to s d (i + 1)) k
  unfolding days_to
  days_on i m k p q =
      let e : 60 * i + 60 ≡ 60 * suc i = omega arith in
      let z : 60 * i ≡ 0 + 60 * i = omega arith in
      let at : Wrote m (0 + 60 * i) 60 (day_line s (d + i)) k = subst (λ (j : ℕ). Wrote m j 60 (day_line s (d + i)) k) z q in
      rw add-one (subst (λ (j : ℕ). Wrote l 0 j (days_to s d i ++ day_line s (d + i)) k) e (then p at))

head_length : (s : List ℕ) (d : ℕ) → length (day_head s d) ≡ 11
head_length s d = simp (length-append, length_digits)

line_length : (s : List ℕ) (d : ℕ) → length (day_line s d) ≡ 60
unfolding day_line
line_length s d =
    length-append (day_head s d ++ table 48 (half_mark s d)) (newline ∷ [])
    ∙ rw (length-append (day_head s d) (table 48 (half_mark s d)), head_length s d, length_table 48 (half_mark s d))

pub days_length : (s : List ℕ) (d i : ℕ) → length (days_to s d i) ≡ 60 * i
unfolding days_to
days_length s d zero = refl
days_length s d (suc i) = length-append (days_to s d i) (day_line s (d + i)) ∙ rw (days_length s d i, line_length s (d + i)) (omega arith)
