-- What each return and each turn says.
-- Assumes nothing.
use Rattle.laws.proofs.Bits.{bit_from}
use mir.Val.{bool_byte}
use mathlib.Core.Path.{◌≡◌, refl, sym, ap, ◌∙◌}
use mathlib.Core.Bool.{Bool, not}
use mathlib.Core.List.{List, ◌++◌, append_assoc}
use Prim.Native.Nat.{ℕ, zero, suc, ◌<◌, ◌≤◌, ◌+◌, ◌-◌, ◌*◌}
use native.Mathlib.Omega.{arith}
use lib.Dec.{eqb}
use lib.ListN.{length, take, drop}
use Rattle.std.proofs.lemmas.List.{drop-drop}
use lib.Seq.{sets, sets-eq}
use native.Mathlib.Nat.{zero-add}
use borrow.Author.Tests.{eqb-true, eq-eqb, ne_eqb, lt-ltb, le-ltb, lt-leb, le-leb}
use Rattle.laws.specs.Bits.{bit}
use Rattle.laws.proofs.Split.{by_test}
use Rattle.laws.proofs.Table.{length_table, table_at}
use Rattle.quantity.specs.declared.RegisterUnits.{RegisterUnits}
use Rattle.quantity.specs.Units.{units, last_four, advance}
use Rattle.std.specs.Prelude.{Option, Some, None, Result, Ok, Err}
use Rattle.marks.specs.Marks.{marked}
use Rattle.profile.specs.Profile.{before_at, advance_at}
use Rattle.answers.specs.declared.Refusal.{Refusal}
use Rattle.answers.specs.declared.Refusal.TheVariants.{Short}
use Rattle.answers.specs.Answer.{answered, judged_as, number_of as name}
use Rattle.std.specs.Result.{result_and}
use Rattle.answers.proofs.Numbers.{above_0}
use Rattle.ledger.proofs.Refused.{carries_nothing, judged_low, asked_low}
use Rattle.ledger.specs.declared.asked.Summary.{Summary}
use Rattle.ledger.specs.declared.asked.Missing.{Missing}
use Rattle.days.specs.Day.{Half, no_half, half_at, count}
use Rattle.days.specs.Energy.{values, advance_in}
use Rattle.ledger.specs.Layout.{head_size, room_size, room_at, length_of, first_of, days_of, state_in, start_in, value_in, reverse_in, level2_in}
use Rattle.ledger.specs.Rooms.{half_in, day_with, day_at, slot}
use Rattle.ledger.specs.Judged.{judged}
use Rattle.ledger.specs.Open.{Opening, opening, open_ok, open_checks, open_answer, open_of}
use Rattle.ledger.specs.Asked.{asked, Asked, SummaryAnswer, MissingAnswer, no_summary, day_summary, summary_of, summary_as, no_missing, day_missing, missing_of, missing_as}
use Rattle.ledger.proofs.Good.{judged_good}
use Rattle.ledger.proofs.Asking.{asked_of}
use Rattle.desk.specs.Numbers.{one_number, number_of, missing_number, window_number}
use Rattle.desk.specs.Given.{given, give_row, summary_row, give_summary, half_with, half_number}

-- ---- one number

module _ (l id : List ℕ) (first days : ℕ) where
  open_low : (open_of l id first days).answer ≤ 6
  unfolding open_of open_answer open_checks
  open_low =
      by_test (eqb (open_answer l id first days) 0)
      (λ t. rw t (omega arith))
      (λ t. rw t (by_test (not (open_ok id first days)) (λ u. rw u (omega arith)) (λ u. rw u (by_test (not (eqb (length l) (length_of days))) (λ v. rw v (omega arith)) (λ v. rw v (omega arith))))))

  pub opened : (m : List ℕ) (r : Result (Unit {0}) Refusal) → opening m (judged_as r) ≡ open_of l id first days → number_of (answered (result_and r (Ok 0))) ≡ one_number (open_of l id first days).answer 0
  opened m (Ok u) e = rw (← e)
  opened m (Err r) e = let n : name r ≡ (open_of l id first days).answer = ap (λ (x : Opening). x.answer) e in rw (← n, carries_nothing r (omega (arith, n, open_low)))

-- ---- the window

pub window_refused : (l : List ℕ) (r : Refusal) → name r ≡ judged l → number_of (answered (Err r)) ≡ window_number l
unfolding window_number
window_refused l r e = rw (ne_eqb (judged l) 0 (λ z. omega (arith, e, z, above_0 r)), carries_nothing r (omega (arith, e, judged_low l)), e)

module _ (l : List ℕ) (z : 0 ≡ judged l) where
  pub head_there : head_size ≤ length l
  head_there = omega (arith, (judged_good l (sym z)).size)

  pub window_is : (f n : ℕ) → f ≡ first_of l → n ≡ days_of l → number_of (answered (Ok (f * 65536 + n))) ≡ window_number l
  unfolding window_number
  window_is f n ef en = rw (← z, ← ef, ← en)

-- ---- what is missing of a day

missing_asked : (l : List ℕ) (d : ℕ) → asked l d ≡ (missing_of l d).answer
unfolding missing_of day_missing
missing_asked l d = by_test (eqb (asked l d) 0) (λ t. rw t (eqb-true (asked l d) 0 t)) (λ t. rw t)

module _ (l : List ℕ) (d : ℕ) where
  pub asked_refused : (r : Refusal) → no_missing (name r) ≡ missing_of l d → name r ≡ asked l d
  asked_refused r e = ap (λ (x : MissingAnswer). x.answer) e ∙ sym (missing_asked l d)

  pub asked_taken : (m : Missing) → missing_as (Ok m) ≡ missing_of l d → 0 ≡ asked l d
  asked_taken m e = ap (λ (x : MissingAnswer). x.answer) e ∙ sym (missing_asked l d)

  pub missing_refused : (r : Refusal) → no_missing (name r) ≡ missing_of l d → number_of (answered (Err r)) ≡ missing_number (missing_of l d)
  missing_refused r e = rw (← e, carries_nothing r (omega (arith, asked_refused r e, asked_low l d)))

-- ---- rows given

-- what a copy into a part of a list leaves
pub put_front : {A : Type 0} (l row : List A) → length row ≤ length l → row ++ drop (length row) l ≡ sets l 0 row
put_front l row h = sym (sets-eq row l 0 (rw zero-add h) ∙ rw zero-add)

pub put_part : (l row : List ℕ) (i : ℕ) → i + length row ≤ length l → take i l ++ (row ++ drop (length row) (drop i l)) ≡ sets l i row
put_part l row i h = rw (drop-drop (length row) i l) (sym (sets-eq row l i h ∙ append_assoc (take i l) row (drop (i + length row) l)))

module _ (out xs : List ℕ) (a c : ℕ) where
  pub row_refused : (r : Refusal) → name r ≡ a → a ≤ 6 → given out (number_of (answered (Err r))) ≡ give_row out a xs c
  unfolding give_row
  row_refused r e low = rw (ne_eqb a 0 (λ z. omega (arith, e, z, above_0 r)), carries_nothing r (omega (arith, e, low)), e)

  module _ (z : 0 ≡ a) (m row : List ℕ) (p : row ≡ xs) where
    pub row_short : (r : Refusal) → (length out < length row) × (m ≡ out) × (r ≡ Short (length row)) → given m (number_of (answered (Err r))) ≡ give_row out a xs c
    unfolding give_row
    row_short r h = let short : length out < length xs = rw (← p) h.0 in rw (h.1, h.2, ← z, p, lt-leb (length xs) (length out) short)

    pub row_given : (length row ≤ length out) × (m ≡ sets out 0 row) → given m (number_of (answered (Ok c))) ≡ give_row out a xs c
    unfolding give_row
    row_given h = let fits : length xs ≤ length out = rw (← p) h.0 in rw (h.1, ← z, p, le-leb (length xs) (length out) fits)

summary_asked : (l : List ℕ) (d : ℕ) → (summary_of l d).answer ≤ 6
unfolding summary_of day_summary
summary_asked l d = by_test (eqb (asked l d) 0) (λ t. rw t (omega arith)) (λ t. rw t (asked_low l d))

summary_done : (s : Option Summary) → 0 ≡ (summary_as (Ok s)).answer
summary_done (Some s) = refl
summary_done None = refl

module _ (l : List ℕ) (d : ℕ) (out : List ℕ) where
  pub summary_refused : (r : Refusal) → no_summary (name r) ≡ summary_of l d → given out (number_of (answered (Err r))) ≡ give_summary l d out
  unfolding give_summary
  summary_refused r e = row_refused out (summary_row (summary_of l d)) (summary_of l d).answer 0 r (ap (λ (x : SummaryAnswer). x.answer) e) (summary_asked l d)

  module _ (s : Option Summary) (e : summary_as (Ok s) ≡ summary_of l d) (m row : List ℕ) (p : row ≡ summary_row (summary_as (Ok s))) where
    done : 0 ≡ (summary_of l d).answer
    done = summary_done s ∙ ap (λ (x : SummaryAnswer). x.answer) e

    pub summary_short : (r : Refusal) → (length out < length row) × (m ≡ out) × (r ≡ Short (length row)) → given m (number_of (answered (Err r))) ≡ give_summary l d out
    unfolding give_summary
    summary_short r h = row_short out (summary_row (summary_of l d)) (summary_of l d).answer 0 done m row (p ∙ ap summary_row e) r h

    pub summary_given : (length row ≤ length out) × (m ≡ sets out 0 row) → given m (number_of (answered (Ok 0))) ≡ give_summary l d out
    unfolding give_summary
    summary_given h = row_given out (summary_row (summary_of l d)) (summary_of l d).answer 0 done m row (p ∙ ap summary_row e) h

-- ---- half-hours

module _ (l : List ℕ) (at j : ℕ) where
  pub before_first : (s : ℕ) (u : RegisterUnits) → s ≡ start_in l at → u ≡ last_four (units s) → j ≡ 0 → u.0 ≡ before_at (start_in l at) (value_in l at) j
  unfolding before_at
  before_first s u es eu z = ap (λ (v : RegisterUnits). v.0) eu ∙ rw (z, es)

  pub there_is : (v b a w x r s : ℕ) (p q : Bool) → v ≡ value_in l at j → b ≡ before_at (start_in l at) (value_in l at) j → a ≡ advance b v
      → w ≡ reverse_in l at → p ≡ marked w j → r ≡ bool_byte p → x ≡ level2_in l at → q ≡ marked x j → s ≡ bool_byte q
      → v + 65536 * a + 4294967296 * r + 8589934592 * s ≡ half_with (value_in l at j) (advance_at (start_in l at) (value_in l at) j) (bit (marked (reverse_in l at) j)) (bit (marked (level2_in l at) j))
  unfolding advance_at
  there_is v b a w x r s p q ev eb ea ew ep er ex eq es = rw (er, bit_from p, ep, ew, es, bit_from q, eq, ex, ea, eb, ev)

pub before_later : (l : List ℕ) (at j v : ℕ) → (j ≡ 0 → ⊥) → v ≡ value_in l at (j - 1) → v ≡ before_at (start_in l at) (value_in l at) j
unfolding before_at
before_later l at zero v h e = absurd (h refl)
before_later l at (suc j) v h e = let z : suc j - 1 ≡ j = omega arith in rw z at e

advance_agree : (s : ℕ) (f g : ℕ → ℕ) (j : ℕ) → ((i : ℕ) → i ≤ j → f i ≡ g i) → advance_at s f j ≡ advance_at s g j
unfolding advance_at before_at
advance_agree s f g zero e = rw (e 0 (omega arith))
advance_agree s f g (suc j) e = rw (e j (omega arith), e (suc j) (omega arith))

half_with_lem : (l : List ℕ) (at e j : ℕ) → j < count (day_with l at e) → half_with (value_in l at j) (advance_at (start_in l at) (value_in l at) j) (bit (marked (reverse_in l at) j)) (bit (marked (level2_in l at) j)) ≡ half_number (day_with l at e) j
unfolding half_number advance_in half_in
half_with_lem l at zero j h = absurd (omega arith)
half_with_lem l at (suc k) j h =
    let x = day_with l at (suc k) in
    let below : j < k = omega (arith, length_table k (half_in l at)) in
    let there : (i : ℕ) → i ≤ j → half_at x i ≡ half_in l at i = λ i n. table_at k (half_in l at) i no_half (omega arith) in
    rw (lt-ltb j (count x) h, advance_agree (start_in l at) (values x) (value_in l at) j (λ i n. ap (λ (a : Half). a.value) (there i n)), there j (omega arith))

module _ (l : List ℕ) (at k j : ℕ) (e : k ≡ count (day_at l at)) where
  pub half_held : (r : ℕ) → r ≡ half_with (value_in l at j) (advance_at (start_in l at) (value_in l at) j) (bit (marked (reverse_in l at) j)) (bit (marked (level2_in l at) j)) → j < k → r ≡ half_number (day_at l at) j
  unfolding day_at
  half_held r f h = f ∙ half_with_lem l at (state_in l at) j (omega arith)

  pub half_none : k ≤ j → 0 ≡ half_number (day_at l at) j
  unfolding half_number
  half_none h = let n : count (day_at l at) ≤ j = omega arith in rw (le-ltb j (count (day_at l at)) n)

-- ---- a day's half-hours

module _ (l : List ℕ) (d at : ℕ) (z : 0 ≡ asked l d) (ea : at ≡ room_at (d - first_of l)) where
  pub day_asked : Asked l d
  day_asked = asked_of l d z

  pub day_room : at + room_size ≤ length l
  day_room = omega (arith, ea, day_asked.room)

module _ (l : List ℕ) (d at : ℕ) (m : Missing) (e : missing_as (Ok m) ≡ missing_of l d) (ea : at ≡ room_at (d - first_of l)) where
  pub halves_held : m.first ≡ count (day_at l at)
  unfolding missing_of day_missing slot
  halves_held = ap (λ (x : MissingAnswer). x.first) e ∙ rw (ea, eq-eqb (asked l d) 0 (sym (asked_taken l d m e)))
