-- The week, what is answered, and the program's input.
-- Assumes nothing.
use Prim.Native.Nat.{ℕ, ◌+◌, ◌-◌, ◌≤◌, ◌<◌}
use mathlib.Core.Path.{◌≡◌, sym, ap, ◌∙◌}
use mathlib.Core.Bool.{false}
use mathlib.Core.List.{List}
use native.Mathlib.Omega.{arith}
use lib.Dec.{eqb, leb, ltb}
use Rattle.answers.proofs.Numbers.{above_0}
use Rattle.tariff.specs.Judge.{sound, clash_in}
use mathlib.Core.Path.{refl}
use mathlib.Core.List.{◌∷◌}
use mathlib.Core.Bool.{not}
use lib.ListN.{length, take, drop, length-append, length-drop}
use lib.Seq.{sets, take_all}
use borrow.Author.Tests.{eq-eqb, ne_eqb, lt-ltb, le-ltb, ltb-false, le-leb, lt-leb, leb-true}
use Rattle.laws.proofs.Split.{by_test}
use Rattle.std.specs.Prelude.{Option, Some, None, Result, Ok, Err, Bool, true, []}
use Rattle.std.specs.Result.{result_unwrap_or}
use Rattle.laws.specs.Checks.{check, first_failing}
use Rattle.answers.specs.declared.Refusal.{Refusal}
use Rattle.answers.specs.declared.Refusal.TheVariants.{Power, Time, Units, Length, Damaged, Range, Short, NoBlock, Field, Inconsistent, OtherMeter, Differs, Ended, Clash, Loaded}
use Rattle.answers.specs.Answer.{Answer, number_of, carried_of, answered}
use Rattle.format.specs.Answers.{Wrote, number_at}
use Rattle.format.proofs.Writing.{then, same}
use Rattle.block.specs.Answers.{answer}
use Rattle.block.proofs.Checking.{spelt_below}
use Rattle.lines.specs.Listing.{refusal, shown, shown_length}
use Rattle.lines.proofs.Laws.{shown_all, shown_none}
use Rattle.tariff.specs.Table.{slots_of}
use Rattle.tariff.specs.Judge.{judged}
use Rattle.drawn.specs.Week.{days_to, types_to, week_text}
use Rattle.drawn.specs.Asked.{week_judged, room_answer, week_answer, week_shown, day_asked, drawn_from, drawn_of}
use Rattle.drawn.proofs.Days.{days_length}

-- ---- the text

pub week_length : (l : List ℕ) (d : ℕ) → length (week_text l d) ≡ 420 + length (types_to (slots_of l) 8)
unfolding week_text
week_length l d = length-append (days_to l d 7) (types_to (slots_of l) 8) ∙ rw (days_length l d 7)

pub week_wrote : (s l m k : List ℕ) (d n : ℕ) → Wrote l 0 420 (days_to s d 7) m → Wrote m 420 n (types_to (slots_of s) 8) k → k ≡ sets l 0 (week_text s d)
unfolding week_text
week_wrote s l m k d n p q = (then p q).is

pub week_room : (l out : List ℕ) (d : ℕ) → length (week_text l d) ≤ length out → 420 ≤ length out
week_room l out d h = omega (arith, week_length l d)

pub lines_room : (l out m : List ℕ) (d : ℕ) → length (week_text l d) ≤ length out → Wrote out 0 420 (days_to l d 7) m → 420 + length (types_to (slots_of l) 8) ≤ length m
lines_room l out m d h w = omega (arith, week_length l d, same w)

-- ---- what is answered

-- most refusals carry nothing
carried_none : (r : Refusal) → (number_of r ≡ 7 → ⊥) → (number_of r ≡ 9 → ⊥) → carried_of r ≡ 0
carried_none Power h g = refl
carried_none Time h g = refl
carried_none Units h g = refl
carried_none Length h g = refl
carried_none Damaged h g = refl
carried_none Range h g = refl
carried_none (Short n) h g = absurd (h refl)
carried_none NoBlock h g = refl
carried_none (Field n) h g = absurd (g refl)
carried_none Inconsistent h g = refl
carried_none OtherMeter h g = refl
carried_none Differs h g = refl
carried_none Ended h g = refl
carried_none Clash h g = refl
carried_none Loaded h g = refl

few_numbers : (a b c : Bool) (n : ℕ) → n ≡ first_failing (check a 6 ∷ check b 6 ∷ check c 14 ∷ []) → (n ≡ 7 → ⊥) × (n ≡ 9 → ⊥)
few_numbers true b c n e = (λ h. omega arith, λ h. omega arith)
few_numbers false true c n e = (λ h. omega arith, λ h. omega arith)
few_numbers false false true n e = (λ h. omega arith, λ h. omega arith)
few_numbers false false false n e = (λ h. omega arith, λ h. omega arith)

pub judged_late : (l : List ℕ) (d : ℕ) → 36518 < d → 6 ≡ week_judged l d
unfolding week_judged
judged_late l d h = rw (lt-ltb 36518 d h)

judged_table : (l : List ℕ) (d a : ℕ) → d ≤ 36518 → a ≡ judged l → a ≡ week_judged l d
unfolding week_judged
judged_table l d a h e = rw (le-ltb 36518 d h, e)

-- what a table is refused for carries nothing
pub carries_none : (l : List ℕ) (r : Refusal) → number_of r ≡ judged l → carried_of r ≡ 0
unfolding judged
carries_none l r e = let few = few_numbers (not (eqb (length l) 440)) (not (sound (slots_of l))) (clash_in (slots_of l)) (number_of r) e in carried_none r few.0 few.1

module _ (l : List ℕ) (d : ℕ) (h : d ≤ 36518) where
  pub table_refused : (r : Refusal) → number_of r ≡ judged l → answered (Err r) ≡ answer (week_judged l d) 0
  table_refused r e = rw (carries_none l r e, judged_table l d (number_of r) h e)

  pub table_taken : 0 ≡ judged l → week_judged l d ≡ 0
  table_taken e = sym (judged_table l d 0 h e)

-- what is taken
module _ (l : List ℕ) (d : ℕ) (z : week_judged l d ≡ 0) where
  in_time_lem : ltb 36518 d ≡ false
  unfolding week_judged
  in_time_lem = by_test (ltb 36518 d) (λ t. absurd (let six : 6 ≡ 0 = rw t at z in omega arith)) (λ t. t)

  pub taken_day : d ≤ 36518
  taken_day = ltb-false 36518 d in_time_lem

  pub taken_table : judged l ≡ 0
  unfolding week_judged
  taken_table = rw in_time_lem at z

-- the text, by its length
module _ (l out : List ℕ) (d n : ℕ) (e : n ≡ length (types_to (slots_of l) 8)) where
  text_bytes : length (week_text l d) ≡ 420 + n
  text_bytes = week_length l d ∙ rw e

  module _ (h : length out < 420 + n) where
    pub short_shown : out ≡ shown out (week_text l d)
    short_shown = (shown_none out (week_text l d) (420 + n) text_bytes h).0

    pub short_answer : answer 7 (420 + n) ≡ room_answer (length (week_text l d)) (length out)
    short_answer = rw (text_bytes, lt-leb (420 + n) (length out) h)

  module _ (h : 420 + n ≤ length out) where
    pub fit_room : length (week_text l d) ≤ length out
    fit_room = rw text_bytes h

    pub fit_shown : (m : List ℕ) → m ≡ sets out 0 (week_text l d) → m ≡ shown out (week_text l d)
    fit_shown m p = (shown_all out (week_text l d) m (420 + n) (record { is = p; long = text_bytes }) h).0

    pub fit_answer : answer 0 (420 + n) ≡ room_answer (length (week_text l d)) (length out)
    fit_answer = rw (text_bytes, le-leb (420 + n) (length out) h)

-- the week
refused_number : (l : List ℕ) (d : ℕ) (r : Refusal) → answered (Err r) ≡ answer (week_judged l d) 0 → eqb (week_judged l d) 0 ≡ false
refused_number l d r e = let n : number_of r ≡ week_judged l d = ap (λ (x : Answer). x.number) e in ne_eqb (week_judged l d) 0 (λ z. omega (arith, n, above_0 r))

module _ (l out : List ℕ) (d : ℕ) where
  module _ (r : Refusal) (e : answered (Err r) ≡ answer (week_judged l d) 0) where
    pub stays_shown : out ≡ week_shown l d out
    unfolding week_shown
    stays_shown = rw (refused_number l d r e)

    pub refused_answer : answered (Err r) ≡ week_answer l d (length out)
    unfolding week_answer
    refused_answer = rw (refused_number l d r e) e

  module _ (z : week_judged l d ≡ 0) where
    pub taken_shown : (m : List ℕ) → m ≡ shown out (week_text l d) → m ≡ week_shown l d out
    unfolding week_shown
    taken_shown m p = rw (eq-eqb (week_judged l d) 0 z) p

    pub taken_answer : (a : Answer) → a ≡ room_answer (length (week_text l d)) (length out) → a ≡ week_answer l d (length out)
    unfolding week_answer
    taken_answer a p = rw (eq-eqb (week_judged l d) 0 z) p

-- ---- the program

pub date_fits : (b : List ℕ) (r : Option ℕ) (x : ℕ) → r ≡ number_at b 0 6 → r ≡ Some x → x < 4294967296
date_fits b r x e h = omega (arith, spelt_below b 0 6 r e x h)

module _ (l : List ℕ) (d : ℕ) where
  pub prints_refusal : (r : Refusal) → answered (Err r) ≡ answer (week_judged l d) 0 → refusal (number_of r) ≡ drawn_from l (Some d)
  unfolding drawn_from
  prints_refusal r e = let n : number_of r ≡ week_judged l d = ap (λ (x : Answer). x.number) e in rw (refused_number l d r e, n)

  pub prints_text : week_judged l d ≡ 0 → week_text l d ≡ drawn_from l (Some d)
  unfolding drawn_from
  prints_text z = rw (eq-eqb (week_judged l d) 0 z)

-- how much of the output is text
pub printed_length : (out text : List ℕ) (r : Result ℕ Refusal) → answered r ≡ room_answer (length text) (length out) → (result_unwrap_or r 0 ≡ shown_length out text) × (result_unwrap_or r 0 ≤ length out)
unfolding shown_length
printed_length out text (Ok n) e =
    by_test (leb (length text) (length out))
    (λ t. let is : n ≡ length text = ap (λ (x : Answer). x.carried) (rw t at e) in (rw t is, omega (arith, is, leb-true (length text) (length out) t)))
    (λ t. let no : 0 ≡ 7 = ap (λ (x : Answer). x.number) (rw t at e) in absurd (omega arith))
printed_length out text (Err r) e =
    by_test (leb (length text) (length out))
    (λ t. let no : number_of r ≡ 0 = ap (λ (x : Answer). x.number) (rw t at e) in absurd (omega (arith, above_0 r)))
    (λ t. (rw t, omega arith))

module _ (b : List ℕ) where
  pub prints_no_day : None ≡ day_asked b → refusal 6 ≡ drawn_of b
  unfolding drawn_of drawn_from
  prints_no_day e = rw (← e)

  module _ (d : ℕ) (e : Some d ≡ day_asked b) where
    pub asked_long : 7 ≤ length b
    unfolding day_asked
    asked_long = by_test (leb 7 (length b)) (λ t. leb-true 7 (length b) t) (λ t. absurd (let no : Some d ≡ None = rw t at e in cc))

    -- the table's bytes are all that follows
    pub prints_day : drawn_from (take (length b - 7) (drop 7 b)) (Some d) ≡ drawn_of b
    unfolding drawn_of
    prints_day = rw (← e, take_all (length b - 7) (drop 7 b) (omega (arith, length-drop 7 b)))
