-- What each return says, where a block's header, what differs, an identifier and a day's flags are given.
-- Assumes nothing.
use mathlib.Core.Path.{◌≡◌, refl, sym, ap, ◌∙◌}
use mathlib.Core.List.{List, [], ◌∷◌, ◌++◌, append_assoc}
use Prim.Native.Nat.{ℕ, zero, suc, ◌<◌, ◌≤◌, ◌-◌}
use native.Mathlib.Omega.{arith}
use lib.ListN.{length, get_or, take, length-append, length-take}
use lib.Seq.{get_or-take}
use Rattle.laws.proofs.Table.{table_of}
use Rattle.format.proofs.Writing.{letter_is}
use lib.Seq.{sets}
use borrow.Author.Tests.{eqb-true, ne_eqb}
use Rattle.laws.specs.Table.{table}
use Rattle.laws.proofs.Table.{length_table}
use Rattle.quantity.specs.declared.KilowattHours.{KilowattHours}
use Rattle.quantity.specs.Units.{kilowatt_hours}
use Rattle.block.specs.Parse.{parse}
use Rattle.block.specs.Answers.{answer, answer_of}
use Rattle.std.specs.Prelude.{Option, Some, None, Result, Ok, Err}
use Rattle.std.specs.Option.{is_some}
use Rattle.laws.specs.Bits.{bit}
use Rattle.answers.specs.declared.Refusal.{Refusal}
use Rattle.answers.specs.declared.Refusal.TheVariants.{Short}
use Rattle.answers.specs.Answer.{Answer, answered, number_of as name}
use Rattle.answers.proofs.Numbers.{above_0}
use Rattle.ledger.proofs.Refused.{carries_nothing, judged_low, asked_low}
use Rattle.filing.specs.declared.Difference.{Difference}
use Rattle.block.specs.declared.Header.{Header}
use Rattle.days.specs.Day.{flags_of, count}
use Rattle.ledger.specs.Layout.{room_at, first_of, state_in, flags_in}
use Rattle.ledger.specs.Rooms.{day_with, day_at, slot}
use Rattle.ledger.specs.Judged.{flags_ok, judged}
use Rattle.ledger.specs.Asked.{asked, no_missing, missing_of}
use Rattle.ledger.proofs.Good.{Sound, sound, judged_good}
use Rattle.filing.specs.File.{read_of}
use Rattle.filing.specs.Differs.{difference_as, differs_of}
use Rattle.fields.specs.Views.{header_in}
use Rattle.desk.specs.Numbers.{number_of, flags_number}
use Rattle.format.specs.Identifier.{letter_of}
use Rattle.desk.specs.Given.{given, give_found, header_numbers, rate_of, totals_row, header_row, give_header, difference_row, give_differs, give_identifier, half_number, give_halves}
use Rattle.laws.proofs.Rows.{row_side}
use Rattle.desk.proofs.Laws.{row_refused, row_short, row_given, asked_refused, day_asked}

-- ---- a row, where a refusal carries something

module _ (out xs : List ℕ) (a : Answer) where
  found_refused : (r : Refusal) → answered (Err r) ≡ a → given out (number_of (answered (Err r))) ≡ give_found out a xs
  unfolding give_found
  found_refused r e = rw (← e, ne_eqb (name r) 0 (λ z. omega (arith, z, above_0 r)))

  module _ (n : ℕ) (e : answered (Ok n) ≡ a) (m row : List ℕ) (p : row ≡ xs) where
    found_short : (r : Refusal) → (length out < length row) × (m ≡ out) × (r ≡ Short (length row)) → given m (number_of (answered (Err r))) ≡ give_found out a xs
    unfolding give_found
    found_short r h = rw (← e) (row_short out xs 0 n refl m row p r h)

    found_given : (length row ≤ length out) × (m ≡ sets out 0 row) → given m (number_of (answered (Ok n))) ≡ give_found out a xs
    unfolding give_found
    found_given h = rw (← e) (row_given out xs 0 n refl m row p h)

-- ---- the header

pub rate_is_lem : (rates : List KilowattHours) (i : ℕ) → (get_or rates i (kilowatt_hours 0)).0 ≡ rate_of rates i
unfolding rate_of
rate_is_lem rates i = refl

pub row_long : (h : Header) (n : ℕ) → length (header_row h n) ≡ header_numbers
unfolding header_row
row_long h n =
    length-append (table 12 (letter_of h.identifier)) (totals_row h ++ (table 8 (rate_of h.rates) ++ (n ∷ [])))
    ∙ rw (length_table 12 (letter_of h.identifier), length-append (table 8 (rate_of h.rates)) (n ∷ []), length_table 8 (rate_of h.rates))

pub header_of_lem : (out j k l m : List ℕ) (h : Header) (n : ℕ) → j ≡ sets out 0 (table 12 (letter_of h.identifier)) → k ≡ sets j 12 (totals_row h)
    → l ≡ sets k 19 (table 8 (rate_of h.rates)) → m ≡ sets l 27 (n ∷ []) → m ≡ sets out 0 (header_row h n)
unfolding header_row
header_of_lem out j k l m h n ej ek el em =
    let a = table 12 (letter_of h.identifier) in
    let b = table 8 (rate_of h.rates) in
    let la : length a ≡ 12 = length_table 12 (letter_of h.identifier) in
    let lb : length b ≡ 8 = length_table 8 (rate_of h.rates) in
    let first = row_side out j k a (totals_row h) 12 ej ek la in
    let next = row_side out k l (a ++ totals_row h) b 19 first el (omega (arith, la, length-append a (totals_row h))) in
    let last = row_side out l m ((a ++ totals_row h) ++ b) (n ∷ []) 27 next em (omega (arith, la, lb, length-append a (totals_row h), length-append (a ++ totals_row h) b)) in
    last ∙ ap (λ (z : List ℕ). sets out 0 z) (append_assoc (a ++ totals_row h) b (n ∷ []) ∙ append_assoc a (totals_row h) (b ++ (n ∷ [])))

module _ (b out : List ℕ) where
  read_found : (r : Result ℕ Refusal) → answered r ≡ answer_of (parse b) → answered r ≡ read_of b
  unfolding read_of
  read_found r e = e

  pub header_refused : (r : Refusal) → answered (Err r) ≡ answer_of (parse b) → given out (number_of (answered (Err r))) ≡ give_header b out
  unfolding give_header
  header_refused r e = found_refused out (header_row (header_in b) (read_of b).carried) (read_of b) r (read_found (Err r) e)

  module _ (n : ℕ) (e : answered (Ok n) ≡ answer_of (parse b)) (h : Header) (eh : h ≡ header_in b) (m row : List ℕ) (p : row ≡ header_row h n) where
    there : row ≡ header_row (header_in b) (read_of b).carried
    there = rw (← read_found (Ok n) e, ← eh) p

    pub header_short : (r : Refusal) → (length out < length row) × (m ≡ out) × (r ≡ Short (length row)) → given m (number_of (answered (Err r))) ≡ give_header b out
    unfolding give_header
    header_short r g = found_short out (header_row (header_in b) (read_of b).carried) (read_of b) n (read_found (Ok n) e) m row there r g

    pub header_given : (length row ≤ length out) × (m ≡ sets out 0 row) → given m (number_of (answered (Ok n))) ≡ give_header b out
    unfolding give_header
    header_given g = found_given out (header_row (header_in b) (read_of b).carried) (read_of b) n (read_found (Ok n) e) m row there g

-- ---- what differs

module _ (l b out : List ℕ) where
  pub differs_not : (r : Refusal) → difference_as (Err r) ≡ differs_of l b → given out (number_of (answered (Err r))) ≡ give_differs l b out
  unfolding give_differs
  differs_not r e = rw (← e) (found_refused out (difference_row (difference_as (Err r))) (answered (Err r)) r refl)

  module _ (x : Option Difference) (k : ℕ) (ek : answer 0 k ≡ answer (difference_as (Ok x)).number (difference_as (Ok x)).carried) (e : difference_as (Ok x) ≡ differs_of l b) (m row : List ℕ) (p : row ≡ difference_row (difference_as (Ok x))) where
    pub differs_short : (r : Refusal) → (length out < length row) × (m ≡ out) × (r ≡ Short (length row)) → given m (number_of (answered (Err r))) ≡ give_differs l b out
    unfolding give_differs
    differs_short r g = rw (← e) (found_short out (difference_row (difference_as (Ok x))) (answer (difference_as (Ok x)).number (difference_as (Ok x)).carried) k ek m row p r g)

    pub differs_given : (length row ≤ length out) × (m ≡ sets out 0 row) → given m (number_of (answered (Ok k))) ≡ give_differs l b out
    unfolding give_differs
    differs_given g = rw (← e) (found_given out (difference_row (difference_as (Ok x))) (answer (difference_as (Ok x)).number (difference_as (Ok x)).carried) k ek m row p g)

pub carried_bit : (x : Option Difference) → answer 0 (bit (is_some x)) ≡ answer (difference_as (Ok x)).number (difference_as (Ok x)).carried
carried_bit (Some x) = refl
carried_bit None = refl

-- ---- the identifier

module _ (l out : List ℕ) where
  pub identifier_refused : (r : Refusal) → name r ≡ judged l → given out (number_of (answered (Err r))) ≡ give_identifier l out
  unfolding give_identifier
  identifier_refused r e = row_refused out (table 12 (letter_of l)) (judged l) 0 r e (omega (arith, judged_low l))

  module _ (z : 0 ≡ judged l) (m : List ℕ) where
    pub identifier_there : 12 ≤ length l
    identifier_there = omega (arith, (judged_good l (sym z)).size)

    pub letters_long : length (take 12 l) ≡ 12
    letters_long = omega (arith, length-take 12 l, identifier_there)

    first_letters : take 12 l ≡ table 12 (letter_of l)
    first_letters = table_of (take 12 l) 12 (letter_of l) letters_long (λ i h. letter_is l i _ (get_or-take 12 l i 0 h))

    pub identifier_short : (r : Refusal) → (length out < length (take 12 l)) × (m ≡ out) × (r ≡ Short (length (take 12 l))) → given m (number_of (answered (Err r))) ≡ give_identifier l out
    unfolding give_identifier
    identifier_short r g = row_short out (table 12 (letter_of l)) (judged l) 0 z m (take 12 l) first_letters r g

    pub identifier_given : (length (take 12 l) ≤ length out) × (m ≡ sets out 0 (take 12 l)) → given m (number_of (answered (Ok 0))) ≡ give_identifier l out
    unfolding give_identifier
    identifier_given g = row_given out (table 12 (letter_of l)) (judged l) 0 z m (take 12 l) first_letters g

-- ---- a day's flags and half-hours

flags_with : (l : List ℕ) (at e : ℕ) → Sound l at e → flags_in l at ≡ flags_of (day_with l at e)
unfolding flags_ok
flags_with l at zero s = eqb-true (flags_in l at) 0 s.flags
flags_with l at (suc k) s = refl

module _ (l : List ℕ) (d : ℕ) where
  pub flags_refused : (r : Refusal) → no_missing (name r) ≡ missing_of l d → number_of (answered (Err r)) ≡ flags_number l d
  unfolding flags_number
  flags_refused r e =
      let a = asked_refused l d r e in
      rw (ne_eqb (asked l d) 0 (λ z. omega (arith, a, z, above_0 r)), carries_nothing r (omega (arith, a, asked_low l d)), a)

  pub flags_given : (at r : ℕ) → 0 ≡ asked l d → at ≡ room_at (d - first_of l) → r ≡ flags_in l at → number_of (answered (Ok r)) ≡ flags_number l d
  unfolding flags_number slot day_at
  flags_given at r z ea er =
      let s = sound l (room_at (d - first_of l)) (day_asked l d at z ea).good in
      let f : r ≡ flags_of (day_at l (room_at (d - first_of l))) = er ∙ rw ea (flags_with l (room_at (d - first_of l)) (state_in l (room_at (d - first_of l))) s) in
      rw (← z, f)

  module _ (out : List ℕ) where
    pub halves_refused : (r : Refusal) → no_missing (name r) ≡ missing_of l d → given out (number_of (answered (Err r))) ≡ give_halves l d out
    unfolding give_halves
    halves_refused r e = row_refused out (table 48 (half_number (slot l (d - first_of l)))) (asked l d) (count (slot l (d - first_of l))) r (asked_refused l d r e) (asked_low l d)

    pub halves_short : 0 ≡ asked l d → length out < 48 → given out (number_of (answered (Err (Short 48)))) ≡ give_halves l d out
    unfolding give_halves
    halves_short z h =
        let day = table 48 (half_number (slot l (d - first_of l))) in
        let long : length day ≡ 48 = length_table 48 (half_number (slot l (d - first_of l))) in
        row_short out day (asked l d) (count (slot l (d - first_of l))) z out day refl (Short 48) (rw long h, refl, ap (λ n. Short n) (sym long))

    pub halves_given : (k at : ℕ) → 0 ≡ asked l d → at ≡ room_at (d - first_of l) → k ≡ count (day_at l at) → (m : List ℕ) → 48 ≤ length out → m ≡ sets out 0 (table 48 (half_number (day_at l at)))
        → given m (number_of (answered (Ok k))) ≡ give_halves l d out
    unfolding give_halves slot
    halves_given k at z ea ek m h g =
        let day = table 48 (half_number (slot l (d - first_of l))) in
        let long : length day ≡ 48 = length_table 48 (half_number (slot l (d - first_of l))) in
        let held : k ≡ count (slot l (d - first_of l)) = rw (← ea) ek in
        rw held (row_given out day (asked l d) (count (slot l (d - first_of l))) z m day refl (rw long h, rw (← ea) g))
