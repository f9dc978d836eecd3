-- What each return and each turn says.
-- Assumes nothing.
use Prim.Native.Nat.{ℕ, ◌+◌, ◌%◌, ◌<◌, ◌≤◌}
use mathlib.Core.Path.{◌≡◌, refl, ap, ◌∙◌}
use mathlib.Core.List.{List, ◌++◌, append_assoc}
use native.Mathlib.Omega.{arith}
use lib.ListN.{length, get_or, length-append}
use lib.Seq.{sets}
use borrow.Author.Tests.{le-leb, lt-leb}
use Rattle.laws.specs.Table.{table}
use Rattle.laws.proofs.Table.{length_table}
use Rattle.laws.proofs.Rows.{row_side}
use Rattle.quantity.specs.declared.MilliwattHours.{MilliwattHours}
use Rattle.quantity.specs.Units.{milliwatt_hours, kilowatt_hours}
use Rattle.format.specs.Identifier.{letter_of}
use Rattle.recorder.specs.declared.Recorder.{Recorder}
use Rattle.rows.specs.Rows.{put_row, register_of, first_eight, last_eight, recorder_row, first_eight_at, registers_at, last_eight_at, recorder_numbers, number_in, letter_in, register_in, rates_at, rate_in}

-- ---- fields out of a row

pub letter_is : (l : List ℕ) (i x v : ℕ) → x ≡ number_in l i → v ≡ x % 256 → v ≡ letter_in l i
unfolding letter_in
letter_is l i x v e f = f ∙ rw e

pub register_is : (l : List ℕ) (i x : ℕ) → x ≡ number_in l (registers_at + i) → milliwatt_hours x ≡ register_in l i
unfolding register_in
register_is l i x e = ap milliwatt_hours e

pub rate_is_lem : (l : List ℕ) (i x : ℕ) → x ≡ number_in l (rates_at + i) → kilowatt_hours x ≡ rate_in l i
unfolding rate_in
rate_is_lem l i x e = ap kilowatt_hours e

-- ---- a recorder's row

pub register_of_lem : (rates : List MilliwattHours) (i : ℕ) → (get_or rates i (milliwatt_hours 0)).0 ≡ register_of rates i
unfolding register_of
register_of_lem rates i = refl

pub row_long : (r : Recorder) → length (recorder_row r) ≡ recorder_numbers
unfolding recorder_row
row_long r =
    let a = table 12 (letter_of r.identity.identifier) in
    let b = table 8 (register_of r.energy.rates) in
    length-append a (first_eight r ++ (b ++ last_eight r))
    ∙ rw (length_table 12 (letter_of r.identity.identifier), length-append b (last_eight r), length_table 8 (register_of r.energy.rates))

pub recorder_of : (out j k l m : List ℕ) (r : Recorder) → j ≡ sets out 0 (table 12 (letter_of r.identity.identifier)) → k ≡ sets j first_eight_at (first_eight r)
    → l ≡ sets k registers_at (table 8 (register_of r.energy.rates)) → m ≡ sets l last_eight_at (last_eight r) → m ≡ sets out 0 (recorder_row r)
unfolding recorder_row
recorder_of out j k l m r ej ek el em =
    let a = table 12 (letter_of r.identity.identifier) in
    let b = table 8 (register_of r.energy.rates) in
    let la : length a ≡ 12 = length_table 12 (letter_of r.identity.identifier) in
    let lb : length b ≡ 8 = length_table 8 (register_of r.energy.rates) in
    let first = row_side out j k a (first_eight r) first_eight_at ej ek la in
    let next = row_side out k l (a ++ first_eight r) b registers_at first el (omega (arith, la, length-append a (first_eight r))) in
    let last = row_side out l m ((a ++ first_eight r) ++ b) (last_eight r) last_eight_at next em (omega (arith, la, lb, length-append a (first_eight r), length-append (a ++ first_eight r) b)) in
    last ∙ ap (λ (z : List ℕ). sets out 0 z) (append_assoc (a ++ first_eight r) b (last_eight r) ∙ append_assoc a (first_eight r) (b ++ last_eight r))

module _ (out : List ℕ) (r : Recorder) where
  pub put_none : length out < recorder_numbers → out ≡ put_row out (recorder_row r)
  unfolding put_row
  put_none h = rw (row_long r, lt-leb recorder_numbers (length out) h)

  pub put_done : (m : List ℕ) → recorder_numbers ≤ length out → m ≡ sets out 0 (recorder_row r) → m ≡ put_row out (recorder_row r)
  unfolding put_row
  put_done m h e = rw (row_long r, le-leb recorder_numbers (length out) h) e
