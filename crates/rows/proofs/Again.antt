-- A recorder out of its row is the recorder that was written, and a header out of the row that the library for C gives is that header.
-- Assumes nothing.
use Prim.Native.Nat.{ℕ, ◌+◌, ◌%◌, ◌<◌}
use mathlib.Core.Path.{◌≡◌, refl, sym, ap, ◌∙◌}
use mathlib.Core.Bool.{Bool, true, false}
use mathlib.Core.List.{List, [], ◌∷◌, ◌++◌}
use native.Mathlib.Omega.{arith}
use lib.Dec.{eqb}
use lib.ListN.{length, get_or, get_or-append}
use lib.Seq.{ext_get_or, get_or-append-add}
use Rattle.laws.specs.Bits.{bit}
use Rattle.laws.specs.Table.{table}
use Rattle.laws.proofs.Table.{length_table, table_at, table_of}
use Rattle.quantity.specs.Units.{milliwatt_hours, kilowatt_hours}
use Rattle.format.specs.Identifier.{letter_of}
use Rattle.block.specs.declared.Header.{Header}
use Rattle.store.specs.declared.Class.{Class}
use Rattle.store.specs.declared.Class.TheVariants.{A, B, C, D, Blank}
use Rattle.recorder.specs.declared.Recorder.{Recorder}
use Rattle.desk.specs.Given.{rate_of, totals_row, header_row}
use Rattle.rows.specs.Rows.{class_number, register_of, first_eight, last_eight, recorder_row, first_eight_at, registers_at, last_eight_at, number_in, letter_in, class_numbered, register_in, recorder_from, totals_at, rates_at, rate_in, header_from, RecorderFits, HeaderFits}

-- ---- numbers of a row in parts

behind : (xs ys : List ℕ) (n j : ℕ) → length xs ≡ n → get_or (xs ++ ys) (n + j) 0 ≡ get_or ys j 0
behind xs ys n j e = let z : n + j ≡ length xs + j = omega (arith, e) in rw z (get_or-append-add xs ys j 0)

narrow : (x : ℕ) → x < 4294967296 → x % 4294967296 ≡ x
narrow x h = omega arith

-- letters first: those of the identifier come back, each a byte
letters_again : (id xs : List ℕ) → length id ≡ 12 → ((i : ℕ) → i < 12 → letter_of id i < 256) → table 12 (letter_in (table 12 (letter_of id) ++ xs)) ≡ id
unfolding letter_in number_in letter_of
letters_again id xs len few =
    sym (table_of id 12 (letter_in (table 12 (letter_of id) ++ xs)) len
    (λ i h.
    let e : get_or (table 12 (letter_of id) ++ xs) i 0 ≡ get_or id i 0 =
    get_or-append (table 12 (letter_of id)) xs 0 i (omega (arith, length_table 12 (letter_of id))) ∙ table_at 12 (letter_of id) i 0 h in
    let f : get_or id i 0 < 256 = few i h in
    rw e (omega arith)))

class_again : (c : Class) → class_numbered (class_number c) ≡ c
unfolding class_numbered
class_again A = refl
class_again B = refl
class_again C = refl
class_again D = refl
class_again Blank = refl

bit_again : (b : Bool) → eqb (bit b) 1 ≡ b
bit_again true = refl
bit_again false = refl

-- ---- a recorder

module _ (r : Recorder) where
  letters : List ℕ
  letters = table 12 (letter_of r.identity.identifier)

  registers : List ℕ
  registers = table 8 (register_of r.energy.rates)

  letters_long : length letters ≡ 12
  unfolding letters
  letters_long = length_table 12 (letter_of r.identity.identifier)

  in_parts : (j : ℕ) → number_in (recorder_row r) (first_eight_at + j) ≡ get_or (first_eight r ++ (registers ++ last_eight r)) j 0
  unfolding recorder_row number_in letters registers
  in_parts j = behind letters (first_eight r ++ (registers ++ last_eight r)) first_eight_at j letters_long

  first : (j : ℕ) → j < 8 → number_in (recorder_row r) (first_eight_at + j) ≡ get_or (first_eight r) j 0
  first j h = in_parts j ∙ get_or-append (first_eight r) (registers ++ last_eight r) 0 j h

  past : (j : ℕ) → number_in (recorder_row r) (registers_at + j) ≡ get_or (registers ++ last_eight r) j 0
  past j =
      let z : registers_at + j ≡ first_eight_at + (8 + j) = omega arith in
      rw z (in_parts (8 + j) ∙ behind (first_eight r) (registers ++ last_eight r) 8 j refl)

  register : (j : ℕ) → j < 8 → number_in (recorder_row r) (registers_at + j) ≡ register_of r.energy.rates j
  unfolding registers
  register j h =
      past j
      ∙ get_or-append registers (last_eight r) 0 j (omega (arith, length_table 8 (register_of r.energy.rates)))
      ∙ table_at 8 (register_of r.energy.rates) j 0 h

  last : (j : ℕ) → number_in (recorder_row r) (last_eight_at + j) ≡ get_or (last_eight r) j 0
  unfolding registers
  last j =
      let z : last_eight_at + j ≡ registers_at + (8 + j) = omega arith in
      rw z (past (8 + j) ∙ behind registers (last_eight r) 8 j (length_table 8 (register_of r.energy.rates)))

  registers_again : length r.energy.rates ≡ 8 → table 8 (register_in (recorder_row r)) ≡ r.energy.rates
  unfolding register_in register_of
  registers_again len =
      ext_get_or (milliwatt_hours 0) (table 8 (register_in (recorder_row r))) r.energy.rates (length_table 8 (register_in (recorder_row r)) ∙ sym len)
      (λ i h.
      let k : i < 8 = omega (arith, length_table 8 (register_in (recorder_row r))) in
      table_at 8 (register_in (recorder_row r)) i (milliwatt_hours 0) k ∙ ap milliwatt_hours (register i k))

  letters_back : RecorderFits r → table 12 (letter_in (recorder_row r)) ≡ r.identity.identifier
  unfolding recorder_row
  letters_back f =
      letters_again r.identity.identifier (first_eight r ++ (table 8 (register_of r.energy.rates) ++ last_eight r)) f.letters f.bytes

  pub recorder_again : RecorderFits r → recorder_from (recorder_row r) ≡ r
  unfolding recorder_from
  recorder_again f =
      rw (
        letters_back f,
        first 0 (omega arith),
        first 1 (omega arith),
        first 2 (omega arith),
        first 3 (omega arith),
        first 4 (omega arith),
        first 5 (omega arith),
        first 6 (omega arith),
        first 7 (omega arith),
        registers_again f.registers,
        last 0,
        last 1,
        last 2,
        last 3,
        last 4,
        last 5,
        last 6,
        last 7,
        class_again r.identity.class,
        bit_again r.clock.on,
        bit_again r.running.reverse,
        bit_again r.running.level2,
        narrow r.clock.days f.days,
        narrow r.energy.last f.last,
        narrow r.energy.rate f.rate,
        narrow r.demand.reset f.reset,
        narrow r.demand.count f.count,
      )

-- ---- a header

module _ (h : Header) (n : ℕ) where
  rates : List ℕ
  rates = table 8 (rate_of h.rates)

  head_parts : (j : ℕ) → number_in (header_row h n) (totals_at + j) ≡ get_or (totals_row h ++ (rates ++ (n ∷ []))) j 0
  unfolding header_row number_in rates
  head_parts j =
      behind (table 12 (letter_of h.identifier)) (totals_row h ++ (rates ++ (n ∷ []))) totals_at j (length_table 12 (letter_of h.identifier))

  total : (j : ℕ) → j < 7 → number_in (header_row h n) (totals_at + j) ≡ get_or (totals_row h) j 0
  total j k = head_parts j ∙ get_or-append (totals_row h) (rates ++ (n ∷ [])) 0 j k

  rate : (j : ℕ) → j < 8 → number_in (header_row h n) (rates_at + j) ≡ rate_of h.rates j
  unfolding rates
  rate j k =
      let z : rates_at + j ≡ totals_at + (7 + j) = omega arith in
      rw z
      (head_parts (7 + j)
      ∙ behind (totals_row h) (rates ++ (n ∷ [])) 7 j refl
      ∙ get_or-append rates (n ∷ []) 0 j (omega (arith, length_table 8 (rate_of h.rates)))
      ∙ table_at 8 (rate_of h.rates) j 0 k)

  rates_again : length h.rates ≡ 8 → table 8 (rate_in (header_row h n)) ≡ h.rates
  unfolding rate_in rate_of
  rates_again len =
      ext_get_or (kilowatt_hours 0) (table 8 (rate_in (header_row h n))) h.rates (length_table 8 (rate_in (header_row h n)) ∙ sym len)
      (λ i k.
      let few : i < 8 = omega (arith, length_table 8 (rate_in (header_row h n))) in
      table_at 8 (rate_in (header_row h n)) i (kilowatt_hours 0) few ∙ ap kilowatt_hours (rate i few))

  head_letters : HeaderFits h → table 12 (letter_in (header_row h n)) ≡ h.identifier
  unfolding header_row
  head_letters f = letters_again h.identifier (totals_row h ++ (table 8 (rate_of h.rates) ++ (n ∷ []))) f.letters f.bytes

  pub header_again : HeaderFits h → header_from (header_row h n) ≡ h
  unfolding header_from
  header_again f =
      rw (
        head_letters f,
        total 0 (omega arith),
        total 1 (omega arith),
        total 2 (omega arith),
        total 3 (omega arith),
        total 4 (omega arith),
        total 5 (omega arith),
        total 6 (omega arith),
        rates_again f.rates,
        narrow h.reset f.reset,
        narrow h.count f.count,
      )
