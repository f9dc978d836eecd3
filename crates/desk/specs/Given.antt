-- Rows of numbers written into an output that C lends: a block's header, what differs, the identifier, a day's summary and its 48 half-hours. They are
-- written where the answer is 0 and the output has room; the rest of the output, and all of it where the call is refused, stays as it was. 7 carries the
-- room needed.
use Rattle.std.specs.Prelude.{◌≡◌, cond, List, [], ◌∷◌, ◌++◌, ℕ, ◌+◌, ◌-◌, ◌*◌, ◌<◌, ◌≤◌, eqb, leb, ltb, length, get_or}
use Rattle.std.proofs.lemmas.List.Edits.{sets}
use Rattle.laws.specs.Bits.{bit}
use Rattle.laws.specs.Table.{table}
use Rattle.quantity.specs.declared.KilowattHours.{KilowattHours}
use Rattle.quantity.specs.Units.{kilowatt_hours}
use Rattle.format.specs.Identifier.{ident_length, letter_of}
use Rattle.block.specs.Answers.{answer}
use Rattle.answers.specs.Answer.{Answer}
use Rattle.block.specs.declared.Header.{Header}
use Rattle.days.specs.Day.{Day, half_at, count}
use Rattle.days.specs.Energy.{advance_in}
use Rattle.ledger.specs.Layout.{first_of}
use Rattle.ledger.specs.Rooms.{slot}
use Rattle.ledger.specs.Judged.{judged}
use Rattle.ledger.specs.Asked.{SummaryAnswer, asked, summary_of}
use Rattle.filing.specs.File.{read_of}
use Rattle.filing.specs.Differs.{DifferenceAnswer, differs_of}
use Rattle.fields.specs.Views.{header_in}
use Rattle.desk.specs.Numbers.{one_number, number_of}

-- the output afterwards, and the number answered
pub record Given : Type 0 where
  pub out : List ℕ
  pub number : ℕ

abbrev pub given : List ℕ → ℕ → Given
given out n = record { out = out; number = n }

-- the answer a to a call that gives the row xs and carries c
unfoldable pub give_row : List ℕ → ℕ → List ℕ → ℕ → Given
give_row out a xs c =
    cond (eqb a 0)
    (cond (leb (length xs) (length out)) (given (sets out 0 xs) (one_number 0 c)) (given out (one_number 7 (length xs))))
    (given out (one_number a 0))

-- the same where a refusal too carries something
unfoldable pub give_found : List ℕ → Answer → List ℕ → Given
give_found out a xs = cond (eqb a.number 0) (give_row out 0 xs a.carried) (given out (number_of a))

-- a call that is answered a, and done gives the row xs and carries c: refused, and without room, it leaves the output; 7 carries the room needed
pub record Gives (g : Given) (out : List ℕ) (a : Answer) (xs : List ℕ) (c : ℕ) : Type 0 where
  pub refused : (a.number ≡ 0 → ⊥) → g ≡ given out (number_of a)
  pub short : a.number ≡ 0 → length out < length xs → g ≡ given out (one_number 7 (length xs))
  pub done : a.number ≡ 0 → length xs ≤ length out → g ≡ given (sets out 0 xs) (one_number 0 c)

-- ---- a block's header, in the block's order: identifier, time of reading, kWh register, current, previous, cumulative demand, last reset, reset count,
-- eight rate registers, number of days

abbrev pub header_numbers : ℕ
header_numbers = 28

unfoldable pub rate_of : List KilowattHours → ℕ → ℕ
rate_of rates i = (get_or rates i (kilowatt_hours 0)).0

abbrev pub totals_row : Header → List ℕ
totals_row h = h.time ∷ h.kwh.0 ∷ h.current.0 ∷ h.previous.0 ∷ h.cumulative.0 ∷ h.reset ∷ h.count ∷ []

unfoldable pub header_row : Header → ℕ → List ℕ
header_row h n = table ident_length (letter_of h.identifier) ++ (totals_row h ++ (table 8 (rate_of h.rates) ++ (n ∷ [])))

-- the answer carries the number of days
unfoldable pub give_header : List ℕ → List ℕ → Given
give_header b out = give_found out (read_of b) (header_row (header_in b) (read_of b).carried)

-- ---- where a block differs from what a ledger holds: day, part, what is held, what was sent; 1 is carried, or 0 and the four are 0

abbrev pub difference_row : DifferenceAnswer → List ℕ
difference_row x = x.day ∷ x.part ∷ x.held ∷ x.sent ∷ []

unfoldable pub give_differs : List ℕ → List ℕ → List ℕ → Given
give_differs l b out = give_found out (answer (differs_of l b).number (differs_of l b).carried) (difference_row (differs_of l b))

-- ---- a ledger's identifier

unfoldable pub give_identifier : List ℕ → List ℕ → Given
give_identifier l out = give_row out (judged l) (table ident_length (letter_of l)) 0

-- ---- a day's summary: held, k, start, summed advance, counts of reverse and Level 2 marks

abbrev pub summary_row : SummaryAnswer → List ℕ
summary_row s = bit s.held ∷ s.count ∷ s.start.0 ∷ s.advance.0 ∷ s.reverse ∷ s.level2 ∷ []

unfoldable pub give_summary : List ℕ → ℕ → List ℕ → Given
give_summary l d out = give_row out (summary_of l d).answer (summary_row (summary_of l d)) 0

-- ---- a day's half-hours: value, 2 ^ 16 advance, 2 ^ 32 reverse mark, 2 ^ 33 Level 2 mark; 0 where it is not held

abbrev pub half_with : ℕ → ℕ → ℕ → ℕ → ℕ
half_with value advance reverse level2 = value + 65536 * advance + 4294967296 * reverse + 8589934592 * level2

unfoldable pub half_number : Day → ℕ → ℕ
half_number x j =
    cond (ltb j (count x)) (half_with (half_at x j).value (advance_in x j) (bit (half_at x j).reverse) (bit (half_at x j).level2)) 0

-- the answer carries how many are held
unfoldable pub give_halves : List ℕ → ℕ → List ℕ → Given
give_halves l d out =
    give_row out (asked l d) (table 48 (half_number (slot l (d - first_of l)))) (count (slot l (d - first_of l)))
