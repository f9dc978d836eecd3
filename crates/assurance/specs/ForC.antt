-- What C gets (desk/cop6.h), function by function, over the definitions that their contracts cite: when each is refused, what is in the number that it returns,
-- and what it leaves in the output that was lent.
use Rattle.std.specs.Prelude.{ℕ, ◌-◌, ◌<◌, ◌≡◌, cond, List, eqb, length}
use Rattle.laws.specs.Table.{table}
use Rattle.calendar.specs.Calendar.{days_in_all, date_of}
use Rattle.calendar.specs.Clock.{halves_of_day}
use Rattle.calendar.specs.Digits.{date_digits, day_on}
use Rattle.format.specs.Identifier.{ident_length, letter_of}
use Rattle.block.specs.Answers.{answer}
use Rattle.days.specs.Day.{flags_of, count}
use Rattle.ledger.specs.Layout.{length_of, first_of, days_of}
use Rattle.ledger.specs.Rooms.{slot}
use Rattle.ledger.specs.Judged.{judged}
use Rattle.ledger.specs.Open.{open_of}
use Rattle.ledger.specs.Asked.{asked, summary_of, missing_of}
use Rattle.fields.specs.Views.{header_in}
use Rattle.filing.specs.File.{read_of}
use Rattle.filing.specs.Differs.{differs_of}
use Rattle.lines.specs.Listing.{shown, shown_length}
use Rattle.desk.specs.Numbers.{answer_place, one_number, answer_in, carried_in, first_and_count, missing_number, flags_number, window_number, day_or_none}
use Rattle.desk.specs.Given.{Gives, header_row, give_header, difference_row, give_differs, give_identifier, summary_row, give_summary, half_number, give_halves}

pub record ForC : Type 0 where
  -- every function: an answer and what it carries are told apart again. (cop6_read, cop6_open and cop6_file give those of the reader, of opening and of filing)
  pub apart : (a c : ℕ) → c < answer_place → (answer_in (one_number a c) ≡ a) × (carried_in (one_number a c) ≡ c)
  -- cop6_header, cop6_differs, cop6_identifier, cop6_summary, cop6_halves: the answer, the row that is given, and what is carried with it
  pub header : (b out : List ℕ) → Gives (give_header b out) out (read_of b) (header_row (header_in b) (read_of b).carried) (read_of b).carried
  pub differs : (l b out : List ℕ) → let d = differs_of l b in Gives (give_differs l b out) out (answer d.number d.carried) (difference_row d) d.carried
  pub identifier : (l out : List ℕ) → Gives (give_identifier l out) out (answer (judged l) 0) (table ident_length (letter_of l)) 0
  pub summary : (l : List ℕ) (d : ℕ) (out : List ℕ) → Gives (give_summary l d out) out (answer (summary_of l d).answer 0) (summary_row (summary_of l d)) 0
  pub halves : (l : List ℕ) (d : ℕ) (out : List ℕ) → let y = slot l (d - first_of l) in
      Gives (give_halves l d out) out (answer (asked l d) 0) (table halves_of_day (half_number y)) (count y)
  -- cop6_listing: a text that has no room is not begun, and its length is 0
  pub listing : (out text : List ℕ) → length out < length text → (shown out text ≡ out) × (shown_length out text ≡ 0)
  -- cop6_missing, cop6_flags, cop6_window: the answer, and what it carries, nothing where it is a refusal
  pub missing : (l : List ℕ) (d : ℕ) → let k = count (slot l (d - first_of l)) in
      missing_number (missing_of l d) ≡ one_number (asked l d) (cond (eqb (asked l d) 0) (first_and_count k (halves_of_day - k)) 0)
  pub flags : (l : List ℕ) (d : ℕ) → flags_number l d ≡ one_number (asked l d) (cond (eqb (asked l d) 0) (flags_of (slot l (d - first_of l))) 0)
  pub window : (l : List ℕ) → window_number l ≡ one_number (judged l) (cond (eqb (judged l) 0) (first_and_count (first_of l) (days_of l)) 0)
  -- cop6_day and cop6_date undo each other; an opened ledger has the bytes of cop6_ledger_length
  pub day : (d : ℕ) → d < days_in_all → day_or_none (day_on (date_digits (date_of d))) ≡ d
  pub date : (x : ℕ) → day_or_none (day_on x) < days_in_all → date_digits (date_of (day_or_none (day_on x))) ≡ x
  pub ledger_length : (l id : List ℕ) (first days : ℕ) → (open_of l id first days).answer ≡ 0 → length l ≡ length_of days
