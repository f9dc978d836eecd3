-- An answer and what it carries as one number for C (docs/RULES.md, "A form for each place": answer number and offset as one number), and day numbers
-- against dates YYMMDD.
use Rattle.std.specs.Prelude.{cond, List, ℕ, ◌+◌, ◌-◌, ◌*◌, ◌/◌, ◌%◌, eqb, Option, Some, None}
use Rattle.answers.specs.Answer.{Answer}
use Rattle.days.specs.Day.{flags_of}
use Rattle.ledger.specs.Layout.{first_of, days_of}
use Rattle.ledger.specs.Rooms.{slot}
use Rattle.ledger.specs.Judged.{judged}
use Rattle.ledger.specs.Asked.{MissingAnswer, asked}

-- 2 ^ 32 times the answer, and what it carries; and what C finds in such a number
abbrev pub answer_place : ℕ
answer_place = 4294967296

abbrev pub one_number : ℕ → ℕ → ℕ
one_number answer carried = answer * answer_place + carried

abbrev pub answer_in : ℕ → ℕ
answer_in number = number / answer_place

abbrev pub carried_in : ℕ → ℕ
carried_in number = number % answer_place

abbrev pub number_of : Answer → ℕ
number_of a = one_number a.number a.carried

-- a first one and how many, carried together: 2 ^ 16 times the first, and the count
abbrev pub first_and_count : ℕ → ℕ → ℕ
first_and_count first count = first * 65536 + count

-- what is missing of a day: the first half-hour, and how many
abbrev pub missing_number : MissingAnswer → ℕ
missing_number m = one_number m.answer (first_and_count m.first m.count)

-- the daily flags of a day, 0 where they are not held
unfoldable pub flags_number : List ℕ → ℕ → ℕ
flags_number l d = cond (eqb (asked l d) 0) (one_number 0 (flags_of (slot l (d - first_of l)))) (one_number (asked l d) 0)

-- the window of a ledger: the first day, and how many; 4 or 5 of one that is not good
unfoldable pub window_number : List ℕ → ℕ
window_number l = cond (eqb (judged l) 0) (one_number 0 (first_and_count (first_of l) (days_of l))) (one_number (judged l) 0)

-- a date's day number; where there is no such date a number that is no day of any window
abbrev pub no_day : ℕ
no_day = 4294967295

abbrev pub day_or_none : Option ℕ → ℕ
day_or_none (Some d) = d
day_or_none None = no_day
