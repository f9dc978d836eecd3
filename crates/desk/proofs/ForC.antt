-- What C may rely on: an answer and what it carries are told apart again, each call that gives a row gives just that, days and dates undo each other.
-- Assumes nothing.
use Prim.Native.Nat.{ℕ, ◌-◌, ◌<◌}
use mathlib.Core.Path.{◌≡◌, refl}
use mathlib.Core.Bool.{cond}
use mathlib.Core.List.{List}
use native.Mathlib.Omega.{arith}
use lib.Dec.{eqb}
use lib.ListN.{length}
use borrow.Author.Tests.{eqb-true, eq-eqb, ne_eqb, le-leb, lt-leb}
use Rattle.laws.specs.Table.{table}
use Rattle.laws.proofs.Split.{by_test}
use Rattle.std.specs.Prelude.{Option, Some, None}
use Rattle.calendar.specs.Calendar.{days_in_all, date_of}
use Rattle.calendar.specs.Clock.{halves_of_day}
use Rattle.calendar.specs.Digits.{date_digits, day_on}
use Rattle.calendar.proofs.Digits.{date_found, day_found}
use Rattle.block.specs.Answers.{answer}
use Rattle.answers.specs.Answer.{Answer}
use Rattle.days.specs.Day.{flags_of, count}
use Rattle.ledger.specs.Layout.{first_of, days_of}
use Rattle.ledger.specs.Rooms.{slot}
use Rattle.ledger.specs.Judged.{judged}
use Rattle.ledger.specs.Asked.{asked, day_missing, missing_of, summary_of}
use Rattle.fields.specs.Views.{header_in}
use Rattle.filing.specs.File.{read_of}
use Rattle.filing.specs.Differs.{differs_of}
use Rattle.desk.specs.Numbers.{answer_place, one_number, answer_in, carried_in, first_and_count, missing_number, flags_number, window_number, no_day, day_or_none}
use Rattle.format.specs.Identifier.{letter_of}
use Rattle.desk.specs.Given.{give_row, give_found, Gives, header_row, give_header, difference_row, give_differs, give_identifier, summary_row, give_summary, half_number, give_halves}
use Rattle.desk.specs.Tables.{rate_judged, rate_number, give_week}
use Rattle.tariff.specs.Rate.{rate_at}
use Rattle.drawn.specs.Week.{week_text}
use Rattle.drawn.specs.Asked.{week_judged}

pub apart : (a c : ℕ) → c < answer_place → (answer_in (one_number a c) ≡ a) × (carried_in (one_number a c) ≡ c)
apart a c h = (omega arith, omega arith)

-- ---- rows

row_gives : (out xs : List ℕ) (a c : ℕ) → Gives (give_row out a xs c) out (answer a 0) xs c
unfolding give_row
row_gives out xs a c = record {
  refused = λ n. rw (ne_eqb a 0 n);
  short = λ z l. rw (eq-eqb a 0 z, lt-leb (length xs) (length out) l);
  done = λ z l. rw (eq-eqb a 0 z, le-leb (length xs) (length out) l);
}

found_gives : (out xs : List ℕ) (a : Answer) → Gives (give_found out a xs) out a xs a.carried
unfolding give_found give_row
found_gives out xs a = record {
  refused = λ n. rw (ne_eqb a.number 0 n);
  short = λ z l. rw (eq-eqb a.number 0 z, lt-leb (length xs) (length out) l);
  done = λ z l. rw (eq-eqb a.number 0 z, le-leb (length xs) (length out) l);
}

pub header_gives : (b out : List ℕ) → Gives (give_header b out) out (read_of b) (header_row (header_in b) (read_of b).carried) (read_of b).carried
unfolding give_header
header_gives b out = found_gives out (header_row (header_in b) (read_of b).carried) (read_of b)

pub differs_gives : (l b out : List ℕ) → Gives (give_differs l b out) out (answer (differs_of l b).number (differs_of l b).carried) (difference_row (differs_of l b)) (differs_of l b).carried
unfolding give_differs
differs_gives l b out = found_gives out (difference_row (differs_of l b)) (answer (differs_of l b).number (differs_of l b).carried)

pub identifier_gives : (l out : List ℕ) → Gives (give_identifier l out) out (answer (judged l) 0) (table 12 (letter_of l)) 0
unfolding give_identifier
identifier_gives l out = row_gives out (table 12 (letter_of l)) (judged l) 0

pub summary_gives : (l : List ℕ) (d : ℕ) (out : List ℕ) → Gives (give_summary l d out) out (answer (summary_of l d).answer 0) (summary_row (summary_of l d)) 0
unfolding give_summary
summary_gives l d out = row_gives out (summary_row (summary_of l d)) (summary_of l d).answer 0

pub halves_gives : (l : List ℕ) (d : ℕ) (out : List ℕ)
    → Gives (give_halves l d out) out (answer (asked l d) 0) (table halves_of_day (half_number (slot l (d - first_of l)))) (count (slot l (d - first_of l)))
unfolding give_halves
halves_gives l d out = row_gives out (table halves_of_day (half_number (slot l (d - first_of l)))) (asked l d) (count (slot l (d - first_of l)))

pub week_gives : (l : List ℕ) (d : ℕ) (out : List ℕ) → Gives (give_week l d out) out (answer (week_judged l d) 0) (week_text l d) (length (week_text l d))
unfolding give_week
week_gives l d out = row_gives out (week_text l d) (week_judged l d) (length (week_text l d))

-- ---- questions that are answered by a number alone

pub rate_number_lem : (l : List ℕ) (t : ℕ) → rate_number l t ≡ one_number (rate_judged l t) (cond (eqb (rate_judged l t) 0) (rate_at l t) 0)
unfolding rate_number
rate_number_lem l t = by_test (eqb (rate_judged l t) 0) (λ e. rw (e, eqb-true (rate_judged l t) 0 e)) (λ e. rw e)

pub flags_number_lem : (l : List ℕ) (d : ℕ) → flags_number l d ≡ one_number (asked l d) (cond (eqb (asked l d) 0) (flags_of (slot l (d - first_of l))) 0)
unfolding flags_number
flags_number_lem l d = by_test (eqb (asked l d) 0) (λ t. rw (t, eqb-true (asked l d) 0 t)) (λ t. rw t)

pub window_number_lem : (l : List ℕ) → window_number l ≡ one_number (judged l) (cond (eqb (judged l) 0) (first_and_count (first_of l) (days_of l)) 0)
unfolding window_number
window_number_lem l = by_test (eqb (judged l) 0) (λ t. rw (t, eqb-true (judged l) 0 t)) (λ t. rw t)

pub missing_number_lem : (l : List ℕ) (d : ℕ) → let k = count (slot l (d - first_of l)) in
    missing_number (missing_of l d) ≡ one_number (asked l d) (cond (eqb (asked l d) 0) (first_and_count k (halves_of_day - k)) 0)
unfolding missing_of day_missing
missing_number_lem l d = by_test (eqb (asked l d) 0) (λ t. rw (t, eqb-true (asked l d) 0 t)) (λ t. rw t)

-- ---- days and dates

pub day_again : (d : ℕ) → d < days_in_all → day_or_none (day_on (date_digits (date_of d))) ≡ d
day_again d l = rw (date_found d l)

pub date_again : (x : ℕ) → day_or_none (day_on x) < days_in_all → date_digits (date_of (day_or_none (day_on x))) ≡ x
date_again x l = go (day_on x) refl
  where
    go : (f : Option ℕ) → day_on x ≡ f → date_digits (date_of (day_or_none (day_on x))) ≡ x
    go (Some d) e = rw e (day_found x d e)
    go None e = absurd (let no : no_day < days_in_all = rw e at l in omega arith)
