-- Switching tables for C (docs/TARIFF.md): judged, the rate at a second, and a week drawn. Every 6 comes before 14, also that of the time or the day asked for.
use Rattle.std.specs.Prelude.{ℕ, cond, List, eqb, leb, length}
use Rattle.calendar.specs.Clock.{times_in_all}
use Rattle.tariff.specs.Judge.{judged}
use Rattle.tariff.specs.Rate.{rate_at}
use Rattle.drawn.specs.Week.{week_text}
use Rattle.drawn.specs.Asked.{week_judged}
use Rattle.desk.specs.Numbers.{one_number}
use Rattle.desk.specs.Given.{Given, give_row}

abbrev pub table_number : List ℕ → ℕ
table_number l = one_number (judged l) 0

unfoldable pub rate_judged : List ℕ → ℕ → ℕ
rate_judged l t = cond (leb times_in_all t) 6 (judged l)

-- the answer carries the rate
unfoldable pub rate_number : List ℕ → ℕ → ℕ
rate_number l t = cond (eqb (rate_judged l t) 0) (one_number 0 (rate_at l t)) (one_number (rate_judged l t) 0)

-- the answer carries how many bytes the text has, 7 too
unfoldable pub give_week : List ℕ → ℕ → List ℕ → Given
give_week l d out = give_row out (week_judged l d) (week_text l d) (length (week_text l d))
