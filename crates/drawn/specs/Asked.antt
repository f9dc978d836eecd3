-- What is answered where a week is asked for, and what the program prints of its input: YYMMDD, a newline, and the bytes of a table.
use Rattle.std.specs.Prelude.{ℕ, cond, ◌&&◌, List, eqb, ltb, leb, length, get_or, drop, Option, Some, None}
use Rattle.calendar.specs.Digits.{day_on}
use Rattle.format.specs.Answers.{number_at}
use Rattle.answers.specs.Answer.{Answer}
use Rattle.block.specs.Answers.{answer}
use Rattle.lines.specs.Listing.{newline, refusal, shown}
use Rattle.tariff.specs.Judge.{judged}
use Rattle.drawn.specs.Week.{last_drawn, week_text}

-- 6 for the day, then 6 and 14 of the table
unfoldable pub week_judged : List ℕ → ℕ → ℕ
week_judged l d = cond (ltb last_drawn d) 6 (judged l)

-- a text of so many bytes, given so much room: 7 where it has none carries its bytes, as 0 does
abbrev pub room_answer : ℕ → ℕ → Answer
room_answer text room = answer (cond (leb text room) 0 7) text

unfoldable pub week_answer : List ℕ → ℕ → ℕ → Answer
week_answer l d room = cond (eqb (week_judged l d) 0) (room_answer (length (week_text l d)) room) (answer (week_judged l d) 0)

-- the output afterwards
unfoldable pub week_shown : List ℕ → ℕ → List ℕ → List ℕ
week_shown l d out = cond (eqb (week_judged l d) 0) (shown out (week_text l d)) out

-- ---- the program

abbrev pub day_in : Option ℕ → Option ℕ
day_in (Some x) = day_on x
day_in None = None

-- six digits and the newline
abbrev pub asked_bytes : ℕ
asked_bytes = 7

unfoldable pub day_asked : List ℕ → Option ℕ
day_asked b = cond (leb asked_bytes (length b) && eqb (get_or b 6 0) newline) (day_in (number_at b 0 6)) None

unfoldable pub drawn_from : List ℕ → Option ℕ → List ℕ
drawn_from l (Some d) = cond (eqb (week_judged l d) 0) (week_text l d) (refusal (week_judged l d))
drawn_from l None = refusal 6

unfoldable pub drawn_of : List ℕ → List ℕ
drawn_of b = drawn_from (drop asked_bytes b) (day_asked b)
