-- The numbers, days and times that words name (docs/REPLAY.md, "The script"): `N`, `DAY` and `TIME`.
use Rattle.std.specs.Prelude.{ℕ, ◌+◌, ◌*◌, ◌^◌, cond, ◌&&◌, Option, Some, None, List, eqb, leb, ltb, length, drop, get_or}
use Rattle.calendar.specs.Digits.{day_on, seconds_on}
use Rattle.format.specs.Answers.{number_at}
use Rattle.script.specs.Words.{word_at}

-- N: one to eighteen digits
unfoldable pub number_of : List ℕ → Option ℕ
number_of w = cond (leb 1 (length w) && leb (length w) 18) (number_at w 0 (length w)) None

-- .. of 32 bits
abbrev pub fitted : Option ℕ → Option ℕ
fitted (Some n) = cond (ltb n (2 ^ 32)) (Some n) None
fitted None = None

unfoldable pub small_of : List ℕ → Option ℕ
small_of w = fitted (number_of w)

-- ---- a day: YYMMDD, or @ and its number

unfoldable pub six_of : List ℕ → Option ℕ
six_of w = cond (eqb (length w) 6) (number_at w 0 6) None

abbrev pub if_date : Option ℕ → Option ℕ
if_date (Some x) = day_on x
if_date None = None

abbrev pub at : ℕ
at = 64

unfoldable pub day_named : List ℕ → Option ℕ
day_named w = cond (eqb (get_or w 0 0) at) (small_of (drop 1 w)) (if_date (six_of w))

-- ---- a time: YYMMDD hhmmss, or @ and its second

abbrev pub joined : Option ℕ → Option ℕ → Option ℕ
joined (Some date) (Some clock) = seconds_on (date * 1000000 + clock)
joined (Some date) None = None
joined None c = None

unfoldable pub second_named : List ℕ → Option ℕ
second_named w = cond (eqb (get_or w 0 0) at) (number_of (drop 1 w)) None

-- in the words of a line from word k to word l
unfoldable pub time_named : List ℕ → ℕ → ℕ → Option ℕ
time_named s k l =
    cond (eqb l k) (second_named (word_at k s))
    (cond (eqb l (k + 1)) (joined (six_of (word_at k s)) (six_of (word_at l s))) None)
