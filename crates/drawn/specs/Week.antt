-- A week drawn (docs/TARIFF.md): seven days of a switching table, a line each, with the date, the weekday, the day type and a character for each half-hour; then a line for each day type
-- that is used, with its switching times.
use Rattle.std.specs.Prelude.{ℕ, zero, suc, ◌+◌, ◌-◌, ◌*◌, ◌/◌, ◌%◌, Bool, false, not, cond, ◌&&◌, ◌||◌, List, [], ◌∷◌, ◌++◌, eqb}
use Rattle.laws.specs.Table.{table}
use Rattle.calendar.specs.Calendar.{days_in_all, date_of}
use Rattle.calendar.specs.Clock.{seconds_of_day, seconds_of_half, halves_of_day}
use Rattle.calendar.specs.Digits.{date_digits}
use Rattle.format.specs.Numbers.{decimal, byte_of, digits_in}
use Rattle.lines.specs.Listing.{space, newline, word}
use Rattle.tariff.specs.declared.Entry.{Entry}
use Rattle.tariff.specs.Table.{days_of_week, hours_of_day, minutes_of_hour, seconds_of_minute, slots_of, is_time, minute_of, any_of}
use Rattle.tariff.specs.Judge.{most_types, uses}
use Rattle.tariff.specs.Rate.{weekday_of, day_type, rate_at}

-- the last day from which seven can be drawn, 2099-12-25
abbrev pub last_drawn : ℕ
last_drawn = days_in_all - days_of_week

abbrev pub plus : ℕ
plus = 43

abbrev pub comma : ℕ
comma = 44

-- ---- a day

abbrev pub minutes_of_half : ℕ
minutes_of_half = seconds_of_half / seconds_of_minute

-- one of the first n minutes from second t on has another rate than t
unfoldable pub changes : List ℕ → ℕ → ℕ → Bool
changes l t zero = false
changes l t (suc n) = changes l t n || not (eqb (rate_at l (t + n * seconds_of_minute)) (rate_at l t))

-- the character of the half-hour that begins at second t
unfoldable pub mark_at : List ℕ → ℕ → ℕ
mark_at l t = cond (changes l t minutes_of_half) plus (byte_of decimal (rate_at l t % 10))

unfoldable pub half_mark : List ℕ → ℕ → ℕ → ℕ
half_mark l d j = mark_at l (d * seconds_of_day + j * seconds_of_half)

abbrev pub day_head : List ℕ → ℕ → List ℕ
day_head l d = word 6 (date_digits (date_of d)) space ++ word 1 (weekday_of d) space ++ word 1 (day_type l d) space

unfoldable pub day_line : List ℕ → ℕ → List ℕ
day_line l d = day_head l d ++ table halves_of_day (half_mark l d) ++ (newline ∷ [])

-- the lines of n days from day d on
unfoldable pub days_to : List ℕ → ℕ → ℕ → List ℕ
days_to l d zero = []
days_to l d (suc n) = days_to l d n ++ day_line l (d + n)

-- ---- a day type: no rate is 0, so 0 stands for no switching at that minute

unfoldable pub switches : ℕ → ℕ → Entry → Bool
switches daytype minute e = is_time e && eqb e.daytype daytype && eqb (minute_of e) minute

unfoldable pub switch : ℕ → ℕ → Entry → ℕ → ℕ
switch daytype minute e rate = cond (switches daytype minute e) e.z rate

unfoldable pub switch_to : ℕ → ℕ → List Entry → ℕ
switch_to daytype minute [] = 0
switch_to daytype minute (e ∷ es) = switch daytype minute e (switch_to daytype minute es)

abbrev pub minutes_of_day : ℕ
minutes_of_day = hours_of_day * minutes_of_hour

abbrev pub clock_of : ℕ → ℕ
clock_of minute = minute / minutes_of_hour * 100 + minute % minutes_of_hour

-- a day type's number stands before its first time, which is at 00:00 where the type is used; a comma before each other
unfoldable pub before : ℕ → ℕ → List ℕ
before daytype minute = cond (eqb minute 0) (word 1 daytype space) (comma ∷ space ∷ [])

abbrev pub switch_text : ℕ → ℕ → ℕ → List ℕ
switch_text daytype minute rate = before daytype minute ++ word 4 (clock_of minute) space ++ digits_in decimal 1 rate

unfoldable pub time_text : ℕ → ℕ → ℕ → List ℕ
time_text daytype minute rate = cond (eqb rate 0) [] (switch_text daytype minute rate)

abbrev pub time_at : List Entry → ℕ → ℕ → List ℕ
time_at es daytype minute = time_text daytype minute (switch_to daytype minute es)

-- the times of the first n minutes
unfoldable pub times_to : List Entry → ℕ → ℕ → List ℕ
times_to es daytype zero = []
times_to es daytype (suc n) = times_to es daytype n ++ time_at es daytype n

unfoldable pub names : ℕ → Entry → Bool
names daytype e = uses e && eqb e.daytype daytype

unfoldable pub type_line : List Entry → ℕ → List ℕ
type_line es daytype = cond (any_of (names daytype) es) (times_to es daytype minutes_of_day ++ (newline ∷ [])) []

-- the lines of day types 1 to n
unfoldable pub types_to : List Entry → ℕ → List ℕ
types_to es zero = []
types_to es (suc n) = types_to es n ++ type_line es (suc n)

-- ---- the week

unfoldable pub week_text : List ℕ → ℕ → List ℕ
week_text l d = days_to l d days_of_week ++ types_to (slots_of l) most_types
