-- What a load is refused for: 6 for bytes of another length, a value out of range, too many switching times or exceptions, no default, or a day type used that
-- has no rate from 00:00; 14 for two entries of one rank that cover the same day, or two equal times in one day type.
use Rattle.std.specs.Prelude.{ℕ, Bool, false, not, cond, ◌&&◌, ◌||◌, List, [], ◌∷◌, eqb, ltb, leb, length}
use Rattle.laws.specs.Checks.{Check, check, first_failing}
use Rattle.calendar.specs.Calendar.{day_of}
use Rattle.calendar.specs.Digits.{is_day}
use Rattle.registers.specs.Energy.{rate_ok}
use Rattle.tariff.specs.Table.{Entry, most_times, most_exceptions, days_of_week, hours_of_day, minutes_of_hour, table_size, slots_of, unused, is_time, is_exception, is_weekdays, is_default, minute_of, any_of, all_of, count_of}

-- day types are 1 to 8; the year that is every year
abbrev pub most_types : ℕ
most_types = 8

abbrev pub every_year : ℕ
every_year = 100

-- ---- ranges

abbrev pub rest_zero : Entry → Bool
rest_zero e = eqb e.x 0 && eqb e.y 0 && eqb e.z 0

abbrev pub blank_ok : Entry → Bool
blank_ok e = eqb e.kind unused && eqb e.daytype 0 && rest_zero e

abbrev pub time_ok : Entry → Bool
time_ok e = is_time e && ltb e.x hours_of_day && ltb e.y minutes_of_hour && rate_ok e.z

-- a real date; of every year, one of a leap year
abbrev pub leap_year : ℕ
leap_year = 0

abbrev pub year_of : Entry → ℕ
year_of e = cond (eqb e.x every_year) leap_year e.x

unfoldable pub date_ok : Entry → Bool
date_ok e = is_day (day_of (year_of e) e.y e.z)

abbrev pub exception_ok : Entry → Bool
exception_ok e = is_exception e && date_ok e

abbrev pub weekdays_ok : Entry → Bool
weekdays_ok e = is_weekdays e && leb 1 e.x && leb e.x e.y && leb e.y days_of_week && eqb e.z 0

abbrev pub default_ok : Entry → Bool
default_ok e = is_default e && rest_zero e

abbrev pub type_ok : Entry → Bool
type_ok e = leb 1 e.daytype && leb e.daytype most_types

unfoldable pub entry_ok : Entry → Bool
entry_ok e = blank_ok e || (type_ok e && (time_ok e || exception_ok e || weekdays_ok e || default_ok e))

-- ---- every day type used names its rate from 00:00

abbrev pub uses : Entry → Bool
uses e = is_exception e || is_weekdays e || is_default e

unfoldable pub opens : ℕ → Entry → Bool
opens daytype e = is_time e && eqb e.daytype daytype && eqb (minute_of e) 0

unfoldable pub served : List Entry → Entry → Bool
served es e = not (uses e) || any_of (opens e.daytype) es

-- ---- clashes

abbrev pub same_time : Entry → Entry → Bool
same_time a b = is_time a && is_time b && eqb a.daytype b.daytype && eqb (minute_of a) (minute_of b)

abbrev pub same_date : Entry → Entry → Bool
same_date a b =
    is_exception a && is_exception b && eqb a.y b.y && eqb a.z b.z
    && (eqb a.x b.x || eqb a.x every_year || eqb b.x every_year)

abbrev pub same_weekday : Entry → Entry → Bool
same_weekday a b = is_weekdays a && is_weekdays b && leb a.x b.y && leb b.x a.y

unfoldable pub clash : Entry → Entry → Bool
clash a b = same_time a b || same_date a b || same_weekday a b || (is_default a && is_default b)

-- some two entries clash
unfoldable pub clash_in : List Entry → Bool
clash_in [] = false
clash_in (e ∷ es) = clash_in es || any_of (clash e) es

-- ---- a rate that can't be chosen

-- a switching time that names a rate, and one above n
abbrev pub above : ℕ → Entry → Bool
above n e = is_time e && rate_ok e.z && ltb n e.z

-- some switching time, also of a day type that is not used, names a rate above n; none does where there is no table
unfoldable pub names_above : ℕ → List ℕ → Bool
names_above n l = eqb (length l) table_size && any_of (above n) (slots_of l)

-- ---- the answer

unfoldable pub sound : List Entry → Bool
sound es =
    all_of entry_ok es && leb (count_of is_time es) most_times && leb (count_of is_exception es) most_exceptions && any_of is_default es && all_of (served es) es

abbrev pub table_checks : List ℕ → List Check
table_checks l = check (not (eqb (length l) table_size)) 6 ∷ check (not (sound (slots_of l))) 6 ∷ check (clash_in (slots_of l)) 14 ∷ []

unfoldable pub judged : List ℕ → ℕ
judged l = first_failing (table_checks l)
