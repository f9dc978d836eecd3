-- The rate at a second: of the entries that cover its day the one of highest rank rules; of its day type's switching times the latest at or before the second's minute names the rate.
use Rattle.std.specs.Prelude.{ℕ, suc, ◌+◌, ◌/◌, ◌%◌, Bool, cond, ◌&&◌, ◌||◌, List, [], ◌∷◌, eqb, ltb, leb, length}
use Rattle.calendar.specs.Calendar.{date_of}
use Rattle.calendar.specs.Clock.{seconds_of_day, times_in_all}
use Rattle.tariff.specs.declared.Today.{Today}
use Rattle.tariff.specs.Table.{Entry, days_of_week, seconds_of_minute, table_size, slots_of, default, is_time, is_exception, is_weekdays, is_default, minute_of}
use Rattle.tariff.specs.Judge.{every_year}

-- Monday is 1; day 0, 2000-01-01, was a Saturday: so many days after a Monday
abbrev pub since_monday : ℕ
since_monday = 5

abbrev pub weekday_of : ℕ → ℕ
weekday_of d = (d + since_monday) % days_of_week + 1

unfoldable pub today_of : ℕ → Today
today_of d = record { yy = (date_of d).yy; mm = (date_of d).mm; dd = (date_of d).dd; week = weekday_of d }

abbrev pub minute_at : ℕ → ℕ
minute_at t = t % seconds_of_day / seconds_of_minute

-- ---- the entry that rules a day

abbrev pub dated : Today → Entry → Bool
dated k e = is_exception e && (eqb e.x every_year || eqb e.x k.yy) && eqb e.y k.mm && eqb e.z k.dd

abbrev pub of_week : Today → Entry → Bool
of_week k e = is_weekdays e && leb e.x k.week && leb k.week e.y

unfoldable pub covers : Today → Entry → Bool
covers k e = dated k e || of_week k e || is_default e

-- no entry: of a kind past the last
abbrev pub nobody : Entry
nobody = record { kind = suc default; daytype = 0; x = 0; y = 0; z = 0 }

unfoldable pub higher : Today → Entry → Entry → Entry
higher k e best = cond (covers k e && ltb e.kind best.kind) e best

unfoldable pub ruled : Today → List Entry → Entry
ruled k [] = nobody
ruled k (e ∷ es) = higher k e (ruled k es)

abbrev pub day_type : List ℕ → ℕ → ℕ
day_type l d = (ruled (today_of d) (slots_of l)).daytype

-- ---- the switching time in force

unfoldable pub applies : ℕ → ℕ → Entry → Bool
applies daytype minute e = is_time e && eqb e.daytype daytype && leb (minute_of e) minute

-- no switching time is before all of them
abbrev pub mark_of : Entry → ℕ
mark_of e = cond (is_time e) (minute_of e + 1) 0

unfoldable pub later : ℕ → ℕ → Entry → Entry → Entry
later daytype minute e best = cond (applies daytype minute e && ltb (mark_of best) (mark_of e)) e best

unfoldable pub latest : ℕ → ℕ → List Entry → Entry
latest daytype minute [] = nobody
latest daytype minute (e ∷ es) = later daytype minute e (latest daytype minute es)

-- ---- the rate

unfoldable pub rate_in : List Entry → ℕ → ℕ
rate_in es t = (latest (ruled (today_of (t / seconds_of_day)) es).daytype (minute_at t) es).z

-- of any bytes at any second: 0 where there is no table or no such second
unfoldable pub rate_at : List ℕ → ℕ → ℕ
rate_at l t = cond (eqb (length l) table_size && ltb t times_in_all) (rate_in (slots_of l) t) 0
