-- A switching table as an editor saves it: 88 slots of five bytes, each with one entry or unused, in any order. The first byte is the entry's kind:
-- 0 unused; 1 a switching time: day type, hour, minute, rate; 2 an exception: day type, year (100: every year), month, day;
-- 3 weekdays: day type, first, last (Monday is 1), 0; 4 the default: day type, 0, 0, 0.
use Rattle.std.specs.Prelude.{ℕ, zero, suc, ◌+◌, ◌*◌, Bool, true, false, ◌&&◌, ◌||◌, List, [], ◌∷◌, eqb, get_or}
use Rattle.laws.specs.Bits.{bit}
pub use Rattle.tariff.specs.declared.Entry.{Entry}
use Rattle.tariff.specs.declared.Kind.{Kind}
use Rattle.tariff.specs.declared.Kind.TheVariants.{Unused, Time, Exception, Weekdays, Default}

abbrev pub most_times : ℕ
most_times = 48

abbrev pub most_exceptions : ℕ
most_exceptions = 32

abbrev pub days_of_week : ℕ
days_of_week = 7

-- so many slots: that many switching times and exceptions, an entry for each weekday, and the default
abbrev pub slot_count : ℕ
slot_count = most_times + most_exceptions + days_of_week + 1

abbrev pub slot_size : ℕ
slot_size = 5

abbrev pub table_size : ℕ
table_size = slot_size * slot_count

abbrev pub slot_at : List ℕ → ℕ → Entry
slot_at l i =
    record {
      kind = get_or l (slot_size * i) 0;
      daytype = get_or l (slot_size * i + 1) 0;
      x = get_or l (slot_size * i + 2) 0;
      y = get_or l (slot_size * i + 3) 0;
      z = get_or l (slot_size * i + 4) 0;
    }

-- the first n slots, the last of them first; and all
unfoldable pub slots_to : List ℕ → ℕ → List Entry
slots_to l zero = []
slots_to l (suc n) = slot_at l n ∷ slots_to l n

abbrev pub slots_of : List ℕ → List Entry
slots_of l = slots_to l slot_count

-- the kinds; a lower one ranks higher among those that cover days
abbrev pub unused : ℕ
unused = 0

abbrev pub time : ℕ
time = 1

abbrev pub exception : ℕ
exception = 2

abbrev pub weekdays : ℕ
weekdays = 3

abbrev pub default : ℕ
default = 4

abbrev pub byte_of_kind : Kind → ℕ
byte_of_kind Unused = unused
byte_of_kind Time = time
byte_of_kind Exception = exception
byte_of_kind Weekdays = weekdays
byte_of_kind Default = default

abbrev pub is_time : Entry → Bool
is_time e = eqb e.kind time

abbrev pub is_exception : Entry → Bool
is_exception e = eqb e.kind exception

abbrev pub is_weekdays : Entry → Bool
is_weekdays e = eqb e.kind weekdays

abbrev pub is_default : Entry → Bool
is_default e = eqb e.kind default

abbrev pub hours_of_day : ℕ
hours_of_day = 24

abbrev pub minutes_of_hour : ℕ
minutes_of_hour = 60

abbrev pub seconds_of_minute : ℕ
seconds_of_minute = 60

-- of a switching time: its minute of the day
unfoldable pub minute_of : Entry → ℕ
minute_of e = e.x * minutes_of_hour + e.y

-- some entry, each entry, how many entries pass a test
unfoldable pub any_of : (Entry → Bool) → List Entry → Bool
any_of f [] = false
any_of f (e ∷ es) = any_of f es || f e

unfoldable pub all_of : (Entry → Bool) → List Entry → Bool
all_of f [] = true
all_of f (e ∷ es) = all_of f es && f e

unfoldable pub count_of : (Entry → Bool) → List Entry → ℕ
count_of f [] = 0
count_of f (e ∷ es) = count_of f es + bit (f e)
