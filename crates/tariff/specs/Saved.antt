-- What a table says at a second, without any order of its entries; and what is proved of an accepted one: it says exactly one rate at each second, and the same in whatever order it was saved.
use Rattle.std.specs.Prelude.{ℕ, ◌/◌, ◌<◌, ◌≤◌, ◌≡◌, ◌↔◌, true, length}
use mathlib.Core.List.{List, Memᴰ, Permᴰ}
use Rattle.calendar.specs.Calendar.{days_in_all}
use Rattle.calendar.specs.Clock.{seconds_of_day, times_in_all}
use Rattle.registers.specs.Energy.{rate_count}
use Rattle.tariff.specs.Table.{Entry, table_size, slots_of, minute_of}
use Rattle.tariff.specs.Judge.{entry_ok, uses, clash, judged}
use Rattle.tariff.specs.Rate.{today_of, minute_at, covers, applies, rate_at}

-- e covers the second's day, and no entry that covers it ranks higher
pub record Rules (es : List Entry) (t : ℕ) (e : Entry) : Type 0 where
  pub stands : Memᴰ e es
  pub here : covers (today_of (t / seconds_of_day)) e ≡ true
  pub highest : (f : Entry) → Memᴰ f es → covers (today_of (t / seconds_of_day)) f ≡ true → e.kind ≤ f.kind

-- e is a switching time of that day type at or before the second's minute, and none is later
pub record InForce (es : List Entry) (t daytype : ℕ) (e : Entry) : Type 0 where
  pub stands : Memᴰ e es
  pub due : applies daytype (minute_at t) e ≡ true
  pub last : (f : Entry) → Memᴰ f es → applies daytype (minute_at t) f ≡ true → minute_of f ≤ minute_of e

-- the entries say rate r at second t
pub record Says (es : List Entry) (t r : ℕ) : Type 0 where
  pub ruler : Entry
  pub rules : Rules es t ruler
  pub switch : Entry
  pub force : InForce es t ruler.daytype switch
  pub rate : r ≡ switch.z

-- exactly one rate at each second, the one that rateAt gives
pub record OneRate (l : List ℕ) (t : ℕ) : Type 0 where
  pub one : Says (slots_of l) t (rate_at l t)
  pub only : (r : ℕ) → Says (slots_of l) t r → r ≡ rate_at l t
  pub least : 1 ≤ rate_at l t
  pub most : rate_at l t ≤ rate_count

abbrev pub ExactlyOne : Type 0
ExactlyOne = (l : List ℕ) → judged l ≡ 0 → (t : ℕ) → t < times_in_all → OneRate l t

-- another saved order of the same entries is accepted too, and gives the same rate at every second
pub record SameRates (l m : List ℕ) : Type 0 where
  pub accepted : judged m ≡ 0
  pub rates : (t : ℕ) → rate_at m t ≡ rate_at l t

abbrev pub AnyOrder : Type 0
AnyOrder = (l m : List ℕ) → judged l ≡ 0 → length m ≡ table_size → Permᴰ (slots_of l) (slots_of m) → SameRates l m

-- 14 of two entries of one rank is exactly that some day is covered by both
abbrev pub SameDay : Entry → Entry → Type 0
SameDay a b = (d : ℕ) × (d < days_in_all) × (covers (today_of d) a ≡ true) × (covers (today_of d) b ≡ true)

abbrev pub ClashIsSameDay : Type 0
ClashIsSameDay = (a b : Entry) → entry_ok a ≡ true → entry_ok b ≡ true → uses a ≡ true → a.kind ≡ b.kind → (clash a b ≡ true) ↔ SameDay a b
