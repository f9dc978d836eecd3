-- Two entries of one rank clash exactly where some day is covered by both.
-- Assumes nothing.
use Prim.Native.Nat.{ℕ, ◌+◌, ◌%◌, ◌≤◌}
use mathlib.Core.Path.{◌≡◌, refl, sym, ◌∙◌}
use mathlib.Core.Bool.{true, false, ◌&&◌, ◌||◌, false≢true}
use mathlib.Core.Logic.{◌⊎◌, ⊎_elim}
use native.Mathlib.Omega.{arith}
use native.Mathlib.Decide.{dec_lt}
use lib.Dec.{eqb, leb}
use borrow.Author.Tests.{eqb-true, eq-eqb, leb-true}
use Rattle.calendar.specs.Calendar.{real_date, day_number, day_of}
use Rattle.calendar.specs.Digits.{is_day}
use Rattle.calendar.proofs.Dates.{Real, real_facts, day_below, date_of_day_of}
use Rattle.laws.proofs.Bools.{and_right, both, or_split, or_some}
use Rattle.laws.proofs.Split.{by_test, by_dec}
use Rattle.tariff.specs.Table.{Entry, is_exception, is_weekdays, is_default, exception, weekdays, default, days_of_week}
use Rattle.tariff.specs.Judge.{every_year, entry_ok, uses, year_of, date_ok, same_date, same_weekday, clash}
use Rattle.tariff.specs.Rate.{weekday_of, today_of, dated, of_week, covers}
use Rattle.tariff.specs.Saved.{SameDay, ClashIsSameDay}
use Rattle.tariff.proofs.Lists.{or_left}
use Rattle.tariff.proofs.Clashing.{cover_clash}

-- ---- an entry in range, by its kind

date_entry : (e : Entry) → entry_ok e ≡ true → e.kind ≡ exception → date_ok e ≡ true
unfolding entry_ok
date_entry e h k = grind arith

week_entry : (e : Entry) → entry_ok e ≡ true → e.kind ≡ weekdays → (1 ≤ e.x) × ((e.x ≤ e.y) × (e.y ≤ days_of_week))
unfolding entry_ok
week_entry e h k = grind arith

-- ---- a clash, by the kind

clash_date : (a b : Entry) → a.kind ≡ exception → clash a b ≡ true → same_date a b ≡ true
unfolding clash
clash_date a b k h = grind arith

clash_week : (a b : Entry) → a.kind ≡ weekdays → clash a b ≡ true → same_weekday a b ≡ true
unfolding clash
clash_week a b k h = grind arith

-- ---- a day that both cover

default_day : (a b : Entry) → a.kind ≡ default → b.kind ≡ default → SameDay a b
unfolding covers
default_day a b k m = (0, omega arith, grind arith, grind arith)

-- weekday w is that of day (w + 1) mod 7
week_covers : (e : Entry) (w : ℕ) → e.kind ≡ weekdays → 1 ≤ w → w ≤ days_of_week → e.x ≤ w → w ≤ e.y → covers (today_of ((w + 1) % days_of_week)) e ≡ true
unfolding covers today_of
week_covers e w k low high from to =
    let day : weekday_of ((w + 1) % days_of_week) ≡ w = omega arith in
    grind (arith, day)

week_day : (a b : Entry) → entry_ok a ≡ true → entry_ok b ≡ true → a.kind ≡ weekdays → b.kind ≡ weekdays → same_weekday a b ≡ true → SameDay a b
week_day a b p q k m h =
    let u = both ((is_weekdays a && is_weekdays b) && leb a.x b.y) (leb b.x a.y) h in
    let ab = leb-true a.x b.y (and_right (is_weekdays a && is_weekdays b) (leb a.x b.y) u.0) in
    let ba = leb-true b.x a.y u.1 in
    let r = week_entry a p k in
    let s = week_entry b q m in
    by_dec (dec_lt a.x b.x)
    (λ l. (
      (b.x + 1) % days_of_week,
      omega arith,
      week_covers a b.x k s.0 (omega (arith, s.1.0, s.1.1)) (omega arith) ba,
      week_covers b b.x m s.0 (omega (arith, s.1.0, s.1.1)) (omega arith) s.1.0,
    ))
    (λ l. (
      (a.x + 1) % days_of_week,
      omega arith,
      week_covers a a.x k r.0 (omega (arith, r.1.0, r.1.1)) (omega arith) r.1.0,
      week_covers b a.x m r.0 (omega (arith, r.1.0, r.1.1)) (omega arith) ab,
    ))

-- the date of an exception, or of one that is every year's with another's year
real_of : (yy mm dd : ℕ) → is_day (day_of yy mm dd) ≡ true → real_date yy mm dd ≡ true
unfolding day_of
real_of yy mm dd h = by_test (real_date yy mm dd) (λ t. t) (λ t. absurd (false≢true (rw t at h)))

date_covers : (e : Entry) (yy : ℕ) → e.kind ≡ exception → (eqb e.x every_year || eqb e.x yy) ≡ true → Real yy e.y e.z → covers (today_of (day_number yy e.y e.z)) e ≡ true
unfolding covers today_of
date_covers e yy k year r =
    let d = day_number yy e.y e.z in
    let same = date_of_day_of yy e.y e.z r in
    or_left (dated (today_of d) e || of_week (today_of d) e) (is_default e)
    (or_left (dated (today_of d) e) (of_week (today_of d) e)
    (rw same (rw (eq-eqb e.kind exception k, year, eq-eqb e.y e.y refl, eq-eqb e.z e.z refl))))

year_one : (e : Entry) → eqb e.x every_year ≡ false → year_of e ≡ e.x
year_one e h = rw h

date_day : (a b : Entry) → entry_ok a ≡ true → entry_ok b ≡ true → a.kind ≡ exception → b.kind ≡ exception → same_date a b ≡ true → SameDay a b
unfolding date_ok
date_day a b p q k m h =
    let years = (eqb a.x b.x || eqb a.x every_year) || eqb b.x every_year in
    let u = both (((is_exception a && is_exception b) && eqb a.y b.y) && eqb a.z b.z) years h in
    let v = both ((is_exception a && is_exception b) && eqb a.y b.y) (eqb a.z b.z) u.0 in
    let month : a.y ≡ b.y = eqb-true a.y b.y (and_right (is_exception a && is_exception b) (eqb a.y b.y) v.0) in
    let day : a.z ≡ b.z = eqb-true a.z b.z v.1 in
    let ra : Real (year_of a) a.y a.z = real_facts (year_of a) a.y a.z (real_of (year_of a) a.y a.z (date_entry a p k)) in
    let rb : Real (year_of b) b.y b.z = real_facts (year_of b) b.y b.z (real_of (year_of b) b.y b.z (date_entry b q m)) in
    by_test (eqb a.x every_year)
    (λ t.
    let back : Real (year_of b) a.y a.z = rw (month, day) rb in
    let mine : (eqb b.x every_year || eqb b.x (year_of b)) ≡ true =
    by_test (eqb b.x every_year) (λ s. rw s) (λ s. rw (s, eq-eqb b.x b.x refl)) in (
      day_number (year_of b) a.y a.z,
      day_below (year_of b) a.y a.z back,
      date_covers a (year_of b) k (or_left (eqb a.x every_year) (eqb a.x (year_of b)) t) back,
      rw (month, day) (date_covers b (year_of b) m mine rb),
    ))
    (λ t.
    let own : year_of a ≡ a.x = year_one a t in
    let here : Real a.x a.y a.z = rw own at ra in
    let theirs : (eqb b.x every_year || eqb b.x a.x) ≡ true =
    or_split (eqb a.x b.x || eqb a.x every_year) (eqb b.x every_year)
    (or_split (eqb a.x b.x) (eqb a.x every_year)
    (λ s. or_some (eqb b.x every_year) (eqb b.x a.x) (eq-eqb b.x a.x (sym (eqb-true a.x b.x s))))
    (λ s. absurd (false≢true (sym t ∙ s))))
    (λ s. or_left (eqb b.x every_year) (eqb b.x a.x) s)
    u.1 in
    let there : Real a.x b.y b.z = rw (month, day) at here in (
      day_number a.x a.y a.z,
      day_below a.x a.y a.z here,
      date_covers a a.x k (or_some (eqb a.x every_year) (eqb a.x a.x) (eq-eqb a.x a.x refl)) here,
      rw (month, day) (date_covers b a.x m theirs there),
    ))

-- ---- both ways

uses_kind : (e : Entry) → uses e ≡ true → (e.kind ≡ exception) ⊎ ((e.kind ≡ weekdays) ⊎ (e.kind ≡ default))
uses_kind e h = grind arith

pub clash_is_same_day : ClashIsSameDay
clash_is_same_day a b p q u k = (
  λ h. ⊎_elim
      (λ e. date_day a b p q e (sym k ∙ e) (clash_date a b e h))
      (⊎_elim (λ e. week_day a b p q e (sym k ∙ e) (clash_week a b e h)) (λ e. default_day a b e (sym k ∙ e)))
      (uses_kind a u),
  λ s. cover_clash (today_of s.0) a b s.2 s.3 k,
)
