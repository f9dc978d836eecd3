-- A week's text is at most longestWeek bytes: no entry of the table makes more than one switching time of the text.
-- Assumes nothing.
use Prim.Native.Nat.{ℕ, zero, suc, ◌+◌, ◌*◌, ◌≤◌}
use mathlib.Core.Path.{◌≡◌, refl}
use mathlib.Core.Bool.{Bool, true, false, cond, ◌&&◌}
use mathlib.Core.List.{List, [], ◌∷◌}
use native.Mathlib.Omega.{arith}
use lib.Dec.{eqb, leb, ltb}
use lib.ListN.{length, drop, length-append}
use borrow.Author.Tests.{eqb-true, ne_eqb, ltb-true, lt-ltb, leb-true, le-leb}
use Rattle.laws.specs.Bits.{bit}
use Rattle.laws.proofs.Split.{by_test, by_dec}
use Rattle.laws.proofs.Bools.{and_left, and_right}
use Rattle.std.specs.Prelude.{Option, Some, None}
use native.Mathlib.Decide.{ℕ_discrete}
use Rattle.lines.specs.Listing.{newline, refusal}
use Rattle.lines.proofs.Laws.{refusal_length}
use Rattle.tariff.specs.declared.Entry.{Entry}
use Rattle.tariff.specs.Table.{most_times, most_exceptions, slots_of, is_time, is_exception, is_default, minute_of, any_of, all_of, count_of}
use Rattle.tariff.specs.Judge.{entry_ok, served, sound}
use Rattle.tariff.proofs.Order.{accepted}
use Rattle.drawn.specs.Week.{switches, switch, switch_to, time_text, time_at, times_to, names, type_line, types_to}
use Rattle.drawn.specs.Asked.{week_judged, day_asked, drawn_from, drawn_of}
use Rattle.drawn.specs.Fits.{longest_week, WeekFits, PrintFits}
use Rattle.drawn.proofs.Lengths.{time_none, time_some}
use Rattle.drawn.proofs.Answered.{week_length, taken_table}

-- ---- entries counted: tests of which none hold together, under one that holds where either does

count_add : (f g h : Entry → Bool) → ((e : Entry) → bit (f e) + bit (g e) ≤ bit (h e)) → (es : List Entry) → count_of f es + count_of g es ≤ count_of h es
unfolding count_of
count_add f g h p [] = omega arith
count_add f g h p (e ∷ es) = omega (arith, p e, count_add f g h p es)

-- ---- a time

time_most : (daytype minute rate : ℕ) → length (time_text daytype minute rate) ≤ 8
time_most daytype minute rate =
    by_dec (ℕ_discrete rate 0) (λ z. omega (arith, time_none daytype minute rate z)) (λ n. omega (arith, time_some daytype minute rate n))

time_counted : (daytype minute : ℕ) (es : List Entry) → length (time_at es daytype minute) ≤ 8 * count_of (switches daytype minute) es
unfolding switch_to switch count_of
time_counted daytype minute [] = omega (arith, time_none daytype minute 0 refl)
time_counted daytype minute (e ∷ es) =
    by_test (switches daytype minute e)
    (λ t. rw t (omega (arith, time_most daytype minute e.z)))
    (λ t. rw t (omega (arith, time_counted daytype minute es)))

-- ---- the times of a day type: those before a minute

unfoldable early : ℕ → ℕ → Entry → Bool
early daytype n e = (is_time e && eqb e.daytype daytype) && ltb (minute_of e) n

below_or_at : (a : Bool) (x n : ℕ) → bit (a && ltb x n) + bit (a && eqb x n) ≤ bit (a && ltb x (suc n))
below_or_at false x n = omega arith
below_or_at true x n =
    by_test (ltb x n)
    (λ t. let b = ltb-true x n t in rw (t, ne_eqb x n (λ e. absurd (omega arith)), lt-ltb x (suc n) (omega arith)) (omega arith))
    (λ t. by_test (eqb x n)
    (λ s. let b = eqb-true x n s in rw (t, s, lt-ltb x (suc n) (omega arith)) (omega arith))
    (λ s. rw (t, s) (omega arith)))

early_next : (daytype n : ℕ) (e : Entry) → bit (early daytype n e) + bit (switches daytype n e) ≤ bit (early daytype (suc n) e)
unfolding early switches
early_next daytype n e = below_or_at (is_time e && eqb e.daytype daytype) (minute_of e) n

times_counted : (es : List Entry) (daytype n : ℕ) → length (times_to es daytype n) ≤ 8 * count_of (early daytype n) es
unfolding times_to
times_counted es daytype zero = omega arith
times_counted es daytype (suc n) =
    omega (
      arith,
      length-append (times_to es daytype n) (time_at es daytype n),
      times_counted es daytype n,
      time_counted daytype n es,
      count_add (early daytype n) (switches daytype n) (early daytype (suc n)) (early_next daytype n) es,
    )

line_counted : (es : List Entry) (daytype : ℕ) → length (type_line es daytype) ≤ 8 * count_of (early daytype 1440) es + 1
unfolding type_line
line_counted es daytype =
    by_test (any_of (names daytype) es)
    (λ t. rw t (omega (arith, length-append (times_to es daytype 1440) (newline ∷ []), times_counted es daytype 1440)))
    (λ t. rw t (omega arith))

-- ---- the lines: the times of the day types up to one

unfoldable up_to : ℕ → Entry → Bool
up_to n e = is_time e && leb e.daytype n

up_or_next : (a c : Bool) (x n : ℕ) → bit (a && leb x n) + bit ((a && eqb x (suc n)) && c) ≤ bit (a && leb x (suc n))
up_or_next false c x n = omega arith
up_or_next true c x n =
    by_test (leb x n)
    (λ t. let b = leb-true x n t in rw (t, ne_eqb x (suc n) (λ e. absurd (omega arith)), le-leb x (suc n) (omega arith)) (omega arith))
    (λ t. by_test (eqb x (suc n))
    (λ s. let b = eqb-true x (suc n) s in rw (t, s, le-leb x (suc n) (omega arith)) (bit_most c))
    (λ s. rw (t, s) (omega arith)))
  where
    bit_most : (c : Bool) → 0 + bit c ≤ 1
    bit_most true = omega arith
    bit_most false = omega arith

up_next : (n : ℕ) (e : Entry) → bit (up_to n e) + bit (early (suc n) 1440 e) ≤ bit (up_to (suc n) e)
unfolding up_to early
up_next n e = up_or_next (is_time e) (ltb (minute_of e) 1440) e.daytype n

lines_counted : (es : List Entry) (n : ℕ) → length (types_to es n) ≤ 8 * count_of (up_to n) es + n
unfolding types_to
lines_counted es zero = omega arith
lines_counted es (suc n) =
    omega (
      arith,
      length-append (types_to es n) (type_line es (suc n)),
      lines_counted es n,
      line_counted es (suc n),
      count_add (up_to n) (early (suc n) 1440) (up_to (suc n)) (up_next n) es,
    )

-- ---- at most 48 in all

and_bit : (a b : Bool) → bit (a && b) ≤ bit a
and_bit true true = omega arith
and_bit true false = omega arith
and_bit false b = omega arith

count_le : (f h : Entry → Bool) → ((e : Entry) → bit (f e) ≤ bit (h e)) → (es : List Entry) → count_of f es ≤ count_of h es
unfolding count_of
count_le f h p [] = omega arith
count_le f h p (e ∷ es) = omega (arith, p e, count_le f h p es)

up_time : (n : ℕ) (e : Entry) → bit (up_to n e) ≤ bit (is_time e)
unfolding up_to
up_time n e = and_bit (is_time e) (leb e.daytype n)

few_times : (es : List Entry) → sound es ≡ true → count_of is_time es ≤ most_times
unfolding sound
few_times es s =
    let ok = all_of entry_ok es in
    let times = leb (count_of is_time es) most_times in
    let days = leb (count_of is_exception es) most_exceptions in
    let some = any_of is_default es in
    leb-true (count_of is_time es) most_times
    (and_right ok times (and_left (ok && times) days (and_left ((ok && times) && days) some (and_left (((ok && times) && days) && some) (all_of (served es) es) s))))

pub week_fits : WeekFits
week_fits l d h =
    let es = slots_of l in
    omega (arith, week_length l d, lines_counted es 8, count_le (up_to 8) is_time (up_time 8) es, few_times es (accepted l h).sound)

-- ---- what the program prints

refusal_fits : (a : ℕ) → length (refusal a) ≤ 11
refusal_fits a = omega (arith, refusal_length a (cond (ltb a 10) 1 2) refl, few (ltb a 10))
  where
    few : (b : Bool) → cond b 1 2 ≤ 2
    few true = omega arith
    few false = omega arith

from_fits : (l : List ℕ) (f : Option ℕ) → length (drawn_from l f) ≤ longest_week
unfolding drawn_from
from_fits l None = omega (arith, refusal_fits 6)
from_fits l (Some d) =
    by_test (eqb (week_judged l d) 0)
    (λ t. rw t (week_fits l d (taken_table l d (eqb-true (week_judged l d) 0 t))))
    (λ t. rw t (omega (arith, refusal_fits (week_judged l d))))

pub print_fits : PrintFits
unfolding drawn_of
print_fits b = from_fits (drop 7 b) (day_asked b)
