-- The two theorems: an accepted table says exactly one rate at each second, and any saved order of it is accepted and says the same.
-- Assumes nothing.
use Prim.Native.Nat.{ℕ, ◌<◌, ◌≤◌}
use mathlib.Core.Path.{◌≡◌, refl, sym, ap, ◌∙◌}
use mathlib.Core.Bool.{true, false, cond, ◌&&◌, false≢true}
use mathlib.Core.List.Permᴰ
use mathlib.Core.List.{List, Permᴰ}
use lib.Dec.{eqb, ltb, leb}
use lib.ListN.{length}
use borrow.Author.Tests.{eqb-true, eq-eqb, lt-ltb, le-leb, ltb-false, not-false}
use Rattle.calendar.specs.Clock.{times_in_all}
use Rattle.registers.specs.Energy.{rate_count, rate_ok}
use Rattle.laws.proofs.Bools.{and_left, both_of}
use Rattle.laws.proofs.Checks.{none_fails}
use Rattle.laws.proofs.Split.{by_test}
use Rattle.tariff.specs.Table.{Entry, table_size, slots_of, is_time, is_exception, is_default, minute_of, any_of}
use Rattle.tariff.specs.Judge.{entry_ok, opens, served, clash_in, above, names_above, sound, table_checks, judged}
use Rattle.tariff.specs.Rate.{minute_at, applies, rate_in, rate_at}
use Rattle.tariff.specs.Saved.{Says, ExactlyOne, AnyOrder}
use Rattle.tariff.proofs.Lists.{any_in, all_same, perm_any, perm_all, perm_count, perm_in}
use Rattle.tariff.proofs.Clashing.{perm_clash}
use Rattle.tariff.proofs.One as one

-- ---- what an accepted table passes

pub record Accepted (l : List ℕ) : Type 0 where
  pub long : length l ≡ table_size
  pub sound : sound (slots_of l) ≡ true
  pub free : clash_in (slots_of l) ≡ false

pub accepted : (l : List ℕ) → judged l ≡ 0 → Accepted l
unfolding judged
accepted l h =
    let n = none_fails (table_checks l) refl h in
    record { long = eqb-true (length l) table_size (not-false _ n.0); sound = not-false _ n.1.0; free = n.1.1.0 }

-- ---- exactly one

rate_is_lem : (l : List ℕ) (t : ℕ) → length l ≡ table_size → t < times_in_all → rate_at l t ≡ rate_in (slots_of l) t
unfolding rate_at
rate_is_lem l t long u = rw (eq-eqb (length l) table_size long, lt-ltb t times_in_all u)

pub exactly_one : ExactlyOne
exactly_one l h t u =
    let a = accepted l h in
    let same = rate_is_lem l t a.long u in
    record {
      one = rw same (one.says (slots_of l) a.sound a.free t);
      only = λ r y. one.only (slots_of l) a.sound a.free t r y ∙ sym same;
      least = rw same (one.in_range_lem (slots_of l) a.sound a.free t).0;
      most = rw same (one.in_range_lem (slots_of l) a.sound a.free t).1;
    }

-- it is a rate, and none above those that the table names
pub is_rate_lem : (l : List ℕ) → judged l ≡ 0 → (t : ℕ) → t < times_in_all → rate_ok (rate_at l t) ≡ true
is_rate_lem l h t u =
    let o = exactly_one l h t u in
    both_of (leb 1 (rate_at l t)) (leb (rate_at l t) rate_count) (le-leb 1 (rate_at l t) o.least) (le-leb (rate_at l t) rate_count o.most)

not_above : (n daytype minute : ℕ) (e : Entry) → applies daytype minute e ≡ true → rate_ok e.z ≡ true → above n e ≡ false → e.z ≤ n
unfolding applies
not_above n daytype minute e d r h =
    ltb-false n e.z (rw (and_left (is_time e) (eqb e.daytype daytype) (and_left (is_time e && eqb e.daytype daytype) (leb (minute_of e) minute) d), r) at h)

pub none_above : (n : ℕ) (l : List ℕ) → judged l ≡ 0 → names_above n l ≡ false → (t : ℕ) → t < times_in_all → rate_at l t ≤ n
unfolding names_above
none_above n l h b t u =
    let a = accepted l h in
    let y = (exactly_one l h t u).one in
    let none : any_of (above n) (slots_of l) ≡ false = rw (eq-eqb (length l) table_size a.long) at b in
    rw y.rate
    (not_above n y.ruler.daytype (minute_at t) y.switch y.force.due (rw y.rate at (is_rate_lem l h t u))
    (by_test (above n y.switch) (λ z. absurd (false≢true (sym none ∙ any_in (above n) (slots_of l) y.switch y.force.stands z))) (λ z. z)))

-- ---- any order

served_same : {es fs : List Entry} → Permᴰ es fs → (e : Entry) → served es e ≡ served fs e
unfolding served
served_same d e = rw (perm_any (opens e.daytype) d)

sound_same : {es fs : List Entry} → Permᴰ es fs → sound es ≡ sound fs
unfolding sound
sound_same {es} {fs} d =
    rw (perm_all entry_ok d, perm_count is_time d, perm_count is_exception d, perm_any is_default d, perm_all (served es) d, all_same (served es) (served fs) fs (served_same d))

says_same : {es fs : List Entry} → Permᴰ es fs → (t r : ℕ) → Says es t r → Says fs t r
says_same d t r y =
    let back = Permᴰ.symm d in
    record {
      ruler = y.ruler;
      rules = record { stands = perm_in d y.rules.stands; here = y.rules.here; highest = λ f m c. y.rules.highest f (perm_in back m) c };
      switch = y.switch;
      force = record { stands = perm_in d y.force.stands; due = y.force.due; last = λ f m c. y.force.last f (perm_in back m) c };
      rate = y.rate;
    }

pub any_order : AnyOrder
unfolding judged rate_at
any_order l m h n d =
    let a = accepted l h in
    let s : sound (slots_of m) ≡ true = sym (sound_same d) ∙ a.sound in
    let f : clash_in (slots_of m) ≡ false = sym (perm_clash d) ∙ a.free in
    let e : eqb (length l) table_size ≡ true = eq-eqb (length l) table_size a.long in
    let g : eqb (length m) table_size ≡ true = eq-eqb (length m) table_size n in
    record {
      accepted = rw (g, s, f);
      rates = λ t. rw (e, g) (ap (λ (r : ℕ). cond (ltb t times_in_all) r 0) (sym (one.only (slots_of m) s f t (rate_in (slots_of l) t) (says_same d t _ (one.says (slots_of l) a.sound a.free t)))));
    }
