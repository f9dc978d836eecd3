-- The checks in their order, in the form that the code's returns look for, and what an answer of 0 says.
-- Assumes nothing.
use Prim.Native.Nat.{ℕ, ◌+◌, ◌*◌, ◌%◌, ◌<◌, ◌≤◌}
use mathlib.Core.Bool.{Bool, true, false, not, ◌&&◌}
use mathlib.Core.Path.{◌≡◌, refl, sym, ◌∙◌}
use mathlib.Core.List.{List}
use native.Mathlib.Omega.{arith}
use borrow.Author.Tests.{eq-eqb, ne_eqb, eqb-true, eqb-false, leb-true, ltb-true, ltb-false, leb-false, not-false}
use lib.Dec.{leb, ltb, eqb}
use lib.ListN.{length}
use Rattle.answers.specs.declared.Refusal.{Refusal}
use Rattle.answers.specs.Answer.{number_of}
use Rattle.answers.proofs.Numbers.{above_0}
use Rattle.laws.specs.Tests.{all_true}
use Rattle.laws.proofs.Bools.{both, passed, failed}
use Rattle.laws.proofs.Checks.{NoneFails, none_fails}
use Rattle.registers.specs.declared.Shift.{Shift}
use Rattle.registers.specs.declared.Shift.TheVariants.{Ahead, Back}
use Rattle.registers.specs.Energy.{Countable}
use Rattle.registers.specs.Shift.{shifted}
use Rattle.calendar.specs.Clock.{seconds_of_half, halves_of_day, times_in_all}
use Rattle.store.specs.declared.Class.{Class}
use Rattle.store.specs.declared.Class.TheVariants.{A, B, C, D, Blank}
use Rattle.store.specs.Class.{days_of, most_days, day_words, right_lengths}
use Rattle.store.specs.Store.{Fits, store}
use Rattle.recorder.specs.Recorder.{Recorder, Event, Clock, On, Adjust, Mem, mem, with, cap_of}
use Rattle.recorder.specs.Range.{identity_tests, register_tests, in_range}
use Rattle.recorder.specs.Effect.{accessed}
use Rattle.recorder.specs.Answer.{wrong_power, too_early, units_after, event_answer, in_time, checks, answer_with, answer_of}
use Rattle.recorder.specs.Needs.{Good, Goes, Resets, Flaggable}
use Rattle.recorder.proofs.Ranges.{Ranges, ranges, countable}

-- a refusal's number is not that of what is done
pub number_some : (r : Refusal) → number_of r ≡ 0 → ⊥
number_some r e = omega (arith, above_0 r)

-- the ranges, judged in two parts
pub in_halves : (r : Recorder) (d : ℕ) (a b : Bool) → d ≡ cap_of r → a ≡ all_true (identity_tests r.identity)
    → b ≡ all_true (register_tests d r.clock r.energy r.demand r.running) → (a && b) ≡ in_range r
unfolding in_range
in_halves r d true b p e f = rw (sym e, f, p)
in_halves r d false b p e f = rw (sym e)

pub range_counts : (r : Recorder) (b : Bool) → b ≡ in_range r → not b ≡ false → Countable r.identity.weight r.energy
range_counts r b e t = countable r (ranges r (passed b (in_range r) e t))

pub range_time : (r : Recorder) (b : Bool) → b ≡ in_range r → not b ≡ false → r.clock.time < times_in_all
range_time r b e t = (ranges r (passed b (in_range r) e t)).clock.time

module _ (r : Recorder) (e : Event) (v s m : ℕ) (d : ℕ) (p : d ≡ cap_of r) where
  pub no_class_lem : d ≡ 0 → 5 ≡ answer_with r e v s m
  unfolding answer_with
  no_class_lem z = rw (eq-eqb (cap_of r) 0 (sym p ∙ z))

  module _ (some : d ≡ 0 → ⊥) (f : Bool) (q : f ≡ right_lengths (cap_of r) v s m) where
    real : eqb (cap_of r) 0 ≡ false
    real = ne_eqb (cap_of r) 0 (λ z. some (p ∙ z))

    pub wrong_length : not f ≡ true → 4 ≡ answer_with r e v s m
    unfolding answer_with
    wrong_length t = rw (real, failed f _ q t)

    module _ (t : not f ≡ false) (g : Bool) (k : g ≡ in_range r) where
      pub out_of_range_lem : not g ≡ true → 5 ≡ answer_with r e v s m
      unfolding answer_with
      out_of_range_lem u = rw (real, passed f _ q t, failed g _ k u)

      pub event_judged : not g ≡ false → (a : ℕ) → a ≡ event_answer r.clock.on r.clock.time (units_after r) e → a ≡ answer_with r e v s m
      unfolding answer_with event_answer
      event_judged u a w = w ∙ rw (real, passed f _ q t, passed g _ k u)

-- the lengths that passed
pub right_lengths_lem : (cap v s m : ℕ) → right_lengths cap v s m ≡ true → (v ≡ cap * halves_of_day) × (s ≡ cap) × (m ≡ cap * day_words)
right_lengths_lem cap v s m e =
    let a = both (eqb v (cap * halves_of_day) && eqb s cap) (eqb m (cap * day_words)) e in
    let b = both (eqb v (cap * halves_of_day)) (eqb s cap) a.0 in
    (eqb-true _ _ b.0, eqb-true _ _ b.1, eqb-true _ _ a.1)

-- an answer of 0: no check fails
pub answered : (r : Recorder) (e : Event) (v s m : ℕ) → answer_with r e v s m ≡ 0 → NoneFails (checks r e v s m)
unfolding answer_with
answered r e v s m a = none_fails (checks r e v s m) refl a

pub given_answer : (x : Mem) (e : Event) → answer_of x e ≡ 0 → answer_with x.recorder e (length x.store.values) (length x.store.starts) (length x.store.marks) ≡ 0
unfolding answer_of
given_answer x e a = a

pub days_few : (k : Class) → days_of k ≤ most_days
days_few A = omega arith
days_few B = omega arith
days_few C = omega arith
days_few D = omega arith
days_few Blank = omega arith

pub lengths_fit : (r : Recorder) (v s m : List ℕ) → 1 ≤ cap_of r → right_lengths (cap_of r) (length v) (length s) (length m) ≡ true → Fits (cap_of r) (store v s m)
lengths_fit r v s m some e =
    let f = right_lengths_lem (cap_of r) (length v) (length s) (length m) e in
    record { some = some; most = days_few r.identity.class; values = f.0; starts = f.1; marks = f.2 }

module _ (r : Recorder) (e : Event) (v s m : List ℕ) (a : answer_of (mem r v s m) e ≡ 0) where
  none : NoneFails (checks r e (length v) (length s) (length m))
  none = answered r e (length v) (length s) (length m) (given_answer (mem r v s m) e a)

  pub accepted_ranges : Ranges r
  accepted_ranges = ranges r (not-false (in_range r) none.1.1.0)

  pub accepted_fits : Fits (cap_of r) (store v s m)
  accepted_fits = lengths_fit r v s m (omega (arith, eqb-false (cap_of r) 0 none.0)) (not-false (right_lengths (cap_of r) (length v) (length s) (length m)) none.1.0)

  pub accepted_power : wrong_power r.clock.on e ≡ false
  accepted_power = none.1.1.1.0

  pub accepted_begun : too_early r.clock.time e ≡ false
  accepted_begun = none.1.1.1.1.1.0

  pub accepted_time : r.clock.time < times_in_all
  accepted_time = accepted_ranges.clock.time

  pub accepted_counts : Countable r.identity.weight r.energy
  accepted_counts = countable r accepted_ranges

  pub accepted_good : Good (mem r v s m)
  accepted_good = let g = accepted_ranges in record { time = g.clock.time; days = g.clock.high; total = g.energy.total; fits = accepted_fits }

  pub accepted_flags : Flaggable r m
  accepted_flags =
      record { time = accepted_ranges.clock.time; words = record { some = accepted_fits.some; most = accepted_fits.most; marks = accepted_fits.marks } }

  pub accepted_resets : Resets r
  accepted_resets = record { time = accepted_ranges.clock.time; count = accepted_ranges.demand.count }

  goes : (t : ℕ) → not (in_time r.clock.time t) ≡ false → Goes t (mem r v s m)
  goes t f =
      let b = both (leb r.clock.time t) (ltb t times_in_all) (not-false (in_time r.clock.time t) f) in
      let from : r.clock.time ≤ t = leb-true _ _ b.0 in
      record { good = accepted_good; from = omega arith; to = ltb-true _ _ b.1 }

  pub accepted_clock : (t : ℕ) → e ≡ Clock t → Goes t (mem r v s m)
  accepted_clock t p = goes t (rw p at none.1.1.1.1.1.1.0)

  pub accepted_on : (t : ℕ) → e ≡ On t → Goes t (mem r v s m)
  accepted_on t p = goes t (rw p at none.1.1.1.1.1.1.0)

  pub accepted_back : (n : ℕ) → e ≡ Adjust (Back n) → n ≤ r.clock.time % seconds_of_half
  accepted_back n p = ltb-false _ _ (rw p at accepted_begun)

  pub accepted_adjust : (h : Shift) → e ≡ Adjust h → Goes (shifted r.clock.time h) (mem r v s m)
  accepted_adjust (Ahead n) p =
      let late : r.clock.time + n < times_in_all = leb-false _ _ (rw p at none.1.1.1.1.1.1.0) in
      record { good = accepted_good; from = omega arith; to = late }
  accepted_adjust (Back n) p =
      let back = accepted_back n p in
      let time = accepted_time in
      record { good = accepted_good; from = omega arith; to = omega arith }

-- the running half-hour marked, time can go on as before
pub marked_goes : (t : ℕ) (x : Mem) → Goes t x → Goes t (with x (accessed x.recorder))
marked_goes t x g =
    record { good = record { time = g.good.time; days = g.good.days; total = g.good.total; fits = g.good.fits }; from = g.from; to = g.to }
