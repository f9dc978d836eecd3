-- Set-up makes a recorder in range with a store of its lengths, every event keeps both, and a refusal keeps all.
-- So such a recorder is never refused with 4 or 5; the blank one always is, with 5. Set-up and events are answered by their checks, and carry nothing.
-- Assumes nothing.
use Prim.Native.Nat.{ℕ, ◌+◌, ◌-◌, ◌*◌, ◌/◌, ◌<◌, ◌≤◌}
use mathlib.Core.Bool.{true}
use mathlib.Core.List.{List, [], ◌∷◌}
use mathlib.Core.Path.{◌≡◌, refl}
use native.Mathlib.Decide.{dec_lt}
use native.Mathlib.Omega.{arith}
use borrow.Author.Tests.{leb-true, eq-eqb, ne_eqb, eqb-true, not-false}
use lib.Dec.{leb, eqb}
use lib.ListN.{length, get_or-replicate}
use Rattle.calendar.specs.Clock.{seconds_of_half, halves_of_day, times_in_all}
use Rattle.laws.specs.Checks.{first_failing}
use Rattle.laws.specs.Tests.{all_true}
use Rattle.laws.proofs.Bools.{both}
use Rattle.laws.proofs.Lists.{set_keeps}
use Rattle.laws.proofs.Split.{by_test, by_dec}
use Rattle.laws.proofs.Tests.{all_true_each}
use Rattle.quantity.specs.declared.MilliwattHours.{MilliwattHours}
use Rattle.quantity.specs.Units.{total_round, last_four}
use Rattle.format.specs.Identifier.{ppp_ok}
use Rattle.format.proofs.Naming.{ppp_right}
use Rattle.registers.specs.declared.Demand.{Demand}
use Rattle.registers.specs.declared.Energy.{Energy}
use Rattle.registers.specs.declared.Present.{Present}
use Rattle.registers.specs.declared.Running.{Running}
use Rattle.registers.specs.Demand.{demand_closed}
use Rattle.registers.specs.Energy.{least_weight, most_weight, rate_count, rate_ok, no_energy, energy_counted}
use Rattle.registers.specs.Present.{present_at}
use Rattle.registers.specs.Shift.{shifted}
use Rattle.store.specs.Class.{days_of, day_words, right_lengths}
use Rattle.store.specs.Store.{Store, store, Fits, Words}
use Rattle.store.proofs.Laws.{begun_fits, flag_words, flagged_words, gone_fits}
use Rattle.recorder.specs.declared.SetUp.{SetUp}
use Rattle.recorder.specs.Recorder.{Recorder, Mem, Event, Count, Clock, Off, On, Access, Meter, Reset, Rate, Reverse, Ppp, Adjust, with, cap_of, half_of, today_of, reading_now}
use Rattle.recorder.specs.Boundary.{ended, advance_to, store_at}
use Rattle.recorder.specs.Effect.{power_lost, meter_changed, demand_cleared, counted, last_is, rate_is, ppp_is, switched_off, was_reset, accessed, reversed, first_flagged, flag_today, flag_from, after}
use Rattle.recorder.specs.Answer.{checks, event_answer, units_after, answer_with, answer_of}
use Rattle.recorder.specs.Step.{step, run}
use Rattle.recorder.specs.SetUp.{set_up_tests, set_up_checks, set_up_answer, set_up_with, started, fresh, blank, made, set_up}
use Rattle.recorder.specs.Needs.{Goes}
use Rattle.recorder.proofs.Answers.{answered, given_answer, accepted_ranges, accepted_fits, accepted_clock, accepted_on, accepted_adjust, marked_goes}
use Rattle.recorder.proofs.Boundaries.{stayed, went}
use Rattle.recorder.proofs.Ranges.{Ranges, PresentRanges, DemandRanges, in_range_lem}
use Rattle.recorder.proofs.Setting.{set_up_tests_lem, set_up_begins}

pub record Sound (x : Mem) : Type 0 where
  pub ranges : Ranges x.recorder
  pub fits : Fits (cap_of x.recorder) x.store

-- ---- the ranges, event by event

kept_count : (r : Recorder) (c : ℕ) → Ranges r → Ranges (counted c r)
unfolding energy_counted
kept_count r c g =
    record {
      identity = g.identity;
      clock = g.clock;
      energy = record {
        total = omega arith;
        low = g.energy.low;
        high = g.energy.high;
        rates = λ i l. set_keeps (λ (w : MilliwattHours). w.0 < total_round) r.energy.rates (r.energy.rate - 1) _ no_energy i (omega arith) (g.energy.rates i l);
      };
      demand = g.demand;
      base = g.base;
    }

kept_rate : (r : Recorder) (n : ℕ) → rate_ok n ≡ true → Ranges r → Ranges (rate_is n r)
kept_rate r n e g =
    let b = both (leb 1 n) (leb n rate_count) e in
    record {
      identity = g.identity;
      clock = g.clock;
      energy = record { total = g.energy.total; low = leb-true _ _ b.0; high = leb-true _ _ b.1; rates = g.energy.rates };
      demand = g.demand;
      base = g.base;
    }

kept_reset : (r : Recorder) → Ranges r → Ranges (accessed (was_reset r))
kept_reset r g =
    record {
      identity = g.identity;
      clock = g.clock;
      energy = g.energy;
      demand = record { current = omega arith; previous = g.demand.current; cumulative = omega arith; reset = omega (arith, g.clock.time); count = omega arith };
      base = g.base;
    }

-- ---- time goes on to t

present_kept : (cap t : ℕ) (p : Present) → PresentRanges cap p → p.time / seconds_of_half ≤ t / seconds_of_half → t < times_in_all → PresentRanges cap (present_at cap t p)
present_kept cap t p g from to = record { time = to; low = omega arith; high = omega arith; past = omega arith }

demand_kept : (e : Energy) (h : Running) (d : Demand) → DemandRanges d → DemandRanges (demand_closed e h d)
demand_kept e h d g =
    record { current = omega arith; previous = g.previous; cumulative = g.cumulative; reset = g.reset; count = g.count }

gone_sound : (t : ℕ) (x : Mem) → Sound x → Goes t x → Sound (advance_to t x)
unfolding ended
gone_sound t x s h =
    let r = x.recorder in
    let g = s.ranges in
    let clock = present_kept (cap_of r) t r.clock g.clock h.from h.to in
    by_dec (dec_lt (half_of r) (t / seconds_of_half))
    (λ l. rw (went t x h l)
    record {
      ranges = record {
        identity = g.identity;
        clock = clock;
        energy = g.energy;
        demand = demand_kept r.energy r.running r.demand g.demand;
        base = omega (arith, g.energy.total);
      };
      fits = gone_fits (cap_of r) (half_of r) (t / seconds_of_half) (last_four (reading_now r)).0 (reading_now r).0 r.running.reverse r.running.level2 x.store (store_at (t / seconds_of_half) r x.store) refl s.fits;
    })
    (λ n. rw (stayed t x h (omega (arith, h.from)))
    record {
      ranges = record { identity = g.identity; clock = clock; energy = g.energy; demand = g.demand; base = g.base };
      fits = s.fits;
    })

-- ---- flags

words_in : (cap : ℕ) (x : Store) → Fits cap x → Words cap x.marks
words_in cap x f = record { some = f.some; most = f.most; marks = f.marks }

with_words : (cap : ℕ) (x : Store) (m : List ℕ) → Fits cap x → Words cap m → Fits cap (store x.values x.starts m)
with_words cap x m f w = record { some = f.some; most = f.most; values = f.values; starts = f.starts; marks = w.marks }

today_sound : (flag : ℕ) (x : Mem) → Sound x → Sound (flag_today flag x)
unfolding flag_today
today_sound flag x s =
    let r = x.recorder in
    record {
      ranges = s.ranges;
      fits = with_words (cap_of r) x.store _ s.fits (flag_words (cap_of r) flag (today_of r) x.store.marks _ refl (words_in (cap_of r) x.store s.fits));
    }

from_sound : (from flag : ℕ) (x : Mem) → Sound x → Sound (flag_from from flag x)
unfolding flag_from
from_sound from flag x s =
    let r = x.recorder in
    record {
      ranges = s.ranges;
      fits = with_words (cap_of r) x.store _ s.fits (flagged_words (cap_of r) (first_flagged r from) (today_of r + 1) flag x.store.marks (words_in (cap_of r) x.store s.fits));
    }

-- ---- any event, accepted or not

accepted_sound : (x : Mem) (e : Event) → answer_of x e ≡ 0 → Sound x
accepted_sound x e a =
    let r = x.recorder in
    let v = x.store.values in
    let s = x.store.starts in
    let m = x.store.marks in
    record { ranges = accepted_ranges r e v s m a; fits = accepted_fits r e v s m a }

changed : (x : Mem) (r : Recorder) → cap_of r ≡ cap_of x.recorder → Ranges r → Sound x → Sound (with x r)
changed x r e g s = record { ranges = g; fits = rw e s.fits }

marked_sound : (x : Mem) → Sound x → Sound (with x (accessed x.recorder))
marked_sound x s =
    let g = s.ranges in
    changed x (accessed x.recorder) refl (record { identity = g.identity; clock = g.clock; energy = g.energy; demand = g.demand; base = g.base }) s

pub after_sound : (x : Mem) (e : Event) → answer_of x e ≡ 0 → Sound (after x e)
unfolding after
after_sound x (Count c) a = let s = accepted_sound x (Count c) a in changed x (counted c x.recorder) refl (kept_count x.recorder c s.ranges) s
after_sound x (Clock t) a = gone_sound t x (accepted_sound x (Clock t) a) (accepted_clock x.recorder (Clock t) x.store.values x.store.starts x.store.marks a t refl)
after_sound x Off a = let s = accepted_sound x Off a in record { ranges = same s.ranges; fits = s.fits }
  where
    same : Ranges x.recorder → Ranges (switched_off x.recorder)
    same g =
        record {
          identity = g.identity;
          clock = record { time = g.clock.time; low = g.clock.low; high = g.clock.high; past = g.clock.past };
          energy = g.energy;
          demand = g.demand;
          base = g.base;
        }
after_sound x (On t) a =
    from_sound (today_of x.recorder) power_lost (advance_to t x)
    (gone_sound t x (accepted_sound x (On t) a) (accepted_on x.recorder (On t) x.store.values x.store.starts x.store.marks a t refl))
after_sound x Access a = marked_sound x (accepted_sound x Access a)
after_sound x (Meter c) a =
    let s = accepted_sound x (Meter c) a in
    today_sound meter_changed (with x (accessed (last_is c x.recorder))) (changed x (accessed (last_is c x.recorder)) refl (metered s.ranges) s)
  where
    metered : Ranges x.recorder → Ranges (accessed (last_is c x.recorder))
    metered g =
        record {
          identity = g.identity;
          clock = g.clock;
          energy = record { total = g.energy.total; low = g.energy.low; high = g.energy.high; rates = g.energy.rates };
          demand = g.demand;
          base = g.base;
        }
after_sound x Reset a =
    let s = accepted_sound x Reset a in
    today_sound demand_cleared (with x (accessed (was_reset x.recorder))) (changed x (accessed (was_reset x.recorder)) refl (kept_reset x.recorder s.ranges) s)
after_sound x (Rate n) a =
    let s = accepted_sound x (Rate n) a in
    let none = answered x.recorder (Rate n) (length x.store.values) (length x.store.starts) (length x.store.marks) (given_answer x (Rate n) a) in
    changed x (rate_is n x.recorder) refl (kept_rate x.recorder n (not-false (rate_ok n) none.1.1.1.1.0) s.ranges) s
after_sound x Reverse a = let s = accepted_sound x Reverse a in changed x (reversed x.recorder) refl (marked s.ranges) s
  where
    marked : Ranges x.recorder → Ranges (reversed x.recorder)
    marked g = record { identity = g.identity; clock = g.clock; energy = g.energy; demand = g.demand; base = g.base }
after_sound x (Ppp a b c) ok =
    let s = accepted_sound x (Ppp a b c) ok in
    let none = answered x.recorder (Ppp a b c) (length x.store.values) (length x.store.starts) (length x.store.marks) (given_answer x (Ppp a b c) ok) in
    changed x (accessed (ppp_is a b c x.recorder)) refl (renamed (not-false (ppp_ok a b c) none.1.1.1.1.0) s.ranges) s
  where
    renamed : ppp_ok a b c ≡ true → Ranges x.recorder → Ranges (accessed (ppp_is a b c x.recorder))
    renamed e g =
        record {
          identity = record { identifier = ppp_right a b c x.recorder.identity.identifier e g.identity.identifier; low = g.identity.low; high = g.identity.high };
          clock = g.clock;
          energy = g.energy;
          demand = g.demand;
          base = g.base;
        }
after_sound x (Adjust h) a =
    let t = shifted x.recorder.clock.time h in
    let goes = accepted_adjust x.recorder (Adjust h) x.store.values x.store.starts x.store.marks a h refl in
    gone_sound t (with x (accessed x.recorder)) (marked_sound x (accepted_sound x (Adjust h) a)) (marked_goes t x goes)

pub step_sound : (x : Mem) (e : Event) → Sound x → Sound (step x e).after
unfolding step
step_sound x e s =
    by_test (eqb (answer_of x e) 0)
    (λ t. rw t (after_sound x e (eqb-true (answer_of x e) 0 t)))
    (λ t. rw t s)

pub run_sound : (es : List Event) (x : Mem) → Sound x → Sound (run x es)
unfolding run
run_sound [] x s = s
run_sound (e ∷ es) x s = run_sound es (step x e).after (step_sound x e s)

-- ---- set-up

pub made_sound : (g : SetUp) (x : Store) → set_up_answer g x ≡ 0 → Sound (made g)
unfolding made fresh started
made_sound g x a =
    let b = set_up_begins g x a in
    let t = all_true_each (set_up_tests g) (not-false (all_true (set_up_tests g)) (set_up_tests_lem g x a).0) in
    let w = both (leb least_weight g.weight.0) (leb g.weight.0 most_weight) t.1.1.0 in
    record {
      ranges = record {
        identity = record { identifier = t.0; low = leb-true _ _ w.0; high = leb-true _ _ w.1 };
        clock = record { time = b.time; low = omega arith; high = b.fits.some; past = omega arith };
        energy = record { total = b.total; low = omega arith; high = omega arith; rates = λ i l. rw (get_or-replicate rate_count i no_energy no_energy l) (omega arith) };
        demand = record { current = omega arith; previous = omega arith; cumulative = omega arith; reset = omega arith; count = omega arith };
        base = omega (arith, b.total);
      };
      fits = begun_fits (days_of g.class) (g.time / seconds_of_half) _ _ b.fits.some b.fits.most;
    }

-- ---- refusals

-- a sound recorder is refused for what the event asks and never for itself or its store
pub sound_answer : (x : Mem) (e : Event) → Sound x → answer_of x e ≡ event_answer x.recorder.clock.on x.recorder.clock.time (units_after x.recorder) e
unfolding answer_of answer_with event_answer
sound_answer x e s =
    let r = x.recorder in
    let some : cap_of r ≡ 0 → ⊥ = λ z. omega (arith, s.fits.some) in
    let fits : right_lengths (cap_of r) (length x.store.values) (length x.store.starts) (length x.store.marks) ≡ true = rw (s.fits.values, s.fits.starts, s.fits.marks, eq-eqb (cap_of r * halves_of_day) (cap_of r * halves_of_day) refl, eq-eqb (cap_of r) (cap_of r) refl, eq-eqb (cap_of r * day_words) (cap_of r * day_words) refl) in
    rw (ne_eqb (cap_of r) 0 some, fits, in_range_lem r s.ranges)

pub refused : (x : Mem) (e : Event) → ((step x e).answer ≡ 0 → ⊥) → (step x e).after ≡ x
unfolding step
refused x e n = rw (ne_eqb (answer_of x e) 0 n)

pub set_up_blank : (g : SetUp) (x : Store) → ((set_up g x).answer ≡ 0 → ⊥) → (set_up g x).after ≡ record { recorder = blank; store = x }
unfolding set_up
set_up_blank g x n = rw (ne_eqb (set_up_answer g x) 0 n)

pub blank_refused : (x : Store) (e : Event) → (step (record { recorder = blank; store = x }) e).answer ≡ 5
unfolding step answer_of answer_with blank started
blank_refused x e = refl

-- ---- answers, and what they carry

pub step_answer_holds : (x : Mem) (e : Event) → (step x e).answer ≡ first_failing (checks x.recorder e (length x.store.values) (length x.store.starts) (length x.store.marks))
unfolding step answer_of answer_with
step_answer_holds x e = refl

pub set_up_answer_holds : (s : SetUp) (x : Store) → (set_up s x).answer ≡ first_failing (set_up_checks s (length x.values) (length x.starts) (length x.marks))
unfolding set_up set_up_with
set_up_answer_holds s x = refl

pub step_carries : (x : Mem) (e : Event) → (step x e).carried ≡ 0
unfolding step
step_carries x e = refl

pub set_up_carries : (s : SetUp) (x : Store) → (set_up s x).carried ≡ 0
unfolding set_up
set_up_carries s x = refl
