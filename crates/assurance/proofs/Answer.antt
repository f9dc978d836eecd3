-- The recorder of a run is in range and its store has its lengths, so its answer to an event is the paper's.
-- Assumes nothing.
use Prim.Native.Nat.{ℕ, suc, ◌+◌, ◌-◌, ◌/◌, ◌%◌, ◌≤◌}
use mathlib.Core.Path.{◌≡◌, ap, ◌∙◌, fun_ext}
use mathlib.Core.Bool.{Bool, true, false}
use native.Mathlib.Nat.{mod-mod, mod-lt}
use native.Mathlib.Omega.{arith}
use lib.ListN.{length}
use borrow.Author.Tests.{eq-eqb, ne_eqb}
use Rattle.laws.proofs.Round.{round_less}
use Rattle.quantity.specs.Units.{unit_of, total_round, reading_round, reading_at, units_from}
use Rattle.store.specs.Class.{right_lengths}
use Rattle.registers.specs.Energy.{added_of, units_with}
use Rattle.recorder.specs.declared.SetUp.{SetUp}
use Rattle.recorder.specs.declared.Event.{Event}
use Rattle.recorder.specs.declared.Recorder.{Recorder}
use Rattle.recorder.specs.Recorder.{Mem}
use Rattle.recorder.specs.Recorder as recorder
use Rattle.recorder.specs.Range.{in_range}
use Rattle.recorder.specs.Answer.{no_class, units_after, event_answer, answer_with, answer_of}
use Rattle.recorder.specs.Cause.{most_units}
use Rattle.recorder.proofs.Ranges as ranges
use Rattle.assurance.specs.Paper.{Paper, now, total_at, units_of}
use Rattle.assurance.specs.Written.{energy_of, due}
use Rattle.assurance.specs.Written as written
use Rattle.assurance.proofs.Kept.{Given, Kept, cap_of, cap_is}
use Rattle.assurance.proofs.Marking.{largest_le}

-- the units of the running half-hour, in registers that run round and on paper
more_of : (t w x : ℕ) → t ≡ x % total_round → units_from t (t + w) ≡ units_from x (x + w)
more_of t w x e = omega arith

low_of : (t x : ℕ) → t ≡ x % total_round → reading_at t ≡ reading_at x
low_of t x e = omega arith

sum_of : (x y w : ℕ) → y ≤ x → units_from y x + units_from x (x + w) ≡ units_from y (x + w)
sum_of x y w l = omega arith

units_same : (t b w x y : ℕ) → t ≡ x % total_round → b ≡ reading_at y → y ≤ x → units_from y x ≤ most_units
    → (reading_at t + reading_round - b % reading_round) % reading_round + units_from t (t + w) ≡ units_from y (x + w)
units_same t b w x y et eb up slow =
    rw (more_of t w x et, low_of t x et, eb, mod-mod (y / unit_of) reading_round, round_less reading_round (x / unit_of) (y / unit_of) (omega arith) (omega arith)) (sum_of x y w up)

slow_at : (s : SetUp) (p : Paper) (x : Mem) → Kept s p x → units_from (total_at s p.tape.counts (now p)) (total_at s p.tape.counts (suc (now p))) ≤ most_units
unfolding units_of
slow_at s p x k = k.at.energy.slow (now p)

module _ (s : SetUp) (z : Given s) (p : Paper) (x : Mem) (k : Kept s p x) where
  abbrev r : Recorder
  r = x.recorder

  has_cap : recorder.cap_of r ≡ cap_of s
  has_cap = cap_is s p.tape (now p) x k.at

  in_ranges : ranges.Ranges r
  in_ranges =
      let g = k.at in
      let d = g.demand in
      record {
        identity = record { identifier = rw k.name.is k.name.right; low = rw g.identity.1 z.weight_low; high = rw g.identity.1 z.weight_high };
        clock = record {
          time = omega (arith, k.time, k.century);
          low = omega (arith, g.clock.days, g.clock.begun, z.some);
          high = omega (arith, g.clock.days, has_cap);
          past = omega (arith, g.clock.days, k.time);
        };
        energy = record {
          total = omega (arith, g.energy.total);
          low = g.energy.rate_low;
          high = g.energy.rate_high;
          rates = λ i l. rw (g.energy.rates i l) (mod-lt (p.tape.counts.rate i) {m = total_round} (omega arith));
        };
        demand = record {
          current =
              omega (arith, d.current, largest_le (units_of s p.tape.counts) p.tape.demands.since (now p - p.tape.demands.since) g.energy.slow);
          previous = omega (arith, d.previous, d.previous_few);
          cumulative = omega (arith, d.cumulative);
          reset = omega (arith, d.reset, d.date);
          count = omega (arith, d.count);
        };
        base = omega (arith, g.running.base);
      }

  pub in_range_lem : in_range r ≡ true
  in_range_lem = ranges.in_range_lem r in_ranges

  pub right_lengths_lem : right_lengths (recorder.cap_of r) (length x.store.values) (length x.store.starts) (length x.store.marks) ≡ true
  right_lengths_lem =
      let f = k.at.store.fits in
      rw (has_cap, eq-eqb _ _ f.values, eq-eqb _ _ f.starts, eq-eqb _ _ f.marks)

  pub some_class : no_class r ≡ false
  some_class = ne_eqb (recorder.cap_of r) 0 (λ e. omega (arith, has_cap, z.some))

  pub added_is : (c : ℕ) → (added_of r.identity.weight r.energy.last c).0 ≡ energy_of s p c
  added_is c = rw (k.at.identity.1, k.last)

  units_are : (c : ℕ) → units_after r c ≡ written.units_with s p c
  unfolding units_with written.units_with
  units_are c =
      rw (added_is c)
      (units_same r.energy.total.0 r.running.base.0 (energy_of s p c) (total_at s p.tape.counts (suc (now p))) (total_at s p.tape.counts (now p))
      k.at.energy.total k.at.running.base (k.at.energy.up (now p)) (slow_at s p x k))

  own_answer : (e : Event) → answer_of x e ≡ event_answer r.clock.on r.clock.time (units_after r) e
  unfolding answer_of answer_with event_answer
  own_answer e = rw (some_class, right_lengths_lem, in_range_lem)

  -- the answer is the one that is due by the paper
  pub answer_due : (e : Event) → answer_of x e ≡ due s p e
  unfolding due
  answer_due e =
      own_answer e
      ∙ ap (λ (f : ℕ → ℕ). event_answer r.clock.on r.clock.time f e) (fun_ext units_are)
      ∙ ap (λ (b : Bool). event_answer b r.clock.time (written.units_with s p) e) k.on
      ∙ ap (λ (t : ℕ). event_answer p.on t (written.units_with s p) e) k.time
