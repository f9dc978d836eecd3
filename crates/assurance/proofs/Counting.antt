-- Count: the energy goes to the total, to a rate's register and to the paper, and no half-hour that has ended moves.
-- Assumes nothing.
use Prim.Native.Nat.{ℕ, zero, suc, ◌+◌, ◌-◌, ◌*◌, ◌%◌, ◌<◌, ◌≤◌}
use mathlib.Core.Path.{◌≡◌, refl, sym, ap, ◌∙◌}
use mathlib.Core.List.{List}
use native.Mathlib.Decide.{ℕ_discrete, dec_lt}
use native.Mathlib.Omega.{arith}
use lib.ListN.{length, get_or, set, length-set}
use lib.Seq.{get_or-set_other, get_or-set_same}
use borrow.Author.Tests.{lt-ltb, le-ltb, eq-eqb, ne_eqb}
use Rattle.laws.proofs.Split.{by_dec}
use Rattle.quantity.specs.declared.MilliwattHours.{MilliwattHours}
use Rattle.quantity.specs.Units.{total_round, units_from, energy_sum}
use Rattle.registers.specs.declared.Energy.{Energy}
use Rattle.registers.specs.Energy.{no_energy, added_of, energy_counted}
use Rattle.recorder.specs.declared.SetUp.{SetUp}
use Rattle.recorder.specs.Recorder.{Mem, with}
use Rattle.recorder.specs.Effect as effect
use Rattle.recorder.specs.Cause.{most_units}
use Rattle.assurance.specs.Paper.{Counts, Tape, total_at, units_of, largest}
use Rattle.assurance.specs.Written.{counted, add_after, add_at}
use Rattle.assurance.proofs.Kept.{EnergyKept, KeptAt, cap_of, reached}
use Rattle.assurance.proofs.Rooms.{same_values}

pub largest_same : (f g : ℕ → ℕ) (from n : ℕ) → ((h : ℕ) → from ≤ h → h < from + n → f h ≡ g h) → largest f from n ≡ largest g from n
unfolding largest
largest_same f g from zero e = refl
largest_same f g from (suc n) e = rw (largest_same f g from n (λ h lo hi. e h lo (omega arith)), e (from + n) (omega arith) (omega arith))

module _ (s : SetUp) (p : Tape) (q i w : ℕ) where
  abbrev c : Counts
  c = p.counts

  abbrev c' : Counts
  c' = (counted q i w p).counts

  -- up to the running half-hour's start nothing changes; from its end on all is w more
  total_kept : (h : ℕ) → h ≤ q → total_at s c' h ≡ total_at s c h
  unfolding total_at add_after
  total_kept h l = rw (le-ltb q h l) (omega arith)

  total_more : (h : ℕ) → q < h → total_at s c' h ≡ total_at s c h + w
  unfolding total_at add_after
  total_more h l = rw (lt-ltb q h l) (omega arith)

  units_kept : (h : ℕ) → h < q → units_of s c' h ≡ units_of s c h
  unfolding units_of
  units_kept h l = rw (total_kept h (omega arith), total_kept (suc h) l)

  module _ (e : Energy) (g : EnergyKept s c q e) where
    up_count : (h : ℕ) → total_at s c' h ≤ total_at s c' (suc h)
    up_count h =
        by_dec (dec_lt q h)
        (λ l. rw (total_more h l, total_more (suc h) (omega arith)) (omega (arith, g.up h)))
        (λ l. by_dec (ℕ_discrete h q)
        (λ z. rw (z, total_kept q (omega arith), total_more (suc q) (omega arith)) (omega (arith, g.up q)))
        (λ z. rw (total_kept h (omega arith), total_kept (suc h) (omega arith)) (g.up h)))

    slow_count : units_from (total_at s c q) (total_at s c (suc q) + w) ≤ most_units → (h : ℕ) → units_of s c' h ≤ most_units
    unfolding units_of
    slow_count few h =
        by_dec (dec_lt q h)
        (λ l. rw (total_more h l, total_more (suc h) (omega arith), g.flat h l, g.flat (suc h) (omega arith)) (omega arith))
        (λ l. by_dec (ℕ_discrete h q)
        (λ z. rw (z, total_kept q (omega arith), total_more (suc q) (omega arith)) few)
        (λ z. rw (total_kept h (omega arith), total_kept (suc h) (omega arith)) (g.slow h)))

    flat_count : (h : ℕ) → q < h → total_at s c' h ≡ total_at s c' (suc q)
    flat_count h l = total_more h l ∙ ap (λ (n : ℕ). n + w) (g.flat h l) ∙ sym (total_more (suc q) (omega arith))

-- registers that run round
sum_of : (a b w : ℕ) → a ≡ b % total_round → (a + w) % total_round ≡ (b + w) % total_round
sum_of a b w e = omega arith

rates_count : (rs : List MilliwattHours) (f : ℕ → ℕ) (i : ℕ) (w : MilliwattHours) → length rs ≡ 8 → i < 8
    → ((j : ℕ) → j < 8 → (get_or rs j no_energy).0 ≡ f j % total_round)
    → (j : ℕ) → j < 8 → (get_or (set rs i (energy_sum (get_or rs i no_energy) w)) j no_energy).0 ≡ add_at i w.0 f j % total_round
unfolding add_at
rates_count rs f i w long li g j l =
    by_dec (ℕ_discrete j i)
    (λ e.
    rw (eq-eqb j i e, e)
    (ap (λ (a : MilliwattHours). a.0) (get_or-set_same rs i (energy_sum (get_or rs i no_energy) w) no_energy (omega arith))
    ∙ sum_of (get_or rs i no_energy).0 (f i) w.0 (g i li)))
    (λ ne.
    rw (ne_eqb j i ne)
    (ap (λ (a : MilliwattHours). a.0) (get_or-set_other rs i j (energy_sum (get_or rs i no_energy) w) no_energy ne)
    ∙ g j l ∙ none (f j)))
  where
    none : (b : ℕ) → b % total_round ≡ (b + 0) % total_round
    none b = omega arith

-- Count(c) in half-hour q
module _ (s : SetUp) (p : Tape) (q n : ℕ) (x : Mem) (g : KeptAt s p q x) where
  abbrev e : Energy
  e = x.recorder.energy

  -- its energy, and the rate
  abbrev more : MilliwattHours
  more = added_of x.recorder.identity.weight e.last n

  abbrev i : ℕ
  i = e.rate - 1

  pub count_kept : units_from (total_at s p.counts q) (total_at s p.counts (suc q) + more.0) ≤ most_units
      → KeptAt s (counted q i more.0 p) q (with x (effect.counted n x.recorder))
  unfolding energy_counted
  count_kept few = record {
    identity = g.identity;
    clock = g.clock;
    energy = record {
      up = up_count s p q i more.0 e g.energy;
      slow = slow_count s p q i more.0 e g.energy few;
      flat = flat_count s p q i more.0 e g.energy;
      total = rw (total_more s p q i more.0 (suc q) (omega arith)) (sum_of e.total.0 (total_at s p.counts (suc q)) more.0 g.energy.total);
      rates_long = length-set e.rates i _ ∙ g.energy.rates_long;
      rates = rates_count e.rates p.counts.rate i more g.energy.rates_long (omega (arith, g.energy.rate_low, g.energy.rate_high)) g.energy.rates;
      rate_low = g.energy.rate_low;
      rate_high = g.energy.rate_high;
    };
    demand = let d = g.demand in record {
      since = d.since;
      current =
          d.current
          ∙ ap (λ (k : ℕ). 2 * k) (sym (largest_same _ _ p.demands.since (q - p.demands.since)
          (λ h lo hi. units_kept s p q i more.0 h (omega (arith, d.since)))));
      previous = d.previous;
      previous_few = d.previous_few;
      cumulative = d.cumulative;
      reset = d.reset;
      date = d.date;
      count = d.count;
      never = d.never;
    };
    running = let m = g.running in record {
      base = rw (total_kept s p q i more.0 q (omega arith)) m.base;
      reverse = m.reverse;
      level2 = m.level2;
      no_reverse = m.no_reverse;
      no_level2 = m.no_level2;
    };
    no_flags = g.no_flags;
    store = let y = g.store in record {
      fits = y.fits;
      values = λ d z.
          same_values s p.counts (counted q i more.0 p).counts d (reached q d) (d % cap_of s) x.store.values x.store.starts
          (λ h l. total_kept s p q i more.0 h (omega (arith, z.last))) (y.values d z);
      marks = y.marks;
      flags = y.flags;
    };
  }
