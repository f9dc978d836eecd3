-- Off, Rate, Access, Reverse, Meter, Reset: what the present holds, marks of the running half-hour, flags of today.
-- Assumes nothing.
use Prim.Native.Nat.{ℕ, zero, suc, ◌+◌, ◌-◌, ◌*◌, ◌/◌, ◌%◌, ◌<◌, ◌≤◌}
use mathlib.Core.Path.{◌≡◌, refl, sym, ◌∙◌}
use mathlib.Core.Bool.{Bool, true}
use native.Mathlib.Decide.{dec_lt}
use native.Mathlib.Omega.{arith}
use lib.Bits.{bit_or}
use lib.Dec.{eqb}
use borrow.Author.Tests.{eq-eqb, ne_eqb}
use Rattle.laws.proofs.Bools.{or_none_lem, or_some}
use Rattle.laws.proofs.Ring.{ring_apart}
use Rattle.laws.proofs.Split.{by_dec}
use Rattle.quantity.specs.Units.{demand_round}
use Rattle.store.specs.Store.{store, flag_at}
use Rattle.registers.specs.Demand.{count_round}
use Rattle.recorder.specs.declared.SetUp.{SetUp}
use Rattle.recorder.specs.declared.Recorder.{Recorder}
use Rattle.recorder.specs.Recorder.{Mem, with}
use Rattle.recorder.specs.Effect.{ppp_is, flag_today, switched_off, last_is, rate_is, was_reset}
use Rattle.recorder.specs.Effect as effect
use Rattle.recorder.specs.Cause.{most_units}
use Rattle.assurance.specs.Paper.{Flags, Tape, units_of, flags_of, largest, peak_of}
use Rattle.assurance.specs.Written.{accessed, reversed, metered, reset_on, mark_at}
use Rattle.assurance.proofs.Flags.{with_meter, with_reset}
use Rattle.assurance.proofs.Kept.{EnergyKept, StoreKept, KeptAt, cap_of, reached, cap_is, day_is}
use Rattle.assurance.proofs.Rooms.{same_marks, flagged_marks, flagged_other, flagged_here, flagged_long}

pub mark_other : (q : ℕ) (f : ℕ → Bool) (h : ℕ) → (h ≡ q → ⊥) → mark_at q f h ≡ f h
unfolding mark_at
mark_other q f h ne = or_none_lem (f h) (eqb h q) (ne_eqb h q ne)

mark_here : (q : ℕ) (f : ℕ → Bool) → mark_at q f q ≡ true
unfolding mark_at
mark_here q f = or_some (f q) (eqb q q) (eq-eqb q q refl)

pub largest_le : (f : ℕ → ℕ) (from n : ℕ) → ((h : ℕ) → f h ≤ most_units) → largest f from n ≤ most_units
unfolding largest
largest_le f from zero e = omega arith
largest_le f from (suc n) e = omega (arith, largest_le f from n e, e (from + n))

module _ (s : SetUp) (p : Tape) (q : ℕ) (x : Mem) (g : KeptAt s p q x) where
  abbrev r : Recorder
  r = x.recorder

  -- fields of which the tape says nothing
  pub off_kept : KeptAt s p q (with x (switched_off r))
  off_kept = record {
    identity = g.identity;
    clock = record { begun = g.clock.begun; here = g.clock.here; days = g.clock.days };
    energy = g.energy;
    demand = g.demand;
    running = g.running;
    no_flags = g.no_flags;
    store = g.store;
  }

  energy_kept : (last rate : ℕ) → 1 ≤ rate → rate ≤ 8
      → EnergyKept s p.counts q (record { total = r.energy.total; last = last; rate = rate; rates = r.energy.rates })
  energy_kept last rate lo hi = let e = g.energy in record {
    up = e.up;
    slow = e.slow;
    flat = e.flat;
    total = e.total;
    rates_long = e.rates_long;
    rates = e.rates;
    rate_low = lo;
    rate_high = hi;
  }

  pub last_kept : (c : ℕ) → KeptAt s p q (with x (last_is c r))
  last_kept c = record {
    identity = g.identity;
    clock = g.clock;
    energy = energy_kept c r.energy.rate g.energy.rate_low g.energy.rate_high;
    demand = g.demand;
    running = g.running;
    no_flags = g.no_flags;
    store = g.store;
  }

  pub rate_kept_lem : (n : ℕ) → 1 ≤ n → n ≤ 8 → KeptAt s p q (with x (rate_is n r))
  rate_kept_lem n lo hi = record {
    identity = g.identity;
    clock = g.clock;
    energy = energy_kept r.energy.last n lo hi;
    demand = g.demand;
    running = g.running;
    no_flags = g.no_flags;
    store = g.store;
  }

  pub ppp_kept : (a b c : ℕ) → KeptAt s p q (with x (ppp_is a b c r))
  ppp_kept a b c = record {
    identity = g.identity;
    clock = g.clock;
    energy = g.energy;
    demand = g.demand;
    running = g.running;
    no_flags = g.no_flags;
    store = g.store;
  }

  -- marks of the running half-hour
  pub access_kept : KeptAt s (accessed q p) q (with x (effect.accessed r))
  access_kept = let m = g.running in record {
    identity = g.identity;
    clock = g.clock;
    energy = g.energy;
    demand = g.demand;
    running = record {
      base = m.base;
      reverse = m.reverse;
      level2 = sym (mark_here q p.marks.level2);
      no_reverse = m.no_reverse;
      no_level2 = λ h l. mark_other q p.marks.level2 h (omega arith) ∙ m.no_level2 h l;
    };
    no_flags = g.no_flags;
    store = record {
      fits = g.store.fits;
      values = g.store.values;
      marks = λ d i.
          same_marks p.marks (accessed q p).marks d (reached q d) (d % cap_of s) x.store.marks
          (λ j l. refl) (λ j l. mark_other q p.marks.level2 (48 * d + j) (omega arith)) (g.store.marks d i);
      flags = g.store.flags;
    };
  }

  pub reverse_kept : KeptAt s (reversed q p) q (with x (effect.reversed r))
  reverse_kept = let m = g.running in record {
    identity = g.identity;
    clock = g.clock;
    energy = g.energy;
    demand = g.demand;
    running = record {
      base = m.base;
      reverse = sym (mark_here q p.marks.reverse);
      level2 = m.level2;
      no_reverse = λ h l. mark_other q p.marks.reverse h (omega arith) ∙ m.no_reverse h l;
      no_level2 = m.no_level2;
    };
    no_flags = g.no_flags;
    store = record {
      fits = g.store.fits;
      values = g.store.values;
      marks = λ d i.
          same_marks p.marks (reversed q p).marks d (reached q d) (d % cap_of s) x.store.marks
          (λ j l. mark_other q p.marks.reverse (48 * d + j) (omega arith)) (λ j l. refl) (g.store.marks d i);
      flags = g.store.flags;
    };
  }

-- ---- a flag of today, which the paper's flags f have too, beside what they had

module _ (s : SetUp) (p : Tape) (q flag : ℕ) (x : Mem) (g : KeptAt s p q x) (f : Flags)
    (here : bit_or (flags_of p.flags (q / 48)) flag ≡ flags_of f (q / 48)) (other : (d : ℕ) → (d ≡ q / 48 → ⊥) → flags_of f d ≡ flags_of p.flags d) where
  abbrev p' : Tape
  p' = record { counts = p.counts; marks = p.marks; flags = f; demands = p.demands }

  store_flag : StoreKept s p' q (store x.store.values x.store.starts (flag_at (cap_of s) flag (q / 48) x.store.marks))
  store_flag =
      let y = g.store in
      let m = x.store.marks in
      record {
        fits = record {
          some = y.fits.some;
          most = y.fits.most;
          values = y.fits.values;
          starts = y.fits.starts;
          marks = flagged_long (cap_of s) flag (q / 48) m ∙ y.fits.marks;
        };
        values = y.values;
        marks = λ d i. flagged_marks (cap_of s) flag (q / 48) m p.marks d (reached q d) (d % cap_of s) (y.marks d i);
        flags = λ d i.
            by_dec (dec_lt d (q / 48))
            (λ l. flagged_other (cap_of s) flag (q / 48) m (d % cap_of s) (ring_apart (cap_of s) d (q / 48) l i.near) ∙ y.flags d i ∙ sym (other d (omega arith)))
            (λ l.
            let same : d ≡ q / 48 = omega (arith, i.last) in
            rw same (flagged_here (cap_of s) flag (q / 48) m y.fits.some y.fits.marks _ (rw same at (y.flags d i)) ∙ here));
      }

  pub flag_kept : KeptAt s p' q (flag_today flag x)
  unfolding flag_today
  flag_kept = record {
    identity = g.identity;
    clock = g.clock;
    energy = g.energy;
    demand = g.demand;
    running = g.running;
    no_flags = λ d l. other d (omega arith) ∙ g.no_flags d l;
    store = rw (cap_is s p q x g, day_is s p q x g) store_flag;
  }

module _ (s : SetUp) (p : Tape) (q : ℕ) (x : Mem) (g : KeptAt s p q x) where
  pub meter_kept : KeptAt s (metered (q / 48) p) q (flag_today 64 x)
  unfolding flags_of
  meter_kept =
      let f = p.flags in
      flag_kept s p q 64 x g (metered (q / 48) p).flags
      (rw (mark_here (q / 48) f.meter) (with_meter f (q / 48)))
      (λ d ne. rw (mark_other (q / 48) f.meter d ne))

  -- the demands of a Reset, and then its flag
  abbrev peak : ℕ
  peak = peak_of s p.counts p.demands.since q

  cleared_kept : x.recorder.clock.time < 3155760000
      → KeptAt s (record { counts = p.counts; marks = p.marks; flags = p.flags; demands = (reset_on q (q / 48) peak p).demands }) q (with x (was_reset x.recorder))
  unfolding largest
  cleared_kept century = let d = g.demand in record {
    identity = g.identity;
    clock = g.clock;
    energy = g.energy;
    demand = record {
      since = omega arith;
      current = let none : q - q ≡ 0 = omega arith in rw none;
      previous = d.current;
      previous_few = omega (arith, largest_le (units_of s p.counts) p.demands.since (q - p.demands.since) g.energy.slow);
      cumulative = sum x.recorder.demand.cumulative.0 p.demands.cumulative x.recorder.demand.current.0 peak d.cumulative d.current;
      reset = omega (arith, g.clock.here);
      date = omega (arith, g.clock.here);
      count = one_more x.recorder.demand.count p.demands.resets d.count;
      never = λ f. absurd (omega arith);
    };
    running = g.running;
    no_flags = g.no_flags;
    store = record { fits = g.store.fits; values = g.store.values; marks = g.store.marks; flags = g.store.flags };
  }
    where
      sum : (a b c e : ℕ) → a ≡ b % demand_round → c ≡ e → (a + c) % demand_round ≡ (b + e) % demand_round
      sum a b c e p1 p2 = omega arith

      one_more : (a b : ℕ) → a ≡ b % count_round → (a + 1) % count_round ≡ (b + 1) % count_round
      one_more a b p1 = omega arith

  pub reset_kept : x.recorder.clock.time < 3155760000 → KeptAt s (reset_on q (q / 48) peak p) q (flag_today 32 (with x (was_reset x.recorder)))
  unfolding flags_of
  reset_kept century =
      let f = p.flags in
      flag_kept s _ q 32 _ (cleared_kept century) (reset_on q (q / 48) peak p).flags
      (rw (mark_here (q / 48) f.reset) (with_reset f (q / 48)))
      (λ d ne. rw (mark_other (q / 48) f.reset d ne))
