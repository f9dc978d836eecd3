-- What a recorder in range has of its numbers, as plain bounds group by group, and back.
-- Assumes nothing.
use Prim.Native.Nat.{ℕ, ◌+◌, ◌/◌, ◌<◌, ◌≤◌}
use mathlib.Core.Bool.{true}
use mathlib.Core.Path.{◌≡◌}
use borrow.Author.Tests.{ltb-true, leb-true, lt-ltb, le-leb}
use lib.Dec.{leb}
use lib.ListN.{get_or}
use Rattle.calendar.specs.Calendar.{days_in_all}
use Rattle.calendar.specs.Clock.{seconds_of_day, times_in_all}
use Rattle.format.specs.Identifier.{ident_ok}
use Rattle.laws.specs.Tests.{all_true}
use Rattle.laws.proofs.Bools.{both, both_of}
use Rattle.laws.proofs.Tests.{all_true_each, all_true_of, all_at, all_of}
use Rattle.quantity.specs.Units.{total_round, reading_round, demand_round}
use Rattle.registers.specs.declared.Demand.{Demand}
use Rattle.registers.specs.declared.Energy.{Energy}
use Rattle.registers.specs.declared.Present.{Present}
use Rattle.registers.specs.Demand.{demand_tests, demand_ok, count_round}
use Rattle.registers.specs.Energy.{least_weight, most_weight, rate_count, rate_test, rates_ok, no_energy, energy_tests, energy_ok, Countable}
use Rattle.registers.specs.Present.{present_tests, present_ok}
use Rattle.recorder.specs.declared.Identity.{Identity}
use Rattle.recorder.specs.Recorder.{Recorder, cap_of}
use Rattle.recorder.specs.Range.{identity_tests, groups, in_range}

pub record IdentityRanges (i : Identity) : Type 0 where
  pub identifier : ident_ok i.identifier 0 ≡ true
  pub low : least_weight ≤ i.weight.0
  pub high : i.weight.0 ≤ most_weight

pub record PresentRanges (cap : ℕ) (p : Present) : Type 0 where
  pub time : p.time < times_in_all
  pub low : 1 ≤ p.days
  pub high : p.days ≤ cap
  pub past : p.days ≤ p.time / seconds_of_day + 1

pub record EnergyRanges (e : Energy) : Type 0 where
  pub total : e.total.0 < total_round
  pub low : 1 ≤ e.rate
  pub high : e.rate ≤ rate_count
  pub rates : (i : ℕ) → i < rate_count → (get_or e.rates i no_energy).0 < total_round

pub record DemandRanges (d : Demand) : Type 0 where
  pub current : d.current.0 < demand_round
  pub previous : d.previous.0 < demand_round
  pub cumulative : d.cumulative.0 < demand_round
  pub reset : d.reset ≤ days_in_all
  pub count : d.count < count_round

pub record Ranges (r : Recorder) : Type 0 where
  pub identity : IdentityRanges r.identity
  pub clock : PresentRanges (cap_of r) r.clock
  pub energy : EnergyRanges r.energy
  pub demand : DemandRanges r.demand
  pub base : r.running.base.0 < reading_round

-- from a test to its bounds
from_identity : (i : Identity) → all_true (identity_tests i) ≡ true → IdentityRanges i
from_identity i e =
    let t = all_true_each (identity_tests i) e in
    let w = both (leb least_weight i.weight.0) (leb i.weight.0 most_weight) t.1.0 in
    record { identifier = t.0; low = leb-true _ _ w.0; high = leb-true _ _ w.1 }

from_present : (cap : ℕ) (p : Present) → present_ok cap p ≡ true → PresentRanges cap p
from_present cap p e =
    let t = all_true_each (present_tests cap p) e in
    record { time = ltb-true _ _ t.0; low = leb-true _ _ t.1.0; high = leb-true _ _ t.1.1.0; past = leb-true _ _ t.1.1.1.0 }

from_energy : (n : Energy) → energy_ok n ≡ true → EnergyRanges n
unfolding rates_ok
from_energy n e =
    let t = all_true_each (energy_tests n) e in
    let a = both (leb 1 n.rate) (leb n.rate rate_count) t.1.0 in
    record {
      total = ltb-true _ _ t.0;
      low = leb-true _ _ a.0;
      high = leb-true _ _ a.1;
      rates = λ k l. ltb-true _ _ (all_at (rate_test n.rates) rate_count t.1.1.0 k l);
    }

from_demand : (d : Demand) → demand_ok d ≡ true → DemandRanges d
from_demand d e =
    let t = all_true_each (demand_tests d) e in
    record {
      current = ltb-true _ _ t.0;
      previous = ltb-true _ _ t.1.0;
      cumulative = ltb-true _ _ t.1.1.0;
      reset = leb-true _ _ t.1.1.1.0;
      count = ltb-true _ _ t.1.1.1.1.0;
    }

pub ranges : (r : Recorder) → in_range r ≡ true → Ranges r
unfolding in_range
ranges r e =
    let g = all_true_each (groups r) e in
    record {
      identity = from_identity r.identity g.0;
      clock = from_present (cap_of r) r.clock g.1.0;
      energy = from_energy r.energy g.1.1.0;
      demand = from_demand r.demand g.1.1.1.0;
      base = ltb-true _ _ g.1.1.1.1.0;
    }

-- and back
to_identity : (i : Identity) → IdentityRanges i → all_true (identity_tests i) ≡ true
to_identity i g =
    all_true_of (identity_tests i)
    (g.identifier, (both_of (leb least_weight i.weight.0) (leb i.weight.0 most_weight) (le-leb _ _ g.low) (le-leb _ _ g.high), tt))

to_present : (cap : ℕ) (p : Present) → PresentRanges cap p → present_ok cap p ≡ true
to_present cap p g = all_true_of (present_tests cap p) (lt-ltb _ _ g.time, (le-leb _ _ g.low, (le-leb _ _ g.high, (le-leb _ _ g.past, tt))))

to_energy : (n : Energy) → EnergyRanges n → energy_ok n ≡ true
unfolding rates_ok
to_energy n g =
    all_true_of (energy_tests n) (
      lt-ltb _ _ g.total,
      (
        both_of (leb 1 n.rate) (leb n.rate rate_count) (le-leb _ _ g.low) (le-leb _ _ g.high),
        (all_of (rate_test n.rates) rate_count (λ k l. lt-ltb _ _ (g.rates k l)), tt),
      ),
    )

to_demand : (d : Demand) → DemandRanges d → demand_ok d ≡ true
to_demand d g =
    all_true_of (demand_tests d)
    (lt-ltb _ _ g.current, (lt-ltb _ _ g.previous, (lt-ltb _ _ g.cumulative, (le-leb _ _ g.reset, (lt-ltb _ _ g.count, tt)))))

pub in_range_lem : (r : Recorder) → Ranges r → in_range r ≡ true
unfolding in_range
in_range_lem r g =
    all_true_of (groups r)
    (to_identity r.identity g.identity, (to_present (cap_of r) r.clock g.clock, (to_energy r.energy g.energy, (to_demand r.demand g.demand, (lt-ltb _ _ g.base, tt)))))

pub countable : (r : Recorder) → Ranges r → Countable r.identity.weight r.energy
countable r g = record { weight = g.identity.high; total = g.energy.total; low = g.energy.low; high = g.energy.high }
