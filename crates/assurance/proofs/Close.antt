-- One boundary: the recorder and its store stay what the paper says, one half-hour on.
-- Assumes nothing.
use Prim.Native.Nat.{ℕ, suc, ◌+◌, ◌-◌, ◌*◌, ◌/◌, ◌%◌, ◌<◌, ◌≤◌, max, min}
use mathlib.Core.Path.{◌≡◌, refl, sym, ap, ◌∙◌}
use mathlib.Core.Bool.{Bool}
use native.Mathlib.Nat.{mod-mod}
use native.Mathlib.Numerals.{add-one}
use native.Mathlib.Decide.{dec_lt}
use native.Mathlib.Omega.{arith}
use lib.Dec.{eqb}
use lib.ListN.{get_or}
use borrow.Author.Tests.{eqb-true, eqb-false}
use Rattle.laws.proofs.Round.{round_less}
use Rattle.laws.proofs.Ring.{ring_apart}
use Rattle.laws.proofs.Split.{by_dec, by_test}
use Rattle.quantity.specs.Units.{unit_of, total_round, value_round, reading_at, value_at, last_four, advance}
use Rattle.store.specs.Store.{Store, Fits, closed, opened, turned}
use Rattle.store.proofs.Laws.{closed_fits, turned_fits}
use Rattle.registers.specs.Energy.{demand_since}
use Rattle.recorder.specs.declared.SetUp.{SetUp}
use Rattle.recorder.specs.declared.Recorder.{Recorder}
use Rattle.recorder.specs.Recorder.{Mem, reading_now}
use Rattle.recorder.specs.Boundary.{days_after, ended, close_one}
use Rattle.recorder.specs.Cause.{most_units}
use Rattle.assurance.specs.Paper.{Tape, total_at, units_of, flags_of, largest}
use Rattle.assurance.proofs.Kept.{Stored, EnergyKept, DemandKept, RunningKept, ValuesKept, MarksKept, StoreKept, KeptAt, cap_of, first_day, reached, cap_is}
use Rattle.assurance.proofs.Rooms.{closed_values, closed_marks, closed_flags, opened_values, opened_marks, opened_flags, new_values, new_marks, new_flags}

-- the difference modulo 10,000 is the units passed, if they are at most 9,999
pub advance_of_lem : (a b x y : ℕ) → a ≡ x % value_round → b ≡ y % value_round → y ≤ x → x - y ≤ most_units → advance b a ≡ x - y
advance_of_lem a b x y p q up slow = rw (p, q, mod-mod x value_round, mod-mod y value_round) (round_less value_round x y up (omega arith))

-- the largest takes one more
largest_on : (f : ℕ → ℕ) (from q : ℕ) → from ≤ q → largest f from (suc q - from) ≡ max (largest f from (q - from)) (f q)
unfolding largest
largest_on f from q l =
    let e : suc q - from ≡ suc (q - from) = omega arith in
    let at : from + (q - from) ≡ q = omega arith in
    rw (e, at)

-- ---- the store

module _ (s : SetUp) (p : Tape) (q : ℕ) (x : Store) (a w : ℕ) (b c : Bool) (g : StoreKept s p q x)
    (ea : a ≡ value_at (total_at s p.counts (suc q))) (eb : b ≡ p.marks.reverse q) (ec : c ≡ p.marks.level2 q) where
  abbrev y : Store
  y = closed (cap_of s) q a b c x

  fits : Fits (cap_of s) y
  fits = closed_fits (cap_of s) q a b c x y refl g.fits

  earlier : (d : ℕ) → Stored s (suc q) d → d ≤ q / 48 → Stored s q d
  earlier d i l = record { first = i.first; last = l; near = omega (arith, i.near) }

  -- where half-hour q is not the day's last
  goes_on : (suc q % 48 ≡ 0 → ⊥) → StoreKept s p (suc q) y
  goes_on no-midnight = record {
    fits = fits;
    values = λ d i. let j = earlier d i (omega (arith, i.last)) in closed_values s q x g.fits a b c d j p.counts ea (g.values d j);
    marks = λ d i. let j = earlier d i (omega (arith, i.last)) in closed_marks s q x g.fits a b c d j p.marks eb ec (g.marks d j);
    flags = λ d i. let j = earlier d i (omega (arith, i.last)) in closed_flags s q x g.fits a b c d j ∙ g.flags d j;
  }

  -- at midnight the next day opens
  module _ (mid : suc q % 48 ≡ 0) (ew : w ≡ reading_at (total_at s p.counts (suc q))) (ef : flags_of p.flags (suc q / 48) ≡ 0) where
    abbrev e : ℕ
    e = suc q / 48

    abbrev z : Store
    z = opened (cap_of s) e w y

    split : (P : ℕ → Type 0) (d : ℕ) → Stored s (suc q) d → (Stored s q d → (d % cap_of s ≡ e % cap_of s → ⊥) → P d) → P e → P d
    split P d i other here =
        by_dec (dec_lt d e)
        (λ l. other (earlier d i (omega arith)) (ring_apart (cap_of s) d e l i.near))
        (λ l. let same : d ≡ e = omega (arith, i.last) in rw same here)

    none : reached (suc q) e ≡ 0
    none = omega arith

    at : 48 * e ≡ suc q
    at = omega arith

    new_day : Fits (cap_of s) z → StoreKept s p (suc q) z
    new_day long = record {
      fits = long;
      values = λ d i. split (λ d. ValuesKept s p.counts d (reached (suc q) d) (d % cap_of s) z.values z.starts) d i
          (λ j ne. opened_values (cap_of s) y e w (d % cap_of s) ne s p.counts d (reached (suc q) d) (closed_values s q x g.fits a b c d j p.counts ea (g.values d j)))
          (rw none (new_values (cap_of s) y fits e w s p.counts (rw at ew)));
      marks = λ d i. split (λ d. MarksKept p.marks d (reached (suc q) d) (d % cap_of s) z.marks) d i
          (λ j ne. opened_marks (cap_of s) y e w (d % cap_of s) ne p.marks d (reached (suc q) d) (closed_marks s q x g.fits a b c d j p.marks eb ec (g.marks d j)))
          (rw none (new_marks (cap_of s) y fits e w p.marks));
      flags = λ d i. split (λ d. get_or z.marks (d % cap_of s * 3 + 2) 0 ≡ flags_of p.flags d) d i
          (λ j ne. opened_flags (cap_of s) y e w (d % cap_of s) ne ∙ closed_flags s q x g.fits a b c d j ∙ g.flags d j)
          (new_flags (cap_of s) y fits e w ∙ sym ef);
    }

pub turned_kept : (s : SetUp) (p : Tape) (q : ℕ) (x : Store) (a w : ℕ) (b c : Bool) → StoreKept s p q x
    → a ≡ value_at (total_at s p.counts (suc q)) → w ≡ reading_at (total_at s p.counts (suc q))
    → b ≡ p.marks.reverse q → c ≡ p.marks.level2 q → ((d : ℕ) → q / 48 < d → flags_of p.flags d ≡ 0)
    → StoreKept s p (suc q) (turned (cap_of s) q a w b c x)
unfolding turned
turned_kept s p q x a w b c g ea ew eb ec none =
    let long = turned_fits (cap_of s) q a w b c x (turned (cap_of s) q a w b c x) refl g.fits in
    rw (add-one q)
    (by_test (eqb (suc q % 48) 0)
    (λ t.
    let mid = eqb-true (suc q % 48) 0 t in
    rw t (new_day s p q x a w b c g ea eb ec mid ew (none (suc q / 48) (omega arith)) (rw (add-one q, t) at long)))
    (λ t. rw t (goes_on s p q x a w b c g ea eb ec (eqb-false (suc q % 48) 0 t))))

-- ---- the registers

module _ (s : SetUp) (p : Tape) (q : ℕ) (x : Mem) (g : KeptAt s p q x) where
  abbrev r : Recorder
  r = x.recorder

  value_is : (last_four (reading_now r)).0 ≡ value_at (total_at s p.counts (suc q))
  value_is = omega (arith, g.energy.total)

  reading_is : (reading_now r).0 ≡ reading_at (total_at s p.counts (suc q))
  reading_is = omega (arith, g.energy.total)

  -- the advance modulo 10,000 is the units of the half-hour
  demand_is : (demand_since r.running.base r.energy).0 ≡ 2 * units_of s p.counts q
  unfolding units_of
  demand_is =
      let e = advance_of_lem (last_four (reading_now r)).0 (r.running.base.0 % value_round) (total_at s p.counts (suc q) / unit_of) (total_at s p.counts q / unit_of)
      value_is (omega (arith, g.running.base)) (omega (arith, g.energy.up q)) (g.energy.slow q) in
      omega (arith, g.energy.slow q)

  energy_on : EnergyKept s p.counts (suc q) r.energy
  energy_on = let e = g.energy in record {
    up = e.up;
    slow = e.slow;
    flat = λ h l. e.flat h (omega arith) ∙ sym (e.flat (suc (suc q)) (omega arith));
    total = e.total ∙ ap (λ (n : ℕ). n % total_round) (sym (e.flat (suc (suc q)) (omega arith)));
    rates_long = e.rates_long;
    rates = e.rates;
    rate_low = e.rate_low;
    rate_high = e.rate_high;
  }

  demand_on : DemandKept s p.counts p.demands (suc q) (ended r).demand
  unfolding ended
  demand_on = let d = g.demand in record {
    since = omega (arith, d.since);
    current = rw (largest_on (units_of s p.counts) p.demands.since q d.since, d.current) (omega (arith, demand_is));
    previous = d.previous;
    previous_few = d.previous_few;
    cumulative = d.cumulative;
    reset = d.reset;
    date = d.date;
    count = d.count;
    never = d.never;
  }

  running_on : RunningKept s p.counts p.marks (suc q) (ended r).running
  unfolding ended
  running_on = let m = g.running in record {
    base = reading_is;
    reverse = sym (m.no_reverse (suc q) (omega arith));
    level2 = sym (m.no_level2 (suc q) (omega arith));
    no_reverse = λ h l. m.no_reverse h (omega arith);
    no_level2 = λ h l. m.no_level2 h (omega arith);
  }

  days_on : days_after (cap_of s) q r.clock.days ≡ min (cap_of s) (suc q / 48 + 1 - first_day s)
  days_on =
      rw (add-one q)
      (by_test (eqb (suc q % 48) 0)
      (λ t. let mid = eqb-true (suc q % 48) 0 t in rw t (omega (arith, g.clock.days, g.clock.begun, g.store.fits.some)))
      (λ t. let same : suc q / 48 ≡ q / 48 = omega (arith, eqb-false (suc q % 48) 0 t) in rw (t, same) g.clock.days))

  pub close_on : KeptAt s p (suc q) (close_one x)
  unfolding close_one ended
  close_on = record {
    identity = g.identity;
    clock = record { begun = omega (arith, g.clock.begun); here = omega (arith, g.clock.here); days = rw (cap_is s p q x g, g.clock.here) days_on };
    energy = energy_on;
    demand = demand_on;
    running = running_on;
    no_flags = λ d l. g.no_flags d (omega arith);
    store =
        rw (cap_is s p q x g, g.clock.here)
        (turned_kept s p q x.store _ _ _ _ g.store value_is reading_is g.running.reverse g.running.level2 g.no_flags);
  }
