-- Boundaries one after another: once the running half-hour has ended, the others touch the store and the clock alone.
-- Assumes nothing.
use Prim.Native.Nat.{ℕ, zero, suc, ◌+◌, ◌-◌, ◌*◌, ◌/◌, ◌%◌, ◌<◌, ◌≤◌, max, min}
use mathlib.Core.Bool.{Bool, true}
use mathlib.Core.List.{List}
use mathlib.Core.Path.{◌≡◌, refl, sym, ap, ◌∙◌}
use native.Mathlib.Decide.{dec_lt}
use native.Mathlib.Omega.{arith}
use borrow.Author.Tests.{eqb-true, eqb-false}
use lib.Dec.{eqb}
use Rattle.laws.specs.Each.{each, for_to}
use Rattle.laws.proofs.Loop.{for_on}
use Rattle.laws.proofs.Split.{by_test, by_dec}
use Rattle.quantity.specs.declared.RegisterUnits.{RegisterUnits}
use Rattle.quantity.specs.Units.{centi_kilowatts, last_four}
use Rattle.registers.specs.declared.Demand.{Demand}
use Rattle.registers.specs.declared.Present.{Present}
use Rattle.registers.specs.Demand.{demand_raised, demand_closed}
use Rattle.registers.specs.Energy.{running_from}
use Rattle.registers.specs.Present.{present_at}
use Rattle.calendar.specs.Clock.{seconds_of_day, seconds_of_half, halves_of_day}
use Rattle.registers.specs.Present.{halves_in_all}
use Rattle.store.specs.Store.{Store, store, turned, pass_at, passed, gone}
use Rattle.store.specs.Store as onward
use Rattle.store.proofs.Laws.{gone_fits}
use Rattle.recorder.specs.Recorder.{Recorder, Mem, mem, with, cap_of, half_of, reading_now, with_clock, with_demand, with_running}
use Rattle.recorder.specs.Boundary.{ended, days_after, close_one, close_at, advance_to, gone_to, store_at}
use Rattle.recorder.specs.Needs.{Good, Goes}

-- a half-hour that begins and ends at one reading has no demand, so a second end changes nothing
no_advance : (n : ℕ) → 2 * ((n % 10000 % 10000 + 10000 - n % 10000 % 10000) % 10000 % 10000) ≡ 0
no_advance n = omega arith

raised_none : (d : Demand) → demand_raised (centi_kilowatts 0) d ≡ d
raised_none d =
    let e : max d.current.0 0 ≡ d.current.0 = omega arith in
    ap {B = Demand} (λ (k : ℕ). record { current = centi_kilowatts k; previous = d.previous; cumulative = d.cumulative; reset = d.reset; count = d.count }) e

ended_twice : (r : Recorder) → ended (ended r) ≡ ended r
unfolding ended
ended_twice r =
    let begun = with_running (running_from (reading_now r)) r in
    let d = demand_closed r.energy r.running r.demand in
    ap (λ (k : ℕ). with_demand (demand_raised (centi_kilowatts k) d) begun) (no_advance (reading_now r).0)
    ∙ ap (λ (e : Demand). with_demand e begun) (raised_none d)

-- a recorder at a time, with so many days stored, beside a store
abbrev at : ℕ → Bool → ℕ → Recorder → Store → Mem
at t on days r s = record { recorder = with_clock (record { time = t; on = on; days = days }) r; store = s }

-- a boundary that ends a half-hour just begun, i
abbrev passes : Recorder → ℕ → Store → Store
passes r i s = pass_at (cap_of r) (last_four (reading_now r)).0 (reading_now r).0 i s

one_passed : (i days : ℕ) (on : Bool) (r : Recorder) (s : Store)
    → close_one (at (i * seconds_of_half) on days (ended r) s) ≡ at ((i + 1) * seconds_of_half) on (days_after (cap_of r) i days) (ended r) (passes r i s)
unfolding close_one ended
one_passed i days on r s =
    let h : i * seconds_of_half / seconds_of_half ≡ i = omega arith in
    ap (λ (k : ℕ). at ((k + 1) * seconds_of_half) on (days_after (cap_of r) k days) (ended (ended r)) (passes r k s)) h
    ∙ ap (λ (q : Recorder). at ((i + 1) * seconds_of_half) on (days_after (cap_of r) i days) q (passes r i s)) (ended_twice r)

-- the days stored, boundary by boundary and at one go
days_few : (cap i days : ℕ) → days ≤ cap → days_after cap i days ≤ cap
days_few cap i days l = by_test (eqb ((i + 1) % halves_of_day) 0) (λ t. rw t (omega arith)) (λ t. rw t l)

days_on : (cap i n days : ℕ) → days ≤ cap
    → min cap (days_after cap i days + ((i + 1 + n) / halves_of_day - (i + 1) / halves_of_day)) ≡ min cap (days + ((i + 1 + n) / halves_of_day - i / halves_of_day))
days_on cap i n days l =
    by_test (eqb ((i + 1) % halves_of_day) 0)
    (λ t. rw t (let h : (i + 1) % halves_of_day ≡ 0 = eqb-true _ _ t in omega arith))
    (λ t. rw t (let h : (i + 1) % halves_of_day ≡ 0 → ⊥ = eqb-false _ _ t in omega arith))

-- n such boundaries from i on
passed_over : (n i days : ℕ) (on : Bool) (r : Recorder) (s : Store) → days ≤ cap_of r
    → each close_at i n (at (i * seconds_of_half) on days (ended r) s)
    ≡ at ((i + n) * seconds_of_half) on (min (cap_of r) (days + ((i + n) / halves_of_day - i / halves_of_day))) (ended r) (each (pass_at (cap_of r) (last_four (reading_now r)).0 (reading_now r).0) i n s)
unfolding each
passed_over zero i days on r s l =
    let t : i + 0 ≡ i = omega arith in
    let d : min (cap_of r) (days + (i / halves_of_day - i / halves_of_day)) ≡ days = omega arith in
    rw (t, d)
passed_over (suc n) i days on r s l =
    let t : i + suc n ≡ i + 1 + n = omega arith in
    rw (one_passed i days on r s, t, ← days_on (cap_of r) i n days l)
    (passed_over n (i + 1) (days_after (cap_of r) i days) on r (passes r i s) (days_few (cap_of r) i days l))

-- all from the running half-hour up to a later one, n
all_closed : (n : ℕ) (x : Mem) → x.recorder.clock.days ≤ cap_of x.recorder → half_of x.recorder < n
    → for_to close_at (half_of x.recorder) n x
    ≡ at (n * seconds_of_half) x.recorder.clock.on (min (cap_of x.recorder) (x.recorder.clock.days + (n / halves_of_day - half_of x.recorder / halves_of_day))) (ended x.recorder) (store_at n x.recorder x.store)
unfolding close_one passed gone
all_closed n x few l =
    let r = x.recorder in
    let q = half_of r in
    let k = n - (q + 1) in
    let e : q + 1 + k ≡ n = omega arith in
    for_on close_at q n x l
    ∙ passed_over k (q + 1) (days_after (cap_of r) q r.clock.days) r.clock.on r
    (turned (cap_of r) q (last_four (reading_now r)).0 (reading_now r).0 r.running.reverse r.running.level2 x.store) (days_few (cap_of r) q r.clock.days few)
    ∙ rw (days_on (cap_of r) q k r.clock.days few, e)

-- Clock(t) within the running half-hour, and past its end
pub stayed : (t : ℕ) (x : Mem) → Goes t x → half_of x.recorder ≡ t / seconds_of_half → advance_to t x ≡ with x (with_clock (present_at (cap_of x.recorder) t x.recorder.clock) x.recorder)
unfolding advance_to each
stayed t x g e =
    let r = x.recorder in
    let z : t / seconds_of_half - half_of r ≡ 0 = omega arith in
    let d : min (cap_of r) (r.clock.days + (t / seconds_of_day - r.clock.time / seconds_of_day)) ≡ r.clock.days = omega (arith, g.good.days) in
    rw (z, d)

pub went : (t : ℕ) (x : Mem) → Goes t x → half_of x.recorder < t / seconds_of_half
    → advance_to t x ≡ record { recorder = gone_to t x.recorder; store = store_at (t / seconds_of_half) x.recorder x.store }
unfolding advance_to
went t x g l =
    let r = x.recorder in
    let d : t / seconds_of_half / halves_of_day - half_of r / halves_of_day ≡ t / seconds_of_day - r.clock.time / seconds_of_day = omega arith in
    ap (λ (y : Mem). with y (with_clock (record { time = t; on = true; days = y.recorder.clock.days }) y.recorder)) (all_closed (t / seconds_of_half) x g.good.days l)
    ∙ rw d

-- the identity stays
pub same_identity : (t : ℕ) (x : Mem) → Goes t x → (advance_to t x).recorder.identity ≡ x.recorder.identity
unfolding ended
same_identity t x g =
    by_dec (dec_lt (half_of x.recorder) (t / seconds_of_half))
    (λ l. ap (λ (y : Mem). y.recorder.identity) (went t x g l))
    (λ l. ap (λ (y : Mem). y.recorder.identity) (stayed t x g (let from = g.from in omega arith)))

-- so what is good stays good
pub gone_good : (t : ℕ) (x : Mem) → Goes t x → Good (advance_to t x)
unfolding ended
gone_good t x g =
    let r = x.recorder in
    by_dec (dec_lt (half_of r) (t / seconds_of_half))
    (λ l. rw (went t x g l)
    record {
      time = g.to;
      days = omega arith;
      total = g.good.total;
      fits = gone_fits (cap_of r) (half_of r) (t / seconds_of_half) (last_four (reading_now r)).0 (reading_now r).0 r.running.reverse r.running.level2 x.store (store_at (t / seconds_of_half) r x.store) refl g.good.fits;
    })
    (λ n. rw (stayed t x g (omega (arith, g.from))) record { time = g.to; days = omega (arith, g.good.days); total = g.good.total; fits = g.good.fits })

-- as the code goes about it: p is the present at t
module _ (t cap : ℕ) (r : Recorder) (p : Present) (v s m : List ℕ) (g : Goes t (mem r v s m)) (k : cap ≡ cap_of r) (a : p ≡ present_at cap t r.clock) where
  present : p ≡ present_at (cap_of r) t r.clock
  present = a ∙ rw k

  within : (n : ℕ) → n ≡ p.time / seconds_of_half → n ≡ t / seconds_of_half
  within n c = c ∙ ap (λ (q : Present). q.time / seconds_of_half) a

  pub still_here : (q n : ℕ) (y : Recorder) → q ≡ half_of r → n ≡ p.time / seconds_of_half → q ≡ n → y ≡ with_clock p r → mem y v s m ≡ advance_to t (mem r v s m)
  still_here q n y b c e f =
      ap {B = Mem} (λ (w : Recorder). record { recorder = w; store = store v s m }) (f ∙ ap (λ (w : Present). with_clock w r) present)
      ∙ sym (stayed t (mem r v s m) g (sym b ∙ e ∙ within n c))

  pub gone_on : (q n : ℕ) (y z : Recorder) (v₁ s₁ m₁ : List ℕ) → q ≡ half_of r → n ≡ p.time / seconds_of_half → (q ≡ n → ⊥)
      → store v₁ s₁ m₁ ≡ store_at n r (store v s m) → y ≡ ended r → z ≡ with_clock p y → mem z v₁ s₁ m₁ ≡ advance_to t (mem r v s m)
  gone_on q n y z v₁ s₁ m₁ b c ne e f h =
      let l : half_of r < t / seconds_of_half = omega (arith, g.from, within n c) in
      ap {B = Mem} (λ (w : Recorder). record { recorder = w; store = store v₁ s₁ m₁ }) (h ∙ rw (f, present))
      ∙ ap {B = Mem} (λ (w : Store). record { recorder = gone_to t r; store = w }) (e ∙ rw (within n c))
      ∙ sym (went t (mem r v s m) g l)

pub carried_on : (cap q n : ℕ) (u : RegisterUnits) (r : Recorder) (x y : Store) → cap ≡ cap_of r → q ≡ half_of r → u ≡ reading_now r
    → y ≡ gone cap q n (last_four u).0 u.0 r.running.reverse r.running.level2 x → y ≡ store_at n r x
carried_on cap q n u r x y a b c e = e ∙ rw (a, b, c)

pub carry_goes : (cap q : ℕ) (u : RegisterUnits) (r : Recorder) (v s m : List ℕ) → Good (mem r v s m) → cap ≡ cap_of r → q < halves_in_all → u ≡ reading_now r → onward.Goes cap q u (store v s m)
carry_goes cap q u r v s m g a l c = rw (a, c) record { turns = record { fits = g.fits; next = omega arith }; reading = omega (arith, g.total) }
