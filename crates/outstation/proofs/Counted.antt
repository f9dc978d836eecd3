-- Each rate register has the energy of the Counts accepted while its rate was active.
-- Assumes nothing.
use Prim.Native.Nat.{ℕ, suc, ◌+◌, ◌-◌, ◌%◌, ◌<◌, ◌≤◌}
use mathlib.Core.Path.{◌≡◌, refl, sym, ap, ◌∙◌}
use mathlib.Core.Bool.{Bool, true, false, cond}
use mathlib.Core.List.{List, [], ◌∷◌}
use lib.Dec.{eqb}
use lib.ListN.{length, get_or, set, length-set}
use lib.Seq.{get_or-set_other, get_or-set_same}
use native.Mathlib.Omega.{arith}
use borrow.Author.Tests.{eq-eqb, ne_eqb, eqb-true, eqb-false}
use Rattle.laws.proofs.Split.{by_test}
use Rattle.quantity.specs.declared.MilliwattHours.{MilliwattHours}
use Rattle.quantity.specs.Units.{total_round, energy_sum}
use Rattle.registers.specs.declared.Energy.{Energy}
use Rattle.registers.specs.Energy.{rate_count, no_energy, added_of, energy_counted}
use Rattle.recorder.specs.declared.Event.{Event}
use Rattle.recorder.specs.declared.Event.TheVariants.{Count, Clock, Off, On, Access, Meter, Reset, Rate, Reverse, Ppp, Adjust}
use Rattle.registers.specs.Shift.{shifted}
use Rattle.recorder.specs.Recorder.{Mem, with}
use Rattle.recorder.specs.Boundary.{advance_to}
use Rattle.recorder.specs.Effect.{accessed, flag_from, flag_today, after as effect}
use Rattle.recorder.specs.Answer.{answer_of as step_answer}
use Rattle.recorder.specs.Step.{step}
use Rattle.recorder.proofs.Kept.{Sound}
use Rattle.outstation.specs.declared.Phase.TheVariants.{Single}
use Rattle.outstation.specs.Outstation.{most_rate, Site, Happening, of, load, single, tells_time, answer_of, happens, run}
use Rattle.outstation.specs.Lives.{energy_in, counted_at, register}
use Rattle.outstation.proofs.Steps.{time_energy}
use Rattle.outstation.proofs.Runs.{Going, event_zero}
use Rattle.outstation.proofs.Agreeing.{goes_on}

abbrev rates_of : Mem → List MilliwattHours
rates_of y = y.recorder.energy.rates

-- ---- the registers after one event

time_rates : (t : ℕ) (y : Mem) → rates_of (advance_to t y) ≡ rates_of y
time_rates t y = ap (λ (e : Energy). e.rates) (time_energy t y)

-- what an event other than Count leaves: refused all, accepted these
step_rates : (y : Mem) (e : Event) → rates_of (effect y e) ≡ rates_of y → rates_of (step y e).after ≡ rates_of y
unfolding step
step_rates y e same = by_test (eqb (step_answer y e) 0) (λ h. rw h same) (λ h. rw h)

happens_rates : (x : Site) (e : Event) → rates_of (effect x.mem e) ≡ rates_of x.mem → rates_of (happens x (of e)).after.mem ≡ rates_of x.mem
unfolding happens
happens_rates x e same =
    let stepped = step_rates x.mem e same in
    by_test (eqb (answer_of x (of e)) 0)
    (λ h. rw h (by_test (tells_time e) (λ t. rw t stepped) (λ t. rw t stepped)))
    (λ h. rw h)

load_rates : (x : Site) (b : List ℕ) → rates_of (happens x (load b)).after.mem ≡ rates_of x.mem
unfolding happens
load_rates x b = by_test (eqb (answer_of x (load b)) 0) (λ h. rw h) (λ h. rw h)

pub single_rates : (x : Site) → rates_of (happens x single).after.mem ≡ rates_of x.mem
unfolding happens
single_rates x = by_test (eqb (answer_of x single) 0) (λ h. rw h) (λ h. rw h)

-- ---- each register after what happens

abbrev active : Site → ℕ
active x = x.mem.recorder.energy.rate

record Moved (x : Site) (h : Happening) : Type 0 where
  long : length (rates_of (happens x h).after.mem) ≡ rate_count
  each : (i : ℕ) → i < rate_count → register (happens x h).after i ≡ (register x i + cond (eqb (active x) (suc i)) (energy_in x h) 0) % total_round

same : (b : Bool) (n : ℕ) → n < total_round → n ≡ (n + cond b 0 0) % total_round
same true n l = omega arith
same false n l = omega arith

module _ (x : Site) (s : Sound x.mem) (l : length (rates_of x.mem) ≡ rate_count) where
  stays : (h : Happening) → energy_in x h ≡ 0 → rates_of (happens x h).after.mem ≡ rates_of x.mem → Moved x h
  stays h none e = record {
    long = ap (λ (r : List MilliwattHours). length r) e ∙ l;
    each = λ i k. ap (λ (r : List MilliwattHours). (get_or r i no_energy).0) e ∙ rw none (same (eqb (active x) (suc i)) (register x i) (s.ranges.energy.rates i k));
  }

  added : (w : MilliwattHours) (i : ℕ) → i < rate_count
      → (get_or (set (rates_of x.mem) (active x - 1) (energy_sum (get_or (rates_of x.mem) (active x - 1) no_energy) w)) i no_energy).0
      ≡ (register x i + cond (eqb (active x) (suc i)) w.0 0) % total_round
  added w i k =
      let rs = rates_of x.mem in
      let low = s.ranges.energy.low in
      let high = s.ranges.energy.high in
      by_test (eqb (active x) (suc i))
      (λ h.
      let at : active x - 1 ≡ i = let e = eqb-true (active x) (suc i) h in omega arith in
      rw (h, at) (ap (λ (a : MilliwattHours). a.0) (get_or-set_same rs i (energy_sum (get_or rs i no_energy) w) no_energy (omega (arith, l, k)))))
      (λ h.
      let other : i ≡ active x - 1 → ⊥ = λ e. eqb-false (active x) (suc i) h (omega (arith, low, e)) in
      rw h
      (ap (λ (a : MilliwattHours). a.0) (get_or-set_other rs (active x - 1) i (energy_sum (get_or rs (active x - 1) no_energy) w) no_energy other)
      ∙ same false (register x i) (s.ranges.energy.rates i k)))

  counts : (c : ℕ) → Moved x (of (Count c))
  unfolding happens step effect energy_counted
  counts c =
      by_test (eqb (answer_of x (of (Count c))) 0)
      (λ h.
      let z : step_answer x.mem (Count c) ≡ 0 = event_zero x (Count c) (eqb-true (answer_of x (of (Count c))) 0 h) in
      record {
        long = rw (h, eq-eqb (step_answer x.mem (Count c)) 0 z) (length-set (rates_of x.mem) (active x - 1) _ ∙ l);
        each = λ i k. rw (h, eq-eqb (step_answer x.mem (Count c)) 0 z) (added (added_of x.mem.recorder.identity.weight x.mem.recorder.energy.last c) i k);
      })
      (λ h. record { long = rw h l; each = λ i k. rw h (same (eqb (active x) (suc i)) (register x i) (s.ranges.energy.rates i k)) })

  moved : (h : Happening) → Moved x h
  unfolding effect flag_from flag_today
  moved (of (Count c)) = counts c
  moved (of (Clock t)) = stays (of (Clock t)) refl (happens_rates x (Clock t) (time_rates t x.mem))
  moved (of Off) = stays (of Off) refl (happens_rates x Off refl)
  moved (of (On t)) = stays (of (On t)) refl (happens_rates x (On t) (time_rates t x.mem))
  moved (of Access) = stays (of Access) refl (happens_rates x Access refl)
  moved (of (Meter c)) = stays (of (Meter c)) refl (happens_rates x (Meter c) refl)
  moved (of Reset) = stays (of Reset) refl (happens_rates x Reset refl)
  moved (of (Rate n)) = stays (of (Rate n)) refl (happens_rates x (Rate n) refl)
  moved (of Reverse) = stays (of Reverse) refl (happens_rates x Reverse refl)
  moved (of (Ppp a b c)) = stays (of (Ppp a b c)) refl (happens_rates x (Ppp a b c) refl)
  moved (of (Adjust h)) = stays (of (Adjust h)) refl (happens_rates x (Adjust h) (time_rates (shifted x.mem.recorder.clock.time h) (with x.mem (accessed x.mem.recorder))))
  moved (load b) = stays (load b) refl (load_rates x b)
  moved single = stays single refl (single_rates x)

-- ---- and after all

sums : (r a b : ℕ) → ((r + a) % total_round + b) % total_round ≡ (r + (a + b)) % total_round
sums r a b = omega arith

pub counted : (hs : List Happening) (x : Site) → Going x → length (rates_of x.mem) ≡ rate_count → (i : ℕ) → i < rate_count
    → register (run x hs) i ≡ (register x i + counted_at (suc i) x hs) % total_round
unfolding run counted_at
counted [] x g l i k = let r = g.sound.ranges.energy.rates i k in omega arith
counted (h ∷ hs) x g l i k =
    let m = moved x g.sound l h in
    counted hs (happens x h).after (goes_on x h g) m.long i k
    ∙ rw (m.each i k) (sums (register x i) (cond (eqb (active x) (suc i)) (energy_in x h) 0) (counted_at (suc i) (happens x h).after hs))

pub long : (hs : List Happening) (x : Site) → Going x → length (rates_of x.mem) ≡ rate_count → length (rates_of (run x hs).mem) ≡ rate_count
unfolding run
long [] x g l = l
long (h ∷ hs) x g l = long hs (happens x h).after (goes_on x h g) (moved x g.sound l h).long

-- ---- once it is single phase

single_stays : (x : Site) (h : Happening) → x.phase ≡ Single → (happens x h).after.phase ≡ Single
unfolding happens
single_stays x (of e) p = by_test (eqb (answer_of x (of e)) 0) (λ z. rw z (by_test (tells_time e) (λ t. rw t p) (λ t. rw t p))) (λ z. rw z p)
single_stays x (load b) p = by_test (eqb (answer_of x (load b)) 0) (λ z. rw z p) (λ z. rw z p)
single_stays x single p = by_test (eqb (answer_of x single) 0) (λ z. rw z) (λ z. rw z p)

pub stays_single : (hs : List Happening) (x : Site) → x.phase ≡ Single → (run x hs).phase ≡ Single
unfolding run
stays_single [] x p = p
stays_single (h ∷ hs) x p = stays_single hs (happens x h).after (single_stays x h p)

-- a register above the highest rate is not the active one's
module _ (i : ℕ) (high : most_rate Single ≤ i) (k : i < rate_count) where
  other : (x : Site) → Going x → x.phase ≡ Single → eqb (active x) (suc i) ≡ false
  other x g p = let l = g.keeps.low in let m = ap most_rate p in ne_eqb (active x) (suc i) (λ e. omega (arith, l, m, high, e))

  pub stands : (hs : List Happening) (x : Site) → Going x → length (rates_of x.mem) ≡ rate_count → x.phase ≡ Single → register (run x hs) i ≡ register x i
  unfolding run
  stands [] x g l p = refl
  stands (h ∷ hs) x g l p =
      let m = moved x g.sound l h in
      stands hs (happens x h).after (goes_on x h g) m.long (single_stays x h p)
      ∙ m.each i k
      ∙ rw (other x g p) (sym (same false (register x i) (g.sound.ranges.energy.rates i k)))
