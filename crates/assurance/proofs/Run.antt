-- The run: after an accepted set-up and any list of events, refused ones among them, the recorder and its store are what the paper says.
-- Assumes nothing.
use Prim.Native.Nat.{ℕ, suc, ◌+◌, ◌-◌, ◌/◌, ◌%◌, ◌<◌, ◌≤◌}
use mathlib.Core.Path.{◌≡◌, refl, sym, ap, ◌∙◌, subst}
use mathlib.Core.Bool.{true, false, not}
use mathlib.Core.List.{List, [], ◌∷◌}
use native.Mathlib.Omega.{arith}
use lib.Dec.{eqb, leb, ltb}
use borrow.Author.Tests.{leb-true, leb-false, ltb-true, ltb-false, eqb-true, eq-eqb, not-false}
use Rattle.laws.proofs.Bools.{both}
use Rattle.laws.proofs.Checks.{NoneFails, none_fails}
use Rattle.laws.proofs.Split.{by_test}
use Rattle.quantity.specs.Units.{units_from}
use Rattle.store.specs.Store.{Store}
use Rattle.registers.specs.declared.Energy.{Energy}
use Rattle.registers.specs.Energy.{added_of, energy_counted, rate_ok}
use Rattle.registers.specs.declared.Shift.{Shift}
use Rattle.registers.specs.declared.Shift.TheVariants.{Ahead, Back}
use Rattle.registers.specs.Shift.{shifted}
use Rattle.recorder.specs.declared.Identity.{Identity}
use Rattle.recorder.specs.declared.SetUp.{SetUp}
use Rattle.recorder.specs.declared.Event.{Event}
use Rattle.recorder.specs.declared.Event.TheVariants.{Count, Clock, Off, On, Access, Meter, Reset, Rate, Reverse, Ppp, Adjust}
use Rattle.recorder.specs.declared.Recorder.{Recorder}
use Rattle.recorder.specs.Recorder.{Mem, with}
use Rattle.recorder.specs.Boundary.{advance_to}
use Rattle.recorder.specs.Effect.{after, flag_today, flag_from}
use Rattle.recorder.specs.Effect as effect
use Rattle.recorder.specs.Answer.{in_time, event_checks, event_answer}
use Rattle.format.specs.Identifier.{ppp_ok, with_ppp}
use Rattle.format.proofs.Naming.{ppp_stays, ppp_right}
use Rattle.recorder.specs.Step.{step, run}
use Rattle.recorder.specs.SetUp.{set_up_answer, set_up, made}
use Rattle.recorder.specs.Cause.{most_units}
use Rattle.assurance.specs.Paper.{Tape, Paper, now, total_at}
use Rattle.assurance.specs.Written.{counted, accessed, energy_of, units_with, writes, due, written, blank_paper, written_all, paper}
use Rattle.assurance.proofs.Kept.{Given, KeptAt, Kept}
use Rattle.assurance.proofs.Pass.{pass_kept, pass_energy, pass_identity}
use Rattle.assurance.proofs.Counting.{count_kept}
use Rattle.assurance.proofs.Marking.{off_kept, last_kept, rate_kept_lem, ppp_kept, access_kept, reverse_kept, meter_kept, reset_kept}
use Rattle.assurance.proofs.Outage.{outage_kept}
use Rattle.assurance.proofs.Start.{given, made_kept}
use Rattle.assurance.proofs.Answer.{answer_due, added_is}

-- ---- what acceptance says

module _ (s : SetUp) (p : Paper) where
  none : (e : Event) → due s p e ≡ 0 → NoneFails (event_checks p.on p.time (units_with s p) e)
  unfolding due event_answer
  none e d = none_fails (event_checks p.on p.time (units_with s p) e) refl d

  few : (c : ℕ) → due s p (Count c) ≡ 0 → units_from (total_at s p.tape.counts (now p)) (total_at s p.tape.counts (suc (now p)) + energy_of s p c) ≤ most_units
  unfolding units_with
  few c d = ltb-false most_units _ (none (Count c) d).1.1.1.1.0

  timely : (t : ℕ) → not (in_time p.time t) ≡ false → (p.time ≤ t) × (t < 3155760000)
  timely t e =
      let b = both (leb p.time t) (ltb t 3155760000) (not-false (in_time p.time t) e) in
      (leb-true _ _ b.0, ltb-true _ _ b.1)

  pub clock_time : (t : ℕ) → due s p (Clock t) ≡ 0 → (p.time ≤ t) × (t < 3155760000)
  clock_time t d = timely t (none (Clock t) d).1.1.1.0

  pub on_time : (t : ℕ) → due s p (On t) ≡ 0 → (p.time ≤ t) × (t < 3155760000)
  on_time t d = timely t (none (On t) d).1.1.1.0

  real_rate : (n : ℕ) → due s p (Rate n) ≡ 0 → (1 ≤ n) × (n ≤ 8)
  real_rate n d =
      let b = both (leb 1 n) (leb n 8) (not-false (rate_ok n) (none (Rate n) d).1.0) in
      (leb-true _ _ b.0, leb-true _ _ b.1)

  real_ppp : (a b c : ℕ) → due s p (Ppp a b c) ≡ 0 → ppp_ok a b c ≡ true
  real_ppp a b c d = not-false (ppp_ok a b c) (none (Ppp a b c) d).1.0

  begun : (n : ℕ) → due s p (Adjust (Back n)) ≡ 0 → n ≤ p.time % 1800
  begun n d = ltb-false _ _ (none (Adjust (Back n)) d).1.1.0

  pub adjust_half : (h : Shift) → due s p (Adjust h) ≡ 0 → now p ≤ shifted p.time h / 1800
  adjust_half (Ahead n) d = omega arith
  adjust_half (Back n) d = omega (arith, begun n d)

  adjust_time : (h : Shift) → p.time < 3155760000 → due s p (Adjust h) ≡ 0 → shifted p.time h < 3155760000
  adjust_time (Ahead n) l d = leb-false _ _ (none (Adjust (Ahead n)) d).1.1.1.0
  adjust_time (Back n) l d = omega arith

-- ---- an accepted event

-- time becomes t, whose half-hour has not ended
time_kept : (s : SetUp) (p : Paper) (x : Mem) → Kept s p x → (t : ℕ) → now p ≤ t / 1800 → t < 3155760000 → Kept s (writes s p (Clock t)) (advance_to t x)
unfolding advance_to
time_kept s p x k t from to = record {
  time = refl;
  on = refl;
  last = ap (λ (e : Energy). e.last) (pass_energy s p.tape (now p) t x k.at from) ∙ k.last;
  rate = ap (λ (e : Energy). e.rate) (pass_energy s p.tape (now p) t x k.at from) ∙ k.rate;
  name = record {
    is = ap (λ (i : Identity). i.identifier) (pass_identity s p.tape (now p) t x k.at from) ∙ k.name.is;
    right = k.name.right;
    meter = k.name.meter;
  };
  century = to;
  at = pass_kept s p.tape (now p) t x k.at from;
}

module _ (s : SetUp) (z : Given s) (p : Paper) (x : Mem) (k : Kept s p x) where
  abbrev q : ℕ
  q = now p

  abbrev r : Recorder
  r = x.recorder

  today_is : p.time / 86400 ≡ q / 48
  today_is = omega arith

  passed : (t : ℕ) → (p.time ≤ t) × (t < 3155760000) → Kept s (writes s p (Clock t)) (advance_to t x)
  passed t l = time_kept s p x k t (omega arith) l.1

  marked : Kept s (writes s p Access) (with x (effect.accessed r))
  marked = record { time = k.time; on = k.on; last = k.last; rate = k.rate; name = k.name; century = k.century; at = access_kept s p.tape q x k.at }

  counted_is : (c : ℕ) → counted q (r.energy.rate - 1) (added_of r.identity.weight r.energy.last c).0 p.tape ≡ counted q (p.rate - 1) (energy_of s p c) p.tape
  counted_is c =
      ap (λ (w : ℕ). counted q (r.energy.rate - 1) w p.tape) (added_is s z p x k c)
      ∙ ap (λ (n : ℕ). counted q (n - 1) (energy_of s p c) p.tape) k.rate

  event_kept : (e : Event) → due s p e ≡ 0 → Kept s (writes s p e) (after x e)
  unfolding after energy_counted flag_from flag_today
  event_kept (Count c) d = record {
    time = k.time;
    on = k.on;
    last = refl;
    rate = k.rate;
    name = k.name;
    century = k.century;
    at =
        subst (λ (t : Tape). KeptAt s t q (with x (effect.counted c r))) (counted_is c)
        (count_kept s p.tape q c x k.at (rw (added_is s z p x k c) (few s p c d)));
  }
  event_kept (Clock t) d = passed t (clock_time s p t d)
  event_kept Off d = record { time = k.time; on = refl; last = k.last; rate = k.rate; name = k.name; century = k.century; at = off_kept s p.tape q x k.at }
  event_kept (On t) d =
      let l = on_time s p t d in
      let y = passed t l in
      let from : r.clock.time / 86400 ≡ p.time / 86400 = omega (arith, k.time) in
      let to : t / 86400 ≡ t / 1800 / 48 = omega arith in
      record {
        time = y.time;
        on = y.on;
        last = y.last;
        rate = y.rate;
        name = y.name;
        century = y.century;
        at =
            rw (from, to)
            (outage_kept s p.tape (t / 1800) (p.time / 86400) (advance_to t x) (omega (arith, k.at.clock.begun)) (omega (arith, l.0)) y.at);
      }
  event_kept Access d = marked
  event_kept (Meter c) d = record {
    time = k.time;
    on = k.on;
    last = refl;
    rate = k.rate;
    name = k.name;
    century = k.century;
    at = rw today_is (meter_kept s (accessed q p.tape) q _ (access_kept s p.tape q _ (last_kept s p.tape q x k.at c)));
  }
  event_kept Reset d = record {
    time = k.time;
    on = k.on;
    last = k.last;
    rate = k.rate;
    name = k.name;
    century = k.century;
    at = rw today_is (reset_kept s (accessed q p.tape) q _ (access_kept s p.tape q x k.at) (omega (arith, k.time, k.century)));
  }
  event_kept (Rate n) d =
      let l = real_rate s p n d in
      record { time = k.time; on = k.on; last = k.last; rate = refl; name = k.name; century = k.century; at = rate_kept_lem s p.tape q x k.at n l.0 l.1 }
  event_kept Reverse d = record { time = k.time; on = k.on; last = k.last; rate = k.rate; name = k.name; century = k.century; at = reverse_kept s p.tape q x k.at }
  event_kept (Ppp a b c) d = record {
    time = k.time;
    on = k.on;
    last = k.last;
    rate = k.rate;
    name = record {
      is = ap (with_ppp (a ∷ b ∷ c ∷ [])) k.name.is;
      right = ppp_right a b c p.identifier (real_ppp s p a b c d) k.name.right;
      meter = λ j past h. ppp_stays (a ∷ b ∷ c ∷ []) p.identifier j past ∙ k.name.meter j past h;
    };
    century = k.century;
    at = access_kept s p.tape q _ (ppp_kept s p.tape q x k.at a b c);
  }
  event_kept (Adjust h) d =
      subst (λ (t : ℕ). Kept s (writes s p (Adjust h)) (advance_to (shifted t h) (with x (effect.accessed r)))) (sym k.time)
      (time_kept s (writes s p Access) (with x (effect.accessed r)) marked (shifted p.time h) (adjust_half s p h d) (adjust_time s p h k.century d))

  -- each event, accepted or refused
  pub step_kept : (e : Event) → Kept s (written s p e) (step x e).after
  unfolding step written
  step_kept e =
      rw (answer_due s z p x k e)
      (by_test (eqb (due s p e) 0)
      (λ t. rw t (event_kept e (eqb-true (due s p e) 0 t)))
      (λ t. rw t k))

-- ---- the run, from set-up on: whatever store was lent, whatever the events

pub run_kept : (s : SetUp) → Given s → (es : List Event) (p : Paper) (x : Mem) → Kept s p x → Kept s (written_all s p es) (run x es)
unfolding written_all run
run_kept s z [] p x k = k
run_kept s z (e ∷ es) p x k = run_kept s z es (written s p e) (step x e).after (step_kept s z p x k e)

pub kept : (s : SetUp) (x : Store) (es : List Event) → (set_up s x).answer ≡ 0 → Kept s (paper s es) (run (set_up s x).after es)
unfolding set_up
kept s x es e =
    let z = given s x e in
    rw (eq-eqb (set_up_answer s x) 0 e) (run_kept s z es (blank_paper s) (made s) (made_kept s z))
