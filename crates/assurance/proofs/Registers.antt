-- The present and the registers from the events alone: time, power, counter and active rate, each rate's register, and what the Resets found.
-- Assumes nothing.
use Prim.Native.Nat.{ℕ, suc, ◌+◌, ◌-◌, ◌*◌, ◌/◌, ◌<◌, ◌≤◌}
use mathlib.Core.Path.{◌≡◌, refl, ap, ◌∙◌}
use mathlib.Core.Bool.{Bool, true, false, cond, ◌&&◌}
use mathlib.Core.List.{List, [], ◌∷◌}
use native.Mathlib.Decide.{ℕ_discrete}
use native.Mathlib.Omega.{arith}
use lib.Dec.{eqb}
use lib.ListN.{length}
use borrow.Author.Tests.{eqb-true, eq-eqb, ne_eqb}
use Rattle.laws.proofs.Split.{by_test, by_dec}
use Rattle.calendar.specs.Clock.{halves_of_day}
use Rattle.recorder.specs.declared.SetUp.{SetUp}
use Rattle.recorder.specs.declared.Event.{Event}
use Rattle.recorder.specs.declared.Event.TheVariants.{Count, Clock, Off, On, Access, Meter, Reset, Rate, Reverse, Ppp, Adjust}
use Rattle.recorder.specs.Recorder.{Mem}
use Rattle.recorder.specs.Answer.{event_answer, wrong_power}
use Rattle.recorder.specs.Step.{step}
use Rattle.assurance.specs.Paper.{Demands, Paper, now, today, units_of, largest, peak_of}
use Rattle.assurance.specs.Written.{add_at, writes, due, written, written_all}
use Rattle.assurance.specs.Meaning.{energy_in, time_set, power_set, counter_set, rate_set, identifier_set, set_by, last_set, counted_at, is_reset, reset_halves, found, last_or, sum_of, days_named}
use Rattle.assurance.proofs.Kept.{Given, Kept}
use Rattle.assurance.proofs.Counting.{largest_same}
use Rattle.assurance.proofs.Past.{Past, past_all}
use Rattle.assurance.proofs.Run.{step_kept}

-- ---- the present, as accepted events set it

module _ (s : SetUp) {A : Type 0} (g : Paper → A) (f : A → Event → A) (each : (p : Paper) (e : Event) → due s p e ≡ 0 → g (writes s p e) ≡ f (g p) e) where
  pub set_step : (p : Paper) (e : Event) → g (written s p e) ≡ set_by s f (g p) p e
  unfolding written
  set_step p e = by_test (eqb (due s p e) 0) (λ t. rw t (each p e (eqb-true (due s p e) 0 t))) (λ t. rw t)

  pub set_all : (es : List Event) (p : Paper) → g (written_all s p es) ≡ last_set s f (g p) p es
  unfolding written_all last_set
  set_all [] p = refl
  set_all (e ∷ es) p = set_all es (written s p e) ∙ ap (λ (a : A). last_set s f a (written s p e) es) (set_step p e)

each_time : (s : SetUp) (p : Paper) (e : Event) → due s p e ≡ 0 → (writes s p e).time ≡ time_set p.time e
each_time s p (Count c) d = refl
each_time s p (Clock t) d = refl
each_time s p Off d = refl
each_time s p (On t) d = refl
each_time s p Access d = refl
each_time s p (Meter c) d = refl
each_time s p Reset d = refl
each_time s p (Rate n) d = refl
each_time s p Reverse d = refl
each_time s p (Ppp a b c) d = refl
each_time s p (Adjust h) d = refl

each_counter : (s : SetUp) (p : Paper) (e : Event) → due s p e ≡ 0 → (writes s p e).last ≡ counter_set p.last e
each_counter s p (Count c) d = refl
each_counter s p (Clock t) d = refl
each_counter s p Off d = refl
each_counter s p (On t) d = refl
each_counter s p Access d = refl
each_counter s p (Meter c) d = refl
each_counter s p Reset d = refl
each_counter s p (Rate n) d = refl
each_counter s p Reverse d = refl
each_counter s p (Ppp a b c) d = refl
each_counter s p (Adjust h) d = refl

each_rate : (s : SetUp) (p : Paper) (e : Event) → due s p e ≡ 0 → (writes s p e).rate ≡ rate_set p.rate e
each_rate s p (Count c) d = refl
each_rate s p (Clock t) d = refl
each_rate s p Off d = refl
each_rate s p (On t) d = refl
each_rate s p Access d = refl
each_rate s p (Meter c) d = refl
each_rate s p Reset d = refl
each_rate s p (Rate n) d = refl
each_rate s p Reverse d = refl
each_rate s p (Ppp a b c) d = refl
each_rate s p (Adjust h) d = refl

each_identifier : (s : SetUp) (p : Paper) (e : Event) → due s p e ≡ 0 → (writes s p e).identifier ≡ identifier_set p.identifier e
each_identifier s p (Count c) d = refl
each_identifier s p (Clock t) d = refl
each_identifier s p Off d = refl
each_identifier s p (On t) d = refl
each_identifier s p Access d = refl
each_identifier s p (Meter c) d = refl
each_identifier s p Reset d = refl
each_identifier s p (Rate n) d = refl
each_identifier s p Reverse d = refl
each_identifier s p (Ppp a b c) d = refl
each_identifier s p (Adjust h) d = refl

-- Clock and Adjust are taken only while power is on
each_power : (s : SetUp) (p : Paper) (e : Event) → due s p e ≡ 0 → (writes s p e).on ≡ power_set p.on e
unfolding due event_answer wrong_power
each_power s p (Count c) d = refl
each_power s p (Clock t) d = by_test p.on (λ o. rw o) (λ o. absurd (let no : ◌≡◌ {A = ℕ} 1 0 = rw o at d in omega arith))
each_power s p Off d = refl
each_power s p (On t) d = refl
each_power s p Access d = refl
each_power s p (Meter c) d = refl
each_power s p Reset d = refl
each_power s p (Rate n) d = refl
each_power s p Reverse d = refl
each_power s p (Ppp a b c) d = refl
each_power s p (Adjust h) d = by_test p.on (λ o. rw o) (λ o. absurd (let no : ◌≡◌ {A = ℕ} 1 0 = rw o at d in omega arith))

module _ (s : SetUp) (es : List Event) (p : Paper) where
  pub time_is : (written_all s p es).time ≡ last_set s time_set p.time p es
  time_is = set_all s (λ (p : Paper). p.time) time_set (each_time s) es p

  pub power_is : (written_all s p es).on ≡ last_set s power_set p.on p es
  power_is = set_all s (λ (p : Paper). p.on) power_set (each_power s) es p

  pub counter_is : (written_all s p es).last ≡ last_set s counter_set p.last p es
  counter_is = set_all s (λ (p : Paper). p.last) counter_set (each_counter s) es p

  pub rate_is_lem : (written_all s p es).rate ≡ last_set s rate_set p.rate p es
  rate_is_lem = set_all s (λ (p : Paper). p.rate) rate_set (each_rate s) es p

  pub identifier_is : (written_all s p es).identifier ≡ last_set s identifier_set p.identifier p es
  identifier_is = set_all s (λ (p : Paper). p.identifier) identifier_set (each_identifier s) es p

rate_step : (s : SetUp) (p : Paper) (e : Event) → (written s p e).rate ≡ set_by s rate_set p.rate p e
rate_step s p e = set_step s (λ (p : Paper). p.rate) rate_set (each_rate s) p e

-- ---- each rate's register

same_place : (i r : ℕ) → 1 ≤ r → eqb i (r - 1) ≡ eqb r (suc i)
same_place i r l =
    by_dec (ℕ_discrete r (suc i))
    (λ e. rw (eq-eqb r (suc i) e, eq-eqb i (r - 1) (omega arith)))
    (λ e. rw (ne_eqb r (suc i) e, ne_eqb i (r - 1) (λ f. e (omega arith))))

none_added : (n : ℕ) (b : Bool) → n ≡ n + cond b 0 0
none_added n true = omega arith
none_added n false = omega arith

-- an event that counts nothing leaves what is counted
same_rate : (i : ℕ) (p u : Paper) (a b : Bool) → u.tape.counts ≡ p.tape.counts → (cond a u p).tape.counts.rate i ≡ p.tape.counts.rate i + cond b 0 0
same_rate i p u true b e = rw e (none_added (p.tape.counts.rate i) b)
same_rate i p u false b e = none_added (p.tape.counts.rate i) b

module _ (s : SetUp) (z : Given s) (i : ℕ) where
  more_at : (p : Paper) (x : Mem) → Kept s p x → (e : Event)
      → (written s p e).tape.counts.rate i ≡ p.tape.counts.rate i + cond (eqb p.rate (suc i)) (energy_in s p e) 0
  unfolding written add_at
  more_at p x k (Count c) =
      by_test (eqb (due s p (Count c)) 0)
      (λ t. rw (t, same_place i p.rate (omega (arith, k.rate, k.at.energy.rate_low))))
      (λ t. rw t (none_added (p.tape.counts.rate i) (eqb p.rate (suc i))))
  more_at p x k (Clock t) = same_rate i p (writes s p (Clock t)) (eqb (due s p (Clock t)) 0) (eqb p.rate (suc i)) refl
  more_at p x k Off = same_rate i p (writes s p Off) (eqb (due s p Off) 0) (eqb p.rate (suc i)) refl
  more_at p x k (On t) = same_rate i p (writes s p (On t)) (eqb (due s p (On t)) 0) (eqb p.rate (suc i)) refl
  more_at p x k Access = same_rate i p (writes s p Access) (eqb (due s p Access) 0) (eqb p.rate (suc i)) refl
  more_at p x k (Meter c) = same_rate i p (writes s p (Meter c)) (eqb (due s p (Meter c)) 0) (eqb p.rate (suc i)) refl
  more_at p x k Reset = same_rate i p (writes s p Reset) (eqb (due s p Reset) 0) (eqb p.rate (suc i)) refl
  more_at p x k (Rate n) = same_rate i p (writes s p (Rate n)) (eqb (due s p (Rate n)) 0) (eqb p.rate (suc i)) refl
  more_at p x k Reverse = same_rate i p (writes s p Reverse) (eqb (due s p Reverse) 0) (eqb p.rate (suc i)) refl
  more_at p x k (Ppp a b c) = same_rate i p (writes s p (Ppp a b c)) (eqb (due s p (Ppp a b c)) 0) (eqb p.rate (suc i)) refl
  more_at p x k (Adjust h) = same_rate i p (writes s p (Adjust h)) (eqb (due s p (Adjust h)) 0) (eqb p.rate (suc i)) refl

  pub register_is : (es : List Event) (p : Paper) (x : Mem) → Kept s p x
      → (written_all s p es).tape.counts.rate i ≡ p.tape.counts.rate i + counted_at s (suc i) p.rate p es
  unfolding written_all counted_at
  register_is [] p x k = omega arith
  register_is (e ∷ es) p x k =
      let rest = register_is es (written s p e) (step x e).after (step_kept s z p x k e) in
      let same : counted_at s (suc i) (written s p e).rate (written s p e) es ≡ counted_at s (suc i) (set_by s rate_set p.rate p e) (written s p e) es
      = ap (λ (r : ℕ). counted_at s (suc i) r (written s p e) es) (rate_step s p e) in
      omega (arith, rest, same, more_at p x k e)

-- ---- what the Resets found

-- the demands after Resets in these half-hours, by the units of each half-hour
pub record Told (u : ℕ → ℕ) (a b : Demands) (qs : List ℕ) : Type 0 where
  pub since : b.since ≡ last_or a.since qs
  pub previous : b.previous ≡ last_or a.previous (found u a.since qs)
  pub cumulative : b.cumulative ≡ a.cumulative + sum_of (found u a.since qs)
  pub date : b.date ≡ last_or a.date (days_named qs)
  pub resets : b.resets ≡ a.resets + length qs

none_told : (u : ℕ → ℕ) (a : Demands) → Told u a a []
unfolding found last_or sum_of days_named
none_told u a = record { since = refl; previous = refl; cumulative = omega arith; date = refl; resets = omega arith }

-- an accepted Reset
reset_told : (s : SetUp) (u : ℕ → ℕ) (p : Paper) → ((q : ℕ) → q < now p → units_of s p.tape.counts q ≡ u q)
    → (b : Demands) (qs : List ℕ) → Told u (writes s p Reset).tape.demands b qs → Told u p.tape.demands b (now p ∷ qs)
unfolding found last_or sum_of days_named
reset_told s u p same b qs t =
    let from = p.tape.demands.since in
    let peak : peak_of s p.tape.counts from (now p) ≡ 2 * largest u from (now p - from) =
    ap (λ (n : ℕ). 2 * n) (largest_same (units_of s p.tape.counts) u from (now p - from) (λ h lo hi. same h (omega arith))) in
    let day : today p + 1 ≡ suc (now p / halves_of_day) = omega arith in
    record {
      since = t.since;
      previous = t.previous ∙ ap (λ (n : ℕ). last_or n (found u (now p) qs)) peak;
      cumulative = omega (arith, t.cumulative, peak);
      date = t.date ∙ ap (λ (n : ℕ). last_or n (days_named qs)) day;
      resets = omega (arith, t.resets);
    }

quiet_told : (u : ℕ → ℕ) (p w : Paper) (o : Bool) → w.tape.demands ≡ p.tape.demands → (b : Demands) (qs : List ℕ)
    → Told u (cond o w p).tape.demands b qs → Told u p.tape.demands b qs
quiet_told u p w true e b qs t = rw e at t
quiet_told u p w false e b qs t = t

module _ (s : SetUp) (u : ℕ → ℕ) where
  told_step : (p : Paper) (e : Event) → ((q : ℕ) → q < now p → units_of s p.tape.counts q ≡ u q) → (b : Demands) (qs : List ℕ)
      → Told u (written s p e).tape.demands b qs
      → Told u p.tape.demands b (cond (is_reset s e && eqb (due s p e) 0) (now p ∷ qs) qs)
  unfolding written
  told_step p (Count c) same b qs t = quiet_told u p (writes s p (Count c)) (eqb (due s p (Count c)) 0) refl b qs t
  told_step p (Clock v) same b qs t = quiet_told u p (writes s p (Clock v)) (eqb (due s p (Clock v)) 0) refl b qs t
  told_step p Off same b qs t = quiet_told u p (writes s p Off) (eqb (due s p Off) 0) refl b qs t
  told_step p (On v) same b qs t = quiet_told u p (writes s p (On v)) (eqb (due s p (On v)) 0) refl b qs t
  told_step p Access same b qs t = quiet_told u p (writes s p Access) (eqb (due s p Access) 0) refl b qs t
  told_step p (Meter c) same b qs t = quiet_told u p (writes s p (Meter c)) (eqb (due s p (Meter c)) 0) refl b qs t
  told_step p Reset same b qs t =
      by_test (eqb (due s p Reset) 0)
      (λ o. rw o (reset_told s u p same b qs (rw o at t)))
      (λ o. rw o (rw o at t))
  told_step p (Rate n) same b qs t = quiet_told u p (writes s p (Rate n)) (eqb (due s p (Rate n)) 0) refl b qs t
  told_step p Reverse same b qs t = quiet_told u p (writes s p Reverse) (eqb (due s p Reverse) 0) refl b qs t
  told_step p (Ppp x y z) same b qs t = quiet_told u p (writes s p (Ppp x y z)) (eqb (due s p (Ppp x y z)) 0) refl b qs t
  told_step p (Adjust h) same b qs t = quiet_told u p (writes s p (Adjust h)) (eqb (due s p (Adjust h)) 0) refl b qs t

  -- what had ended stays, so the units that a Reset looks at are those of the whole life
  units_stay : (p w : Paper) → Past s p w → ((q : ℕ) → units_of s w.tape.counts q ≡ u q) → (q : ℕ) → q < now p → units_of s p.tape.counts q ≡ u q
  unfolding units_of
  units_stay p w a same q l = rw (← a.total q (omega arith), ← a.total (suc q) l) (same q)

  pub resets_told : (es : List Event) (p : Paper) → ((q : ℕ) → units_of s (written_all s p es).tape.counts q ≡ u q)
      → Told u p.tape.demands (written_all s p es).tape.demands (reset_halves s p es)
  unfolding written_all reset_halves
  resets_told [] p same = none_told u p.tape.demands
  resets_told (e ∷ es) p same =
      told_step p e (units_stay p (written_all s (written s p e) es) (past_all s p (e ∷ es)) same) (written_all s (written s p e) es).tape.demands (reset_halves s (written s p e) es)
      (resets_told es (written s p e) same)
