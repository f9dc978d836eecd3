-- What happens to an outstation, in the form that the proofs of the code look for.
-- Assumes nothing.
use Prim.Native.Nat.{ℕ, ◌+◌, ◌<◌, ◌≤◌}
use mathlib.Core.Path.{◌≡◌, refl, sym, ap, ◌∙◌}
use mathlib.Core.Bool.{Bool, true, false, not, cond, ◌&&◌, false≢true}
use mathlib.Core.List.{List, ◌++◌, append-nil}
use lib.Dec.{eqb, ltb}
use lib.ListN.{length, drop}
use lib.Seq.{sets, sets-eq, drop-length}
use native.Mathlib.Omega.{arith}
use borrow.Author.Tests.{eq-eqb, ne_eqb, eqb-false, lt-ltb, le-ltb, not-true, not-false}
use Rattle.std.specs.Prelude.{Result, Ok, Err}
use Rattle.answers.specs.declared.Refusal.{Refusal}
use Rattle.answers.specs.declared.Refusal.TheVariants.{Power, Time, Units, Length, Damaged, Range, Short, NoBlock, Field, Inconsistent, OtherMeter, Differs, Ended, Clash, Loaded}
use Rattle.answers.specs.Answer.{number_of, carried_of}
use Rattle.laws.specs.Checks.{first_failing}
use Rattle.laws.proofs.Bools.{no_left, no_right}
use Rattle.laws.proofs.Split.{by_test}
use Rattle.store.specs.Class.{right_lengths}
use Rattle.recorder.specs.declared.Recorder.{Recorder}
use Rattle.recorder.specs.declared.Event.{Event}
use Rattle.recorder.specs.declared.Event.TheVariants.{Count, Clock, Off, On, Access, Meter, Reset, Rate, Reverse, Ppp, Adjust}
use Rattle.recorder.specs.Recorder.{Mem, mem, with, cap_of}
use Rattle.recorder.specs.Effect.{rate_is, after as effect}
use Rattle.recorder.specs.Range.{in_range}
use Rattle.recorder.specs.Answer.{no_class, wrong_power, units_after, event_answer, answer_with, answer_of as step_answer}
use Rattle.recorder.specs.Step.{Done as Stepping, done as stepping, step}
use Rattle.recorder.proofs.Answers.{number_some, wrong_length, out_of_range_lem, event_judged}
use Rattle.tariff.specs.Table.{table_size, slots_of}
use Rattle.tariff.specs.Judge.{clash_in, names_above, sound, judged}
use Rattle.tariff.proofs.Order.{accepted as passed}
use Rattle.outstation.specs.declared.Outstation.{Outstation}
use Rattle.outstation.specs.declared.Phase.{Phase}
use Rattle.outstation.specs.declared.Phase.TheVariants.{Single}
use Rattle.outstation.specs.Outstation.{most_rate, Site, site, with_mem, Happening, of, load, single, is_rate, tells_time, too_high, asked, own_checks, misfit, answer_of, rate_then, rate_kept, switched, after, Done, done, happens}
use Rattle.outstation.specs.Parts.{Roomy, rate_after}
use Rattle.outstation.proofs.Steps.{rate_same}

-- ---- what a step leaves

refused_stays : (x : Mem) (e : Event) → ((step x e).answer ≡ 0 → ⊥) → (step x e).after ≡ x
unfolding step
refused_stays x e ne = rw (ne_eqb (step_answer x e) 0 ne)

rate_leaves : (x : Mem) (n : ℕ) → (step x (Rate n)).answer ≡ 0 → (step x (Rate n)).after ≡ with x (rate_is n x.recorder)
unfolding step effect
rate_leaves x n z = rw (eq-eqb (step_answer x (Rate n)) 0 z)

-- the rate put back after a Rate
put_back : (x : Mem) (e : Event) → is_rate e ≡ true → (step x e).answer ≡ 0 → with (step x e).after (rate_is x.recorder.energy.rate (step x e).after.recorder) ≡ x
put_back x (Count c) h z = absurd (false≢true h)
put_back x (Clock t) h z = absurd (false≢true h)
put_back x Off h z = absurd (false≢true h)
put_back x (On t) h z = absurd (false≢true h)
put_back x Access h z = absurd (false≢true h)
put_back x (Meter c) h z = absurd (false≢true h)
put_back x Reset h z = absurd (false≢true h)
put_back x (Rate n) h z = rw (rate_leaves x n z)
put_back x Reverse h z = absurd (false≢true h)
put_back x (Ppp a b c) h z = absurd (false≢true h)
put_back x (Adjust g) h z = absurd (false≢true h)

-- of a recorder whose rate can be chosen: the rate after an accepted event is too high where the event is a Rate that is
module _ (p : Phase) (x : Mem) (low : ltb (most_rate p) x.recorder.energy.rate ≡ false) where
  high_other : (e : Event) → is_rate e ≡ false → too_high p e ≡ false → ltb (most_rate p) (step x e).after.recorder.energy.rate ≡ too_high p e
  high_other e h t = ap (λ (n : ℕ). ltb (most_rate p) n) (rate_same x e h) ∙ low ∙ sym t

  pub high_is : (e : Event) → (step x e).answer ≡ 0 → ltb (most_rate p) (step x e).after.recorder.energy.rate ≡ too_high p e
  high_is (Count c) z = high_other (Count c) refl refl
  high_is (Clock t) z = high_other (Clock t) refl refl
  high_is Off z = high_other Off refl refl
  high_is (On t) z = high_other (On t) refl refl
  high_is Access z = high_other Access refl refl
  high_is (Meter c) z = high_other (Meter c) refl refl
  high_is Reset z = high_other Reset refl refl
  high_is (Rate n) z = ap (λ (y : Mem). ltb (most_rate p) y.recorder.energy.rate) (rate_leaves x n z)
  high_is Reverse z = high_other Reverse refl refl
  high_is (Ppp a b c) z = high_other (Ppp a b c) refl refl
  high_is (Adjust g) z = high_other (Adjust g) refl refl

  high_rate : (e : Event) → ltb (most_rate p) (step x e).after.recorder.energy.rate ≡ true → is_rate e ≡ true
  high_rate e h = by_test (is_rate e) (λ t. t) (λ t. absurd (false≢true (sym (ap (λ (n : ℕ). ltb (most_rate p) n) (rate_same x e t) ∙ low) ∙ h)))

-- ---- answers

real_class : (r : Recorder) (k : ℕ) → k ≡ cap_of r → (k ≡ 0 → ⊥) → no_class r ≡ false
real_class r k p ne = ne_eqb (cap_of r) 0 (λ z. ne (p ∙ z))

pub roomy : (o : Outstation) (b : List ℕ) (k n : ℕ) → k ≡ cap_of o.recorder → (k ≡ 0 → ⊥) → length b ≡ table_size → n ≡ most_rate o.phase → o.recorder.energy.rate ≤ n → Roomy o b
roomy o b k n p ne l q h = record { class = real_class o.recorder k p ne; long = l; low = le-ltb (most_rate o.phase) o.recorder.energy.rate (rw (← q) h) }

-- ---- a whole copy

pub copied : (l f k : List ℕ) → length l ≡ length f → k ≡ sets l 0 f → k ≡ f
copied l f k p e =
    e ∙ sets-eq f l 0 (omega (arith, p))
    ∙ ap (λ (r : List ℕ). f ++ r) (ap (λ (n : ℕ). drop n l) (let g : 0 + length f ≡ length l = omega (arith, p) in g) ∙ drop-length l)
    ∙ append-nil f

pub loaded_long : (f b : List ℕ) → 0 ≡ judged f → length b ≡ table_size → length b ≡ length f
loaded_long f b z l = l ∙ sym (passed f (sym z)).long

-- 7 and 9 alone carry something, and a table is refused with 6 or 14
nothing_carried : (x : Refusal) → (number_of x ≡ 7 → ⊥) → (number_of x ≡ 9 → ⊥) → carried_of x ≡ 0
nothing_carried Power a b = refl
nothing_carried Time a b = refl
nothing_carried Units a b = refl
nothing_carried Length a b = refl
nothing_carried Damaged a b = refl
nothing_carried Range a b = refl
nothing_carried (Short bytes) a b = absurd (a refl)
nothing_carried NoBlock a b = refl
nothing_carried (Field at) a b = absurd (b refl)
nothing_carried Inconsistent a b = refl
nothing_carried OtherMeter a b = refl
nothing_carried Differs a b = refl
nothing_carried Ended a b = refl
nothing_carried Clash a b = refl
nothing_carried Loaded a b = refl

judged_other : (f : List ℕ) (n : ℕ) → (6 ≡ n → ⊥) → (14 ≡ n → ⊥) → (0 ≡ n → ⊥) → judged f ≡ n → ⊥
unfolding judged
judged_other f n six fourteen done e =
    by_test (not (eqb (length f) table_size))
    (λ t. six (rw t at e))
    (λ t. by_test (not (sound (slots_of f)))
    (λ u. six (rw (t, u) at e))
    (λ u. by_test (clash_in (slots_of f)) (λ w. fourteen (rw (t, u, w) at e)) (λ w. done (rw (t, u, w) at e))))

judged_bare : (f : List ℕ) (x : Refusal) → number_of x ≡ judged f → carried_of x ≡ 0
judged_bare f x e =
    nothing_carried x
    (λ p. judged_other f 7 (λ z. absurd (omega arith)) (λ z. absurd (omega arith)) (λ z. absurd (omega arith)) (sym e ∙ p))
    (λ p. judged_other f 9 (λ z. absurd (omega arith)) (λ z. absurd (omega arith)) (λ z. absurd (omega arith)) (sym e ∙ p))

-- what a load asks of the recorder
module _ (r : Recorder) (v s m : ℕ) (c : no_class r ≡ false) (f : Bool) (q : f ≡ right_lengths (cap_of r) v s m) where
  pub ready_length : not f ≡ true → 4 ≡ answer_with r (Rate 1) v s m
  ready_length = wrong_length r (Rate 1) v s m (cap_of r) refl (eqb-false (cap_of r) 0 c) f q

  module _ (t : not f ≡ false) (g : Bool) (k : g ≡ in_range r) where
    pub ready_range : not g ≡ true → 5 ≡ answer_with r (Rate 1) v s m
    ready_range = out_of_range_lem r (Rate 1) v s m (cap_of r) refl (eqb-false (cap_of r) 0 c) f q t g k

    module _ (u : not g ≡ false) where
      ready_by : (a : ℕ) → a ≡ event_answer r.clock.on r.clock.time (units_after r) (Rate 1) → a ≡ answer_with r (Rate 1) v s m
      ready_by = event_judged r (Rate 1) v s m (cap_of r) refl (eqb-false (cap_of r) 0 c) f q t g k u

      pub ready_off : not r.clock.on ≡ true → 1 ≡ answer_with r (Rate 1) v s m
      unfolding event_answer wrong_power
      ready_off h = ready_by 1 (rw (not-true r.clock.on h))

      pub ready_done : not r.clock.on ≡ false → 0 ≡ answer_with r (Rate 1) v s m
      unfolding event_answer wrong_power
      ready_done h = ready_by 0 (rw (not-false r.clock.on h))

module _ (x : Site) (h : Happening) where
  pub happens_refused : (n : ℕ) → answer_of x h ≡ n → (n ≡ 0 → ⊥) → happens x h ≡ record { answer = n; carried = 0; after = x }
  unfolding happens
  happens_refused n p ne = rw (p, ne_eqb n 0 ne)

  pub happens_done : answer_of x h ≡ 0 → happens x h ≡ record { answer = 0; carried = 0; after = after x h }
  unfolding happens
  happens_done p = rw p

module _ (o : Outstation) (v s m b : List ℕ) (h : Happening) where
  abbrev x : Site
  x = site o v s m b

  -- refused with a number of its own, and nothing carried
  refused_with : (e : Refusal) → carried_of e ≡ 0 → answer_of x h ≡ number_of e → done (Err e) o v s m b ≡ happens x h
  refused_with e c p = rw c (sym (happens_refused x h (number_of e) p (number_some e)))

  module _ (k : ℕ) (p : k ≡ cap_of o.recorder) where
    pub class_refused : k ≡ 0 → done (Err Damaged) o v s m b ≡ happens x h
    unfolding answer_of
    class_refused z = refused_with Damaged refl (rw (eq-eqb (cap_of o.recorder) 0 (sym p ∙ z)))

    module _ (some : k ≡ 0 → ⊥) where
      pub length_refused : (length b ≡ table_size → ⊥) → done (Err Length) o v s m b ≡ happens x h
      unfolding answer_of
      length_refused l = refused_with Length refl (rw (real_class o.recorder k p some, ne_eqb (length b) table_size l))

      module _ (l : length b ≡ table_size) (n : ℕ) (q : n ≡ most_rate o.phase) (high : n < o.recorder.energy.rate) (f : Bool) (e : f ≡ right_lengths (cap_of o.recorder) (length v) (length s) (length m)) where
        pub rate_refused : f ≡ true → done (Err Damaged) o v s m b ≡ happens x h
        unfolding answer_of
        rate_refused t =
            refused_with Damaged refl
            (rw (real_class o.recorder k p some, eq-eqb (length b) table_size l, lt-ltb (most_rate o.phase) o.recorder.energy.rate (rw (← q) high), sym e ∙ t))

        pub misfit_refused : f ≡ false → done (Err Length) o v s m b ≡ happens x h
        unfolding answer_of
        misfit_refused t = refused_with Length refl (rw (real_class o.recorder k p some, eq-eqb (length b) table_size l, sym e ∙ t))

-- ---- the rate after an event that the recorder took

module _ (loaded : Bool) (p : Phase) (rate time : ℕ) (e : Event) (b : List ℕ) where
  after_high : ltb (most_rate p) rate ≡ true → rate_after loaded p rate time e b ≡ Err Range
  unfolding rate_after
  after_high h = rw h

  module _ (l : ltb (most_rate p) rate ≡ false) where
    after_free : loaded ≡ false → rate_after loaded p rate time e b ≡ Ok rate
    unfolding rate_after
    after_free k = rw (l, k)

    module _ (k : loaded ≡ true) where
      after_rate : is_rate e ≡ true → rate_after loaded p rate time e b ≡ Err Loaded
      unfolding rate_after
      after_rate g = rw (l, k, g)

      after_timed : is_rate e ≡ false → tells_time e ≡ true → rate_after loaded p rate time e b ≡ Ok (rate_then true p b time rate)
      unfolding rate_after
      after_timed g t = rw (l, k, g, t)

      after_plain : is_rate e ≡ false → tells_time e ≡ false → rate_after loaded p rate time e b ≡ Ok rate
      unfolding rate_after
      after_plain g t = rw (l, k, g, t)

-- ---- what happens

-- an answer, the recorder with its store, whether a table is loaded, the phase kind, the room
abbrev outcome : ℕ → Mem → Bool → Phase → List ℕ → Done
outcome a y loaded p b = record { answer = a; carried = 0; after = record { mem = y; loaded = loaded; phase = p; table = b } }

-- a store of another length is the recorder's own 4
pub absorbed : (y : Mem) (e : Event) (rest : ℕ) → no_class y.recorder ≡ false
    → cond (misfit y) 4 (cond (not (eqb (step y e).answer 0)) (step y e).answer rest) ≡ cond (not (eqb (step y e).answer 0)) (step y e).answer rest
unfolding step step_answer
absorbed y e rest c =
    let r = y.recorder in
    let v = length y.store.values in
    let s = length y.store.starts in
    let m = length y.store.marks in
    by_test (misfit y)
    (λ f. rw (f, sym (wrong_length r e v s m (cap_of r) refl (eqb-false (cap_of r) 0 c) (right_lengths (cap_of r) v s m) refl f)))
    (λ f. rw f)

module _ (o : Outstation) (v s m b : List ℕ) (ok : Roomy o b) where
  abbrev y : Mem
  y = mem o.recorder v s m

  abbrev x₀ : Site
  x₀ = site o v s m b

  abbrev old : ℕ
  old = o.recorder.energy.rate

  -- the recorder's answer to what it is asked, then the outstation's own checks
  answer_by : (h : Happening) (a : ℕ) → a ≡ (step y (asked h)).answer → answer_of x₀ h ≡ cond (not (eqb a 0)) a (first_failing (own_checks x₀ h))
  unfolding answer_of
  answer_by h a p = rw (p, ok.class, eq-eqb (length b) table_size ok.long, ok.low) (absorbed y (asked h) (first_failing (own_checks x₀ h)) ok.class)

  -- a refusal: recorder and store are what they were
  refusal : (h : Happening) (n : ℕ) (z : Mem) → answer_of x₀ h ≡ n → (n ≡ 0 → ⊥) → z ≡ y → outcome n z o.loaded o.phase b ≡ happens x₀ h
  refusal h n z e ne same = ap {B = Done} (λ (k : Mem). outcome n k o.loaded o.phase b) same ∙ sym (happens_refused x₀ h n e ne)

  -- ---- an event that the recorder took, at the state that its step left

  module _ (e : Event) (z : Mem) (n : 0 ≡ (step y e).answer) (q : z ≡ (step y e).after) where
    -- what is left at a rate, or with a refusal and the rate put back
    abbrev left : Result ℕ Refusal → Done
    left (Ok c) = outcome 0 (with z (rate_is c z.recorder)) o.loaded o.phase b
    left (Err x) = record { answer = number_of x; carried = carried_of x; after = record { mem = with z (rate_is old z.recorder); loaded = o.loaded; phase = o.phase; table = b } }

    abbrev rate : ℕ
    rate = z.recorder.energy.rate

    abbrev time : ℕ
    time = z.recorder.clock.time

    abbrev high : Bool
    high = ltb (most_rate o.phase) rate

    back : is_rate e ≡ true → with z (rate_is old z.recorder) ≡ y
    back f = ap (λ (k : Mem). with k (rate_is old k.recorder)) q ∙ put_back y e f (sym n)

    left_high : ltb (most_rate o.phase) (step y e).after.recorder.energy.rate ≡ high
    left_high = ap (λ (k : Mem). ltb (most_rate o.phase) k.recorder.energy.rate) (sym q)

    own_answer : answer_of x₀ (of e) ≡ cond high 6 (cond (is_rate e && o.loaded) 15 0)
    own_answer = answer_by (of e) 0 n ∙ rw (sym (high_is o.phase y ok.low e (sym n)) ∙ left_high)

    module _ (l : high ≡ false) where
      effect_by : (is_rate e && o.loaded) ≡ false → happens x₀ (of e) ≡ record { answer = 0; carried = 0; after = after x₀ (of e) }
      effect_by f = happens_done x₀ (of e) (own_answer ∙ rw (l, f))

      -- a table that decides nothing: no time is told, or none is loaded
      plain : (is_rate e && o.loaded) ≡ false → (tells_time e ≡ true → o.loaded ≡ false) → left (Ok rate) ≡ happens x₀ (of e)
      unfolding rate_then
      plain f none =
          ap {B = Done} (λ (k : Mem). outcome 0 k o.loaded o.phase b) q
          ∙ by_test (tells_time e) (λ t. sym (effect_by f ∙ rw (t, none t))) (λ t. sym (effect_by f ∙ rw t))

      timed : o.loaded ≡ true → is_rate e ≡ false → tells_time e ≡ true → left (Ok (rate_then true o.phase b time rate)) ≡ happens x₀ (of e)
      timed k f t =
          let g : ◌≡◌ {A = Done} (left (Ok (rate_then true o.phase b time rate))) (record { answer = 0; carried = 0; after = switched (with_mem x₀ z) }) = rw k in
          g
          ∙ ap {B = Done} (λ (k : Mem). record { answer = 0; carried = 0; after = switched (with_mem x₀ k) }) q
          ∙ sym (effect_by (no_left (is_rate e) o.loaded f) ∙ rw t)

      by_table : left (rate_after o.loaded o.phase rate time e b) ≡ happens x₀ (of e)
      by_table =
          by_test o.loaded
          (λ k.
          by_test (is_rate e)
          (λ g.
          ap left (after_rate o.loaded o.phase rate time e b l k g)
          ∙ refusal (of e) 15 (with z (rate_is old z.recorder)) (own_answer ∙ rw (l, g, k)) (number_some Loaded) (back g))
          (λ g. by_test (tells_time e)
          (λ t. ap left (after_timed o.loaded o.phase rate time e b l k g t) ∙ timed k g t)
          (λ t. ap left (after_plain o.loaded o.phase rate time e b l k g t) ∙ plain (no_left (is_rate e) o.loaded g) (λ u. absurd (false≢true (sym t ∙ u))))))
          (λ k. ap left (after_free o.loaded o.phase rate time e b l k) ∙ plain (no_right (is_rate e) o.loaded k) (λ t. k))

    event_taken : left (rate_after o.loaded o.phase rate time e b) ≡ happens x₀ (of e)
    event_taken =
        by_test high
        (λ h.
        ap left (after_high o.loaded o.phase rate time e b h)
        ∙ refusal (of e) 6 (with z (rate_is old z.recorder)) (own_answer ∙ rw h) (number_some Range) (back (high_rate o.phase y ok.low e (left_high ∙ h))))
        (λ h. by_table h)

  module _ (e : Event) (r₁ : Recorder) (v₁ s₁ m₁ : List ℕ) where
    pub event_refused : (x : Refusal) → stepping (Err x) r₁ v₁ s₁ m₁ ≡ step (mem o.recorder v s m) e
        → done (Err x) (record { recorder = r₁; loaded = o.loaded; phase = o.phase }) v₁ s₁ m₁ b ≡ happens (site o v s m b) (of e)
    unfolding step
    event_refused x st =
        let a : number_of x ≡ (step y e).answer = ap (λ (j : Stepping). j.answer) st in
        let c : carried_of x ≡ 0 = ap (λ (j : Stepping). j.carried) st in
        rw c
        (refusal (of e) (number_of x) (mem r₁ v₁ s₁ m₁) (answer_by (of e) (number_of x) a ∙ rw (ne_eqb (number_of x) 0 (number_some x))) (number_some x)
        (ap (λ (j : Stepping). j.after) st ∙ refused_stays y e (λ k. number_some x (a ∙ k))))

    module _ (u : Unit {0}) (st : stepping (Ok u) r₁ v₁ s₁ m₁ ≡ step (mem o.recorder v s m) e) where
      taken : left e (mem r₁ v₁ s₁ m₁) (ap (λ (j : Stepping). j.answer) st) (ap (λ (j : Stepping). j.after) st) (rate_after o.loaded o.phase r₁.energy.rate r₁.clock.time e b)
          ≡ happens (site o v s m b) (of e)
      taken = event_taken e (mem r₁ v₁ s₁ m₁) (ap (λ (j : Stepping). j.answer) st) (ap (λ (j : Stepping). j.after) st)

      pub event_done : (c : ℕ) → Ok c ≡ rate_after o.loaded o.phase r₁.energy.rate r₁.clock.time e b
          → done (Ok u) (record { recorder = rate_is c r₁; loaded = o.loaded; phase = o.phase }) v₁ s₁ m₁ b ≡ happens (site o v s m b) (of e)
      event_done c t = rw (← t) at taken

      pub event_undone : (x : Refusal) → Err x ≡ rate_after o.loaded o.phase r₁.energy.rate r₁.clock.time e b
          → done (Err x) (record { recorder = rate_is o.recorder.energy.rate r₁; loaded = o.loaded; phase = o.phase }) v₁ s₁ m₁ b ≡ happens (site o v s m b) (of e)
      event_undone x t = rw (← t) at taken

  -- ---- a load and a conversion, by what the recorder answers to a Rate

  ready_answer : (h : Happening) (a : ℕ) → a ≡ answer_with o.recorder (Rate 1) (length v) (length s) (length m) → asked h ≡ Rate 1
      → answer_of x₀ h ≡ cond (not (eqb a 0)) a (first_failing (own_checks x₀ h))
  unfolding step step_answer
  ready_answer h a p k = answer_by h a (p ∙ ap (λ (e : Event). (step y e).answer) (sym k))

  module _ (x : Refusal) (p : number_of x ≡ answer_with o.recorder (Rate 1) (length v) (length s) (length m)) (c : carried_of x ≡ 0) where
    unready : (h : Happening) → asked h ≡ Rate 1 → done (Err x) o v s m b ≡ happens x₀ h
    unready h k = refused_with o v s m b h x c (ready_answer h (number_of x) p k ∙ rw (ne_eqb (number_of x) 0 (number_some x)))

    pub load_unready : (f : List ℕ) → done (Err x) o v s m b ≡ happens (site o v s m b) (load f)
    load_unready f = unready (load f) refl

    pub single_unready : done (Err x) o v s m b ≡ happens (site o v s m b) single
    single_unready = unready single refl

  module _ (p : 0 ≡ answer_with o.recorder (Rate 1) (length v) (length s) (length m)) where
    module _ (f : List ℕ) (n : ℕ) (w : n ≡ most_rate o.phase) (k : Bool) (i : k ≡ names_above n f) where
      pub load_high : k ≡ true → done (Err Range) o v s m b ≡ happens (site o v s m b) (load f)
      load_high h = refused_with o v s m b (load f) Range refl (ready_answer (load f) 0 p refl ∙ rw (← w, ← i, h))

      module _ (h : k ≡ false) where
        load_judged : answer_of x₀ (load f) ≡ cond (not (eqb (judged f) 0)) (judged f) 0
        load_judged = ready_answer (load f) 0 p refl ∙ rw (← w, ← i, h)

        pub load_bad : (x : Refusal) → number_of x ≡ judged f → done (Err x) o v s m b ≡ happens (site o v s m b) (load f)
        load_bad x q = refused_with o v s m b (load f) x (judged_bare f x q) (load_judged ∙ rw (← q, ne_eqb (number_of x) 0 (number_some x)))

        pub load_done : 0 ≡ judged f → (u : Unit {0}) (b₁ : List ℕ) → b₁ ≡ f → (t : ℕ) → t ≡ rate_then true o.phase b₁ o.recorder.clock.time o.recorder.energy.rate
            → done (Ok u) (record { recorder = rate_is t o.recorder; loaded = true; phase = o.phase }) v s m b₁ ≡ happens (site o v s m b) (load f)
        load_done j u b₁ c t g = rw (g, c) (sym (happens_done x₀ (load f) (load_judged ∙ rw (← j))))

    module _ (k : Bool) (i : k ≡ names_above (most_rate Single) b) where
      pub single_named : (o.loaded && k) ≡ true → done (Err Range) o v s m b ≡ happens (site o v s m b) single
      single_named h = refused_with o v s m b single Range refl (ready_answer single 0 p refl ∙ rw (← i, h))

      pub single_done : (o.loaded && k) ≡ false → (u : Unit {0}) (t : ℕ) → t ≡ rate_kept o.recorder.energy.rate
          → done (Ok u) (record { recorder = rate_is t o.recorder; loaded = o.loaded; phase = Single }) v s m b ≡ happens (site o v s m b) single
      single_done h u t g = rw g (sym (happens_done x₀ single (ready_answer single 0 p refl ∙ rw (← i, h))))
