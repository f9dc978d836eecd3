-- Events, and the step, in the form that the proofs of the code look for.
-- Assumes nothing.
use Prim.Native.Nat.{ℕ, ◌+◌}
use mathlib.Core.Bool.{Bool, true, false, cond}
use mathlib.Core.List.{List}
use mathlib.Core.Path.{◌≡◌, refl, sym, ap, ◌∙◌, subst}
use borrow.Author.Tests.{ne_eqb, not-false}
use lib.ListN.{length}
use Rattle.std.specs.Prelude.{Option, Some, None, Ok, Err}
use Rattle.answers.specs.declared.Refusal.{Refusal}
use Rattle.answers.specs.Answer.{number_of, carried_of}
use Rattle.registers.specs.declared.Shift.{Shift}
use Rattle.registers.specs.Shift.{shifted}
use Rattle.store.specs.Store.{flagged}
use Rattle.recorder.specs.Recorder.{Identity, Recorder, Mem, Event, Count, Clock, Off, On, Access, Meter, Reset, Rate, Reverse, Ppp, Adjust, mem, cap_of, today_of, with_identity}
use Rattle.recorder.specs.Boundary.{advance_to}
use Rattle.recorder.specs.Effect.{power_lost, accessed, first_flagged, flag_from, turned_on, after}
use Rattle.recorder.specs.Answer.{wrong_power, answer_with, answer_of}
use Rattle.recorder.specs.Step.{Done, done, step}
use Rattle.recorder.specs.Needs.{Good, Goes, Flaggable, time_in, marked_if, told}
use Rattle.recorder.proofs.Answers.{number_some, accepted_power, accepted_clock, accepted_on, accepted_adjust, marked_goes}
use Rattle.recorder.proofs.Boundaries.{same_identity, gone_good}

-- when time has gone on, the identity may as well be the one that was there
same_named : (t : ℕ) (x : Mem) (y : Recorder) (v s m : List ℕ) → Goes t x → mem y v s m ≡ advance_to t x → mem (with_identity x.recorder.identity y) v s m ≡ advance_to t x
same_named t x y v s m g p =
    let e : y.identity ≡ x.recorder.identity = ap (λ (w : Mem). w.recorder.identity) p ∙ same_identity t x g in
    ap (λ (i : Identity). mem (with_identity i y) v s m) (sym e) ∙ p

-- Clock(t) and On(t)
pub on_flags : (t : ℕ) (r y : Recorder) (v s m v₁ s₁ m₁ : List ℕ) → mem y v₁ s₁ m₁ ≡ advance_to t (mem r v s m) → Goes t (mem r v s m)
    → Flaggable (with_identity r.identity y) m₁
on_flags t r y v s m v₁ s₁ m₁ p g =
    let h : Good (mem (with_identity r.identity y) v₁ s₁ m₁) = rw (same_named t (mem r v s m) y v₁ s₁ m₁ g p) (gone_good t (mem r v s m) g) in
    record { time = h.time; words = record { some = h.fits.some; most = h.fits.most; marks = h.fits.marks } }

pub on_done : (t off : ℕ) (r y : Recorder) (v s m v₁ s₁ m₁ l : List ℕ) → off ≡ today_of r → mem y v₁ s₁ m₁ ≡ advance_to t (mem r v s m) → Goes t (mem r v s m)
    → l ≡ flagged (cap_of (with_identity r.identity y)) (first_flagged (with_identity r.identity y) off) (today_of y + 1) power_lost m₁ → r.clock.on ≡ false
    → mem (with_identity r.identity y) v₁ s₁ l ≡ told t (mem r v s m)
unfolding flag_from
on_done t off r y v s m v₁ s₁ m₁ l o p g e z =
    let x = mem r v s m in
    let q : mem (with_identity r.identity y) v₁ s₁ l ≡ turned_on t x = rw (e, o) (ap (λ (w : Mem). flag_from (today_of r) power_lost w) (same_named t x y v₁ s₁ m₁ g p)) in
    q ∙ sym (ap (λ (b : Bool). cond b (advance_to t x) (turned_on t x)) z)

pub clock_done : (t : ℕ) (r y : Recorder) (v s m v₁ s₁ m₁ : List ℕ) → r.clock.on ≡ true → mem y v₁ s₁ m₁ ≡ advance_to t (mem r v s m) → Goes t (mem r v s m)
    → mem (with_identity r.identity y) v₁ s₁ m₁ ≡ told t (mem r v s m)
clock_done t r y v s m v₁ s₁ m₁ o p g = let x = mem r v s m in same_named t x y v₁ s₁ m₁ g p ∙ sym (ap (λ (b : Bool). cond b (advance_to t x) (turned_on t x)) o)

-- an event that tells the time, and one that does not
abbrev Told : Type 0
Told = Option (ℕ × Bool)

no_time : {A : Type 0} (w : ℕ × Bool) → None ≡ Some w → A
no_time w p = absurd (cc)

pub not_told : (now : ℕ) (e : Event) (w : Told) → w ≡ time_in now e → w ≡ None → time_in now e ≡ None
not_told now e w p q = sym p ∙ q

pub no_clock : (now : ℕ) (e : Event) (t : ℕ) → time_in now e ≡ None → e ≡ Clock t → ⊥
no_clock now e t p q = no_time (t, false) (sym p ∙ ap (time_in now) q)

pub no_on : (now : ℕ) (e : Event) (t : ℕ) → time_in now e ≡ None → e ≡ On t → ⊥
no_on now e t p q = no_time (t, false) (sym p ∙ ap (time_in now) q)

pub no_adjust : (now : ℕ) (e : Event) (h : Shift) → time_in now e ≡ None → e ≡ Adjust h → ⊥
no_adjust now e h p q = no_time (shifted now h, true) (sym p ∙ ap (time_in now) q)

module _ (r : Recorder) (v s m : List ℕ) where
  -- time can go on as it is told, the recorder marked first where that is said
  abbrev GoesBy : Told → Type 0
  GoesBy (Some (t, b)) = Goes t (mem (marked_if b r) v s m)
  GoesBy None = Unit {0}

  goes_by : (e : Event) → answer_of (mem r v s m) e ≡ 0 → GoesBy (time_in r.clock.time e)
  goes_by (Count c) a = tt
  goes_by (Clock t) a = accepted_clock r (Clock t) v s m a t refl
  goes_by Off a = tt
  goes_by (On t) a = accepted_on r (On t) v s m a t refl
  goes_by Access a = tt
  goes_by (Meter c) a = tt
  goes_by Reset a = tt
  goes_by (Rate n) a = tt
  goes_by Reverse a = tt
  goes_by (Ppp x y z) a = tt
  goes_by (Adjust h) a = marked_goes (shifted r.clock.time h) (mem r v s m) (accepted_adjust r (Adjust h) v s m a h refl)

  pub told_goes : (y : Recorder) (e : Event) (w : Told) (t : ℕ) (b : Bool) → answer_of (mem r v s m) e ≡ 0 → w ≡ time_in r.clock.time e → w ≡ Some (t, b)
      → y ≡ marked_if b r → Goes t (mem y v s m)
  told_goes y e w t b a p q d = rw d (subst (λ (u : Told). GoesBy u) (sym p ∙ q) (goes_by e a))

  -- and what is done then is what the event does
  abbrev DoneBy : Event → Told → Type 0
  DoneBy e (Some (t, b)) = told t (mem (marked_if b r) v s m) ≡ after (mem r v s m) e
  DoneBy e None = Unit {0}

  by_power : (t : ℕ) (y : Recorder) (b : Bool) → y.clock.on ≡ b → told t (mem y v s m) ≡ cond b (advance_to t (mem y v s m)) (turned_on t (mem y v s m))
  by_power t y b o = ap (λ (b : Bool). cond b (advance_to t (mem y v s m)) (turned_on t (mem y v s m))) o

  done_by : (e : Event) → answer_of (mem r v s m) e ≡ 0 → DoneBy e (time_in r.clock.time e)
  unfolding after wrong_power
  done_by (Count c) a = tt
  done_by (Clock t) a = by_power t r true (not-false r.clock.on (accepted_power r (Clock t) v s m a))
  done_by Off a = tt
  done_by (On t) a = by_power t r false (accepted_power r (On t) v s m a)
  done_by Access a = tt
  done_by (Meter c) a = tt
  done_by Reset a = tt
  done_by (Rate n) a = tt
  done_by Reverse a = tt
  done_by (Ppp x y z) a = tt
  done_by (Adjust h) a = by_power (shifted r.clock.time h) (accessed r) true (not-false r.clock.on (accepted_power r (Adjust h) v s m a))

  pub told_done : (y z : Recorder) (e : Event) (v₁ s₁ m₁ : List ℕ) (w : Told) (t : ℕ) (b : Bool) → answer_of (mem r v s m) e ≡ 0 → w ≡ time_in r.clock.time e → w ≡ Some (t, b)
      → y ≡ marked_if b r → mem z v₁ s₁ m₁ ≡ told t (mem y v s m) → mem z v₁ s₁ m₁ ≡ after (mem r v s m) e
  told_done y z e v₁ s₁ m₁ w t b a p q d g =
      g ∙ ap (λ (k : Recorder). told t (mem k v s m)) d ∙ subst (λ (u : Told). DoneBy e u) (sym p ∙ q) (done_by e a)

-- a step: refused with nothing carried, or accepted and done
module _ (r : Recorder) (e : Event) (v s m : List ℕ) where
  pub step_refused : (x : Refusal) → number_of x ≡ answer_with r e (length v) (length s) (length m) → carried_of x ≡ 0 → done (Err x) r v s m ≡ step (mem r v s m) e
  unfolding step answer_of
  step_refused x p q = rw (← p, q, ne_eqb (number_of x) 0 (number_some x))

  module _ (p : 0 ≡ answer_with r e (length v) (length s) (length m)) where
    pub step_accepted : answer_of (mem r v s m) e ≡ 0
    unfolding answer_of
    step_accepted = sym p

    pub step_done : (u : Unit {0}) (y : Recorder) (v₁ s₁ m₁ : List ℕ) → mem y v₁ s₁ m₁ ≡ after (mem r v s m) e → done (Ok u) y v₁ s₁ m₁ ≡ step (mem r v s m) e
    unfolding step answer_of
    step_done u y v₁ s₁ m₁ q = ap {B = Done} (λ (w : Mem). record { answer = 0; carried = 0; after = w }) q ∙ rw (← p)
