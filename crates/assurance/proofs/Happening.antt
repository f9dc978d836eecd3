-- Marks and flags say exactly what happened.
-- Assumes nothing.
use Prim.Native.Nat.{ℕ, ◌/◌, ◌≤◌}
use mathlib.Core.Path.{◌≡◌, refl, sym, ◌∙◌}
use mathlib.Core.Logic.{◌⊎◌, inl, inr, ⊎_elim, ◌↔◌}
use mathlib.Core.Bool.{Bool, true, false, ◌&&◌, false≢true}
use mathlib.Core.List.{List, [], ◌∷◌}
use native.Mathlib.Omega.{arith}
use lib.Dec.{eqb, leb}
use borrow.Author.Tests.{eqb-true, eqb-false, eq-eqb, leb-true, le-leb}
use Rattle.laws.proofs.Bools.{both, or_iff}
use Rattle.laws.proofs.Split.{by_test}
use Rattle.registers.specs.declared.Shift.{Shift}
use Rattle.recorder.specs.declared.SetUp.{SetUp}
use Rattle.recorder.specs.declared.Event.{Event}
use Rattle.recorder.specs.declared.Event.TheVariants.{Count, Clock, Off, On, Access, Meter, Reset, Rate, Reverse, Ppp, Adjust}
use Rattle.recorder.specs.Answer.{event_answer, wrong_power, is_on}
use Rattle.assurance.specs.Paper.{Tape, Paper, now, today}
use Rattle.assurance.specs.Written.{mark_at, mark_from, writes, due, written, blank_tape, blank_paper, written_all, paper}
use Rattle.assurance.specs.Meaning.{Some, Outage, MeterOn, ResetOn, ReverseIn, Level2In}

mark_iff : (at : ℕ) (f : ℕ → Bool) (q : ℕ) → (mark_at at f q ≡ true) ↔ ((f q ≡ true) ⊎ (q ≡ at))
unfolding mark_at
mark_iff at f q = (
  λ e. ⊎_elim (λ a. inl a) (λ b. inr (eqb-true q at b)) ((or_iff (f q) (eqb q at)).0 e),
  λ e. (or_iff (f q) (eqb q at)).1 (⊎_elim (λ a. inl a) (λ b. inr (eq-eqb q at b)) e),
)

from_iff : (a z : ℕ) (f : ℕ → Bool) (d : ℕ) → (mark_from a z f d ≡ true) ↔ ((f d ≡ true) ⊎ ((a ≤ d) × (d ≤ z)))
unfolding mark_from
from_iff a z f d = (
  λ e. ⊎_elim (λ u. inl u) (λ u. let b = both (leb a d) (leb d z) u in inr (leb-true a d b.0, leb-true d z b.1)) ((or_iff (f d) (leb a d && leb d z)).0 e),
  λ e. (or_iff (f d) (leb a d && leb d z)).1 (⊎_elim (λ u. inl u) (λ u. inr (rw (le-leb a d u.0, le-leb d z u.1))) e),
)

-- ---- one bit of the tape, that an accepted event sets exactly where it is H

module _ (s : SetUp) (f : Tape → Bool) (H : Paper → Event → Type 0) where
  abbrev pub Sets : Type 0
  Sets = (p : Paper) (e : Event) → (f (writes s p e).tape ≡ true) ↔ ((f p.tape ≡ true) ⊎ H p e)

  sets_step : Sets → (p : Paper) (e : Event) → (f (written s p e).tape ≡ true) ↔ ((f p.tape ≡ true) ⊎ ((due s p e ≡ 0) × H p e))
  unfolding written
  sets_step w p e =
      by_test (eqb (due s p e) 0)
      (λ t. rw t (
        λ h. ⊎_elim (λ a. inl a) (λ a. inr (eqb-true (due s p e) 0 t, a)) ((w p e).0 h),
        λ h. (w p e).1 (⊎_elim (λ a. inl a) (λ a. inr a.1) h),
      ))
      (λ t. rw t (λ h. inl h, λ h. ⊎_elim (λ a. a) (λ a. absurd (eqb-false (due s p e) 0 t a.0)) h))

  -- over a list of events: it was set before, or some event set it
  over : Sets → (es : List Event) (p : Paper) → (f (written_all s p es).tape ≡ true) ↔ ((f p.tape ≡ true) ⊎ Some s H p es)
  unfolding written_all
  over w [] p = (λ h. inl h, λ h. ⊎_elim (λ a. a) (λ a. absurd a) h)
  over w (e ∷ es) p =
      let r = over w es (written s p e) in
      let n = sets_step w p e in (
        λ h. ⊎_elim (λ a. ⊎_elim (λ b. inl b) (λ b. inr (inl b)) (n.0 a)) (λ a. inr (inr a)) (r.0 h),
        λ h. r.1 (⊎_elim (λ a. inl (n.1 (inl a))) (λ a. ⊎_elim (λ b. inl (n.1 (inr b))) (λ b. inr b) a) h),
      )

  pub exactly : Sets → f (blank_tape s) ≡ false → (es : List Event) → (f (paper s es).tape ≡ true) ↔ Some s H (blank_paper s) es
  exactly w z es =
      let r = over w es (blank_paper s) in
      (λ h. ⊎_elim (λ a. absurd (false≢true (sym z ∙ a))) (λ a. a) (r.0 h), λ h. r.1 (inr h))

-- an event that is no H; and one that is H where K
quiet : (b : Bool) (H : Type 0) → (H → ⊥) → (b ≡ true) ↔ ((b ≡ true) ⊎ H)
quiet b H n = (λ h. inl h, λ h. ⊎_elim (λ a. a) (λ a. absurd (n a)) h)

loud : {A B K H : Type 0} → A ↔ (B ⊎ K) → (K → H) → (H → K) → A ↔ (B ⊎ H)
loud w to of = (λ a. ⊎_elim (λ b. inl b) (λ k. inr (to k)) (w.0 a), λ a. w.1 (⊎_elim (λ b. inl b) (λ h. inr (of h)) a))

never : ◌≡◌ {A = ℕ} 0 1 → ⊥
never e = omega arith

-- ---- 0x80: an outage touched the day

outage_sets : (s : SetUp) (d : ℕ) → Sets s (λ t. t.flags.outage d) (Outage d)
outage_sets s d p (Count c) = quiet _ _ (λ h. never (cc h.1))
outage_sets s d p (Clock t) = quiet _ _ (λ h. never (cc h.1))
outage_sets s d p Off = quiet _ _ (λ h. never (cc h.1))
outage_sets s d p (On t) =
    loud (from_iff (today p) (t / 86400) p.tape.flags.outage d)
    (λ k. (t, refl, k.0, k.1))
    (λ h. let same : h.0 ≡ t = cc h.1 in (h.2, rw same at h.3))
outage_sets s d p Access = quiet _ _ (λ h. never (cc h.1))
outage_sets s d p (Meter c) = quiet _ _ (λ h. never (cc h.1))
outage_sets s d p Reset = quiet _ _ (λ h. never (cc h.1))
outage_sets s d p (Rate n) = quiet _ _ (λ h. never (cc h.1))
outage_sets s d p Reverse = quiet _ _ (λ h. never (cc h.1))
outage_sets s d p (Ppp a b c) = quiet _ _ (λ h. never (cc h.1))
outage_sets s d p (Adjust g) = quiet _ _ (λ h. never (cc h.1))

pub outage_exactly : (s : SetUp) (es : List Event) (d : ℕ) → ((paper s es).tape.flags.outage d ≡ true) ↔ Some s (Outage d) (blank_paper s) es
unfolding blank_tape
outage_exactly s es d = exactly s (λ t. t.flags.outage d) (Outage d) (outage_sets s d) refl es

-- ---- 0x40: Meter happened on it

meter_sets : (s : SetUp) (d : ℕ) → Sets s (λ t. t.flags.meter d) (MeterOn d)
meter_sets s d p (Count c) = quiet _ _ (λ h. never (cc h.1))
meter_sets s d p (Clock t) = quiet _ _ (λ h. never (cc h.1))
meter_sets s d p Off = quiet _ _ (λ h. never (cc h.1))
meter_sets s d p (On t) = quiet _ _ (λ h. never (cc h.1))
meter_sets s d p Access = quiet _ _ (λ h. never (cc h.1))
meter_sets s d p (Meter c) = loud (mark_iff (today p) p.tape.flags.meter d) (λ k. (c, refl, k)) (λ h. h.2)
meter_sets s d p Reset = quiet _ _ (λ h. never (cc h.1))
meter_sets s d p (Rate n) = quiet _ _ (λ h. never (cc h.1))
meter_sets s d p Reverse = quiet _ _ (λ h. never (cc h.1))
meter_sets s d p (Ppp a b c) = quiet _ _ (λ h. never (cc h.1))
meter_sets s d p (Adjust g) = quiet _ _ (λ h. never (cc h.1))

pub meter_exactly : (s : SetUp) (es : List Event) (d : ℕ) → ((paper s es).tape.flags.meter d ≡ true) ↔ Some s (MeterOn d) (blank_paper s) es
unfolding blank_tape
meter_exactly s es d = exactly s (λ t. t.flags.meter d) (MeterOn d) (meter_sets s d) refl es

-- ---- 0x20: Reset happened on it

reset_sets : (s : SetUp) (d : ℕ) → Sets s (λ t. t.flags.reset d) (ResetOn d)
reset_sets s d p (Count c) = quiet _ _ (λ h. never (cc h.0))
reset_sets s d p (Clock t) = quiet _ _ (λ h. never (cc h.0))
reset_sets s d p Off = quiet _ _ (λ h. never (cc h.0))
reset_sets s d p (On t) = quiet _ _ (λ h. never (cc h.0))
reset_sets s d p Access = quiet _ _ (λ h. never (cc h.0))
reset_sets s d p (Meter c) = quiet _ _ (λ h. never (cc h.0))
reset_sets s d p Reset = loud (mark_iff (today p) p.tape.flags.reset d) (λ k. (refl, k)) (λ h. h.1)
reset_sets s d p (Rate n) = quiet _ _ (λ h. never (cc h.0))
reset_sets s d p Reverse = quiet _ _ (λ h. never (cc h.0))
reset_sets s d p (Ppp a b c) = quiet _ _ (λ h. never (cc h.0))
reset_sets s d p (Adjust g) = quiet _ _ (λ h. never (cc h.0))

pub reset_exactly : (s : SetUp) (es : List Event) (d : ℕ) → ((paper s es).tape.flags.reset d ≡ true) ↔ Some s (ResetOn d) (blank_paper s) es
unfolding blank_tape
reset_exactly s es d = exactly s (λ t. t.flags.reset d) (ResetOn d) (reset_sets s d) refl es

-- ---- a reverse mark

reverse_sets : (s : SetUp) (q : ℕ) → Sets s (λ t. t.marks.reverse q) (ReverseIn q)
reverse_sets s q p (Count c) = quiet _ _ (λ h. never (cc h.0))
reverse_sets s q p (Clock t) = quiet _ _ (λ h. never (cc h.0))
reverse_sets s q p Off = quiet _ _ (λ h. never (cc h.0))
reverse_sets s q p (On t) = quiet _ _ (λ h. never (cc h.0))
reverse_sets s q p Access = quiet _ _ (λ h. never (cc h.0))
reverse_sets s q p (Meter c) = quiet _ _ (λ h. never (cc h.0))
reverse_sets s q p Reset = quiet _ _ (λ h. never (cc h.0))
reverse_sets s q p (Rate n) = quiet _ _ (λ h. never (cc h.0))
reverse_sets s q p Reverse = loud (mark_iff (now p) p.tape.marks.reverse q) (λ k. (refl, k)) (λ h. h.1)
reverse_sets s q p (Ppp a b c) = quiet _ _ (λ h. never (cc h.0))
reverse_sets s q p (Adjust g) = quiet _ _ (λ h. never (cc h.0))

pub reverse_exactly : (s : SetUp) (es : List Event) (q : ℕ) → ((paper s es).tape.marks.reverse q ≡ true) ↔ Some s (ReverseIn q) (blank_paper s) es
unfolding blank_tape
reverse_exactly s es q = exactly s (λ t. t.marks.reverse q) (ReverseIn q) (reverse_sets s q) refl es

-- ---- a Level 2 mark

neither : {e : Event} → (e ≡ Access → ⊥) → (e ≡ Reset → ⊥) → ((c : ℕ) → e ≡ Meter c → ⊥) → ((a b c : ℕ) → e ≡ Ppp a b c → ⊥) → ((g : Shift) → e ≡ Adjust g → ⊥)
    → (e ≡ Access) ⊎ ((e ≡ Reset) ⊎ (((c : ℕ) × (e ≡ Meter c)) ⊎ (((a : ℕ) × (b : ℕ) × (c : ℕ) × (e ≡ Ppp a b c)) ⊎ ((g : Shift) × (e ≡ Adjust g))))) → ⊥
neither a r m x j h =
    ⊎_elim a (λ k. ⊎_elim r (λ n. ⊎_elim (λ u. m u.0 u.1) (λ o. ⊎_elim (λ u. x u.0 u.1 u.2 u.3) (λ u. j u.0 u.1) o) n) k) h

level2_sets : (s : SetUp) (q : ℕ) → Sets s (λ t. t.marks.level2 q) (Level2In q)
level2_sets s q p (Count c) = quiet _ _ (λ h. neither (λ e. never (cc e)) (λ e. never (cc e)) (λ c e. never (cc e)) (λ a b c e. never (cc e)) (λ g e. never (cc e)) h.0)
level2_sets s q p (Clock t) = quiet _ _ (λ h. neither (λ e. never (cc e)) (λ e. never (cc e)) (λ c e. never (cc e)) (λ a b c e. never (cc e)) (λ g e. never (cc e)) h.0)
level2_sets s q p Off = quiet _ _ (λ h. neither (λ e. never (cc e)) (λ e. never (cc e)) (λ c e. never (cc e)) (λ a b c e. never (cc e)) (λ g e. never (cc e)) h.0)
level2_sets s q p (On t) = quiet _ _ (λ h. neither (λ e. never (cc e)) (λ e. never (cc e)) (λ c e. never (cc e)) (λ a b c e. never (cc e)) (λ g e. never (cc e)) h.0)
level2_sets s q p Access = loud (mark_iff (now p) p.tape.marks.level2 q) (λ k. (inl refl, k)) (λ h. h.1)
level2_sets s q p (Meter c) = loud (mark_iff (now p) p.tape.marks.level2 q) (λ k. (inr (inr (inl (c, refl))), k)) (λ h. h.1)
level2_sets s q p Reset = loud (mark_iff (now p) p.tape.marks.level2 q) (λ k. (inr (inl refl), k)) (λ h. h.1)
level2_sets s q p (Rate n) = quiet _ _ (λ h. neither (λ e. never (cc e)) (λ e. never (cc e)) (λ c e. never (cc e)) (λ a b c e. never (cc e)) (λ g e. never (cc e)) h.0)
level2_sets s q p Reverse = quiet _ _ (λ h. neither (λ e. never (cc e)) (λ e. never (cc e)) (λ c e. never (cc e)) (λ a b c e. never (cc e)) (λ g e. never (cc e)) h.0)
level2_sets s q p (Ppp a b c) = loud (mark_iff (now p) p.tape.marks.level2 q) (λ k. (inr (inr (inr (inl (a, b, c, refl)))), k)) (λ h. h.1)
level2_sets s q p (Adjust g) = loud (mark_iff (now p) p.tape.marks.level2 q) (λ k. (inr (inr (inr (inr (g, refl)))), k)) (λ h. h.1)

pub level2_exactly : (s : SetUp) (es : List Event) (q : ℕ) → ((paper s es).tape.marks.level2 q ≡ true) ↔ Some s (Level2In q) (blank_paper s) es
unfolding blank_tape
level2_exactly s es q = exactly s (λ t. t.marks.level2 q) (Level2In q) (level2_sets s q) refl es

-- while power is off nothing but On is written: the paper that On finds is that of Off
pub off_still : (s : SetUp) (p : Paper) (e : Event) → p.on ≡ false → is_on e ≡ false → written s p e ≡ p
unfolding written due event_answer wrong_power
off_still s p e off other = rw (other, off)
