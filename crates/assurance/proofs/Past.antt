-- What had ended stays: a later paper agrees with an earlier one on every half-hour and day that was over.
-- Assumes nothing.
use Prim.Native.Nat.{ℕ, ◌/◌, ◌<◌, ◌≤◌}
use mathlib.Core.Path.{◌≡◌, refl, ◌∙◌}
use mathlib.Core.List.{List, [], ◌∷◌}
use native.Mathlib.Omega.{arith}
use lib.Dec.{eqb}
use borrow.Author.Tests.{eqb-true, le-ltb}
use Rattle.laws.proofs.Split.{by_test}
use Rattle.recorder.specs.declared.SetUp.{SetUp}
use Rattle.recorder.specs.declared.Event.{Event}
use Rattle.recorder.specs.declared.Event.TheVariants.{Count, Clock, Off, On, Access, Meter, Reset, Rate, Reverse, Ppp, Adjust}
use Rattle.assurance.specs.Paper.{Paper, now, today, total_at, flags_of}
use Rattle.assurance.specs.Written.{add_after, writes, due, written, written_all}
use Rattle.assurance.proofs.Marking.{mark_other}
use Rattle.assurance.proofs.Outage.{from_before}
use Rattle.assurance.proofs.Run.{clock_time, on_time, adjust_half}

-- p comes before z, by half-hours (in one of them an Adjust may go back): what had ended at p stands at z, and the totals as each half-hour began, the running one included
pub record Past (s : SetUp) (p z : Paper) : Type 0 where
  pub half : now p ≤ now z
  pub total : (h : ℕ) → h ≤ now p → total_at s z.tape.counts h ≡ total_at s p.tape.counts h
  pub reverse : (h : ℕ) → h < now p → z.tape.marks.reverse h ≡ p.tape.marks.reverse h
  pub level2 : (h : ℕ) → h < now p → z.tape.marks.level2 h ≡ p.tape.marks.level2 h
  pub flags : (d : ℕ) → d < today p → flags_of z.tape.flags d ≡ flags_of p.tape.flags d

past_trans : (s : SetUp) (p u z : Paper) → Past s p u → Past s u z → Past s p z
past_trans s p u z a b = record {
  half = omega (arith, a.half, b.half);
  total = λ h l. b.total h (omega (arith, a.half)) ∙ a.total h l;
  reverse = λ h l. b.reverse h (omega (arith, a.half)) ∙ a.reverse h l;
  level2 = λ h l. b.level2 h (omega (arith, a.half)) ∙ a.level2 h l;
  flags = λ d l. b.flags d (omega (arith, a.half)) ∙ a.flags d l;
}

-- only the time goes on
still : (s : SetUp) (p z : Paper) → now p ≤ now z → z.tape ≡ p.tape → Past s p z
still s p z t e = record { half = t; total = λ h l. rw e; reverse = λ h l. rw e; level2 = λ h l. rw e; flags = λ d l. rw e }

module _ (s : SetUp) (p : Paper) where
  past_event : (e : Event) → due s p e ≡ 0 → Past s p (writes s p e)
  unfolding total_at flags_of add_after
  past_event (Count c) a = record {
    half = omega arith;
    total = λ h l. rw (le-ltb (now p) h l) (omega arith);
    reverse = λ h l. refl;
    level2 = λ h l. refl;
    flags = λ d l. refl;
  }
  past_event (Clock t) a = still s p (writes s p (Clock t)) (omega (arith, (clock_time s p t a).0)) refl
  past_event Off a = still s p (writes s p Off) (omega arith) refl
  past_event (On t) a = record {
    half = omega (arith, (on_time s p t a).0);
    total = λ h l. refl;
    reverse = λ h l. refl;
    level2 = λ h l. refl;
    flags = λ d l. rw (from_before (today p) (t / 86400) p.tape.flags.outage d l);
  }
  past_event Access a = record {
    half = omega arith;
    total = λ h l. refl;
    reverse = λ h l. refl;
    level2 = λ h l. mark_other (now p) p.tape.marks.level2 h (omega arith);
    flags = λ d l. refl;
  }
  past_event (Meter c) a = record {
    half = omega arith;
    total = λ h l. refl;
    reverse = λ h l. refl;
    level2 = λ h l. mark_other (now p) p.tape.marks.level2 h (omega arith);
    flags = λ d l. rw (mark_other (today p) p.tape.flags.meter d (omega arith));
  }
  past_event Reset a = record {
    half = omega arith;
    total = λ h l. refl;
    reverse = λ h l. refl;
    level2 = λ h l. mark_other (now p) p.tape.marks.level2 h (omega arith);
    flags = λ d l. rw (mark_other (today p) p.tape.flags.reset d (omega arith));
  }
  past_event (Rate n) a = still s p (writes s p (Rate n)) (omega arith) refl
  past_event Reverse a = record {
    half = omega arith;
    total = λ h l. refl;
    reverse = λ h l. mark_other (now p) p.tape.marks.reverse h (omega arith);
    level2 = λ h l. refl;
    flags = λ d l. refl;
  }
  past_event (Ppp a b c) ok = record {
    half = omega arith;
    total = λ h l. refl;
    reverse = λ h l. refl;
    level2 = λ h l. mark_other (now p) p.tape.marks.level2 h (omega arith);
    flags = λ d l. refl;
  }
  past_event (Adjust h) a = record {
    half = adjust_half s p h a;
    total = λ g l. refl;
    reverse = λ g l. refl;
    level2 = λ g l. mark_other (now p) p.tape.marks.level2 g (omega arith);
    flags = λ d l. refl;
  }

  pub past_step : (e : Event) → Past s p (written s p e)
  unfolding written
  past_step e = by_test (eqb (due s p e) 0) (λ t. rw t (past_event e (eqb-true (due s p e) 0 t))) (λ t. rw t (still s p p (omega arith) refl))

pub past_all : (s : SetUp) (p : Paper) (es : List Event) → Past s p (written_all s p es)
unfolding written_all
past_all s p [] = still s p p (omega arith) refl
past_all s p (e ∷ es) = past_trans s p (written s p e) _ (past_step s p e) (past_all s (written s p e) es)
