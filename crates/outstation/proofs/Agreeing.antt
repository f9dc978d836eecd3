-- What is kept of an outstation, whatever happens: while a table is loaded the active rate is the one that it says at the present time, and the active rate can always be chosen.
-- Assumes nothing.
use Prim.Native.Nat.{ℕ, ◌≤◌}
use mathlib.Core.Path.{◌≡◌, refl, sym, ap, ◌∙◌}
use mathlib.Core.Bool.{Bool, true, false, ◌&&◌, false≢true}
use mathlib.Core.List.{List, [], ◌∷◌, ◌++◌}
use native.Mathlib.Omega.{arith}
use lib.Dec.{eqb, leb}
use borrow.Author.Tests.{eqb-true, leb-true, le-leb, le-ltb, ltb-false}
use Rattle.laws.proofs.Bools.{and_right}
use Rattle.laws.proofs.Split.{by_test}
use Rattle.registers.specs.Energy.{energy_counted}
use Rattle.recorder.specs.declared.Event.{Event}
use Rattle.recorder.specs.declared.Event.TheVariants.{Count, Clock, Off, On, Access, Meter, Reset, Rate, Reverse, Ppp, Adjust}
use Rattle.recorder.specs.Recorder.{Mem}
use Rattle.recorder.specs.Effect.{flag_today, after as effect}
use Rattle.recorder.specs.Answer.{answer_of as step_answer}
use Rattle.recorder.specs.Step.{step, run as play}
use Rattle.recorder.proofs.Kept.{Sound, step_sound}
use Rattle.tariff.specs.Rate.{rate_at}
use Rattle.tariff.proofs.Order.{exactly_one, none_above}
use Rattle.outstation.specs.declared.Phase.{Phase}
use Rattle.outstation.specs.declared.Phase.TheVariants.{Single}
use Rattle.outstation.specs.Outstation.{most_rate, Site, with_mem, Happening, of, load, single, tells_time, answer_of, may_choose, rate_then, rate_kept, switched, after, happens, run}
use Rattle.outstation.specs.Lives.{told, told_all, Agrees}
use Rattle.outstation.proofs.Steps.{rate_same}
use Rattle.outstation.proofs.Laws.{high_is}
use Rattle.outstation.proofs.Runs.{Named, Keeps, Going, chosen_rate, one, played_sound, event_zero, high_zero, rate_zero, table_zero, room_zero}

-- ---- the rate chosen

then_low : (loaded : Bool) (p : Phase) (b : List ℕ) (t n : ℕ) → n ≤ most_rate p → rate_then loaded p b t n ≤ most_rate p
unfolding rate_then
then_low loaded p b t n l =
    by_test (loaded && may_choose p (rate_at b t))
    (λ h. rw h (leb-true (rate_at b t) (most_rate p) (and_right (leb 1 (rate_at b t)) (leb (rate_at b t) (most_rate p)) (and_right loaded (may_choose p (rate_at b t)) h))))
    (λ h. rw h l)

switch_keeps : (x : Site) → Sound x.mem → x.mem.recorder.energy.rate ≤ most_rate x.phase → (x.loaded ≡ true → Named x.phase x.table) → Keeps (switched x)
switch_keeps x s low k =
    let t = x.mem.recorder.clock.time in
    let n = x.mem.recorder.energy.rate in
    record {
      named = k;
      rate = λ l. ap (λ (d : Bool). rate_then d x.phase x.table t n) l ∙ chosen_rate x.phase x.table (k l) t s.ranges.clock.time n;
      low = then_low x.loaded x.phase x.table t n low;
    }

-- ---- an event

-- one that tells no time leaves it
quiet : (y : Mem) (e : Event) → tells_time e ≡ false → (step y e).after.recorder.clock.time ≡ y.recorder.clock.time
unfolding step effect energy_counted flag_today
quiet y (Count c) q = by_test (eqb (step_answer y (Count c)) 0) (λ h. rw h) (λ h. rw h)
quiet y (Clock t) q = absurd (false≢true (sym q))
quiet y Off q = by_test (eqb (step_answer y Off) 0) (λ h. rw h) (λ h. rw h)
quiet y (On t) q = absurd (false≢true (sym q))
quiet y Access q = by_test (eqb (step_answer y Access) 0) (λ h. rw h) (λ h. rw h)
quiet y (Meter c) q = by_test (eqb (step_answer y (Meter c)) 0) (λ h. rw h) (λ h. rw h)
quiet y Reset q = by_test (eqb (step_answer y Reset) 0) (λ h. rw h) (λ h. rw h)
quiet y (Rate n) q = by_test (eqb (step_answer y (Rate n)) 0) (λ h. rw h) (λ h. rw h)
quiet y Reverse q = by_test (eqb (step_answer y Reverse) 0) (λ h. rw h) (λ h. rw h)
quiet y (Ppp a b c) q = by_test (eqb (step_answer y (Ppp a b c)) 0) (λ h. rw h) (λ h. rw h)
quiet y (Adjust h) q = absurd (false≢true (sym q))

module _ (x : Site) (e : Event) (g : Going x) (z : answer_of x (of e) ≡ 0) where
  abbrev y : Mem
  y = (step x.mem e).after

  step_low : y.recorder.energy.rate ≤ most_rate x.phase
  step_low =
      ltb-false (most_rate x.phase) y.recorder.energy.rate
      (high_is x.phase x.mem (le-ltb (most_rate x.phase) x.mem.recorder.energy.rate g.keeps.low) e (event_zero x e z) ∙ high_zero x e z)

  plain_keeps : tells_time e ≡ false → Keeps (with_mem x y)
  plain_keeps t = record {
    named = g.keeps.named;
    rate = λ l. rate_same x.mem e (rate_zero x e z l) ∙ g.keeps.rate l ∙ ap (λ (n : ℕ). rate_at x.table n) (sym (quiet x.mem e t));
    low = step_low;
  }

  event_keeps : Keeps (after x (of e))
  event_keeps =
      by_test (tells_time e)
      (λ t. rw t (switch_keeps (with_mem x y) (step_sound x.mem e g.sound) step_low g.keeps.named))
      (λ t. rw t (plain_keeps t))

-- ---- it becomes single phase

kept_low : (n : ℕ) → rate_kept n ≤ most_rate Single
unfolding rate_kept
kept_low n = by_test (leb n (most_rate Single)) (λ h. rw h (leb-true n (most_rate Single) h)) (λ h. rw h (omega arith))

kept_same : (n : ℕ) → n ≤ most_rate Single → rate_kept n ≡ n
unfolding rate_kept
kept_same n l = rw (le-leb n (most_rate Single) l)

single_keeps : (x : Site) → Going x → answer_of x single ≡ 0 → Keeps (after x single)
single_keeps x g z =
    let t = x.mem.recorder.clock.time in
    let n = x.mem.recorder.energy.rate in
    record {
      named = λ l. record { accepted = (g.keeps.named l).accepted; below = room_zero x z l };
      rate = λ l.
          let same = g.keeps.rate l in
          kept_same n (rw same (none_above (most_rate Single) x.table (g.keeps.named l).accepted (room_zero x z l) t g.sound.ranges.clock.time)) ∙ same;
      low = kept_low n;
    }

-- ---- whatever happens

happens_keeps : (x : Site) (h : Happening) → Going x → Keeps (happens x h).after
unfolding happens
happens_keeps x (of e) g =
    by_test (eqb (answer_of x (of e)) 0)
    (λ z. rw z (event_keeps x e g (eqb-true (answer_of x (of e)) 0 z)))
    (λ z. rw z g.keeps)
happens_keeps x (load b) g =
    by_test (eqb (answer_of x (load b)) 0)
    (λ z.
    rw z
    (switch_keeps (record { mem = x.mem; loaded = true; phase = x.phase; table = b }) g.sound g.keeps.low (λ l. table_zero x b (eqb-true (answer_of x (load b)) 0 z))))
    (λ z. rw z g.keeps)
happens_keeps x single g =
    by_test (eqb (answer_of x single) 0)
    (λ z. rw z (single_keeps x g (eqb-true (answer_of x single) 0 z)))
    (λ z. rw z g.keeps)

pub goes_on : (x : Site) (h : Happening) → Going x → Going (happens x h).after
goes_on x h g = record {
  sound = rw (← (one x h g)) (played_sound (told x h) x.mem g.sound);
  keeps = happens_keeps x h g;
}

pub going : (hs : List Happening) (x : Site) → Going x → Going (run x hs)
unfolding run
going [] x g = g
going (h ∷ hs) x g = going hs (happens x h).after (goes_on x h g)

-- ---- so it is a run of the recorder's events

play_two : (y : Mem) (es fs : List Event) → play y (es ++ fs) ≡ play (play y es) fs
unfolding play
play_two y [] fs = refl
play_two y (e ∷ es) fs = play_two (step y e).after es fs

pub all : (hs : List Happening) (x : Site) → Going x → play x.mem (told_all x hs) ≡ (run x hs).mem
unfolding told_all run play
all [] x g = refl
all (h ∷ hs) x g =
    play_two x.mem (told x h) (told_all (happens x h).after hs)
    ∙ ap (λ (y : Mem). play y (told_all (happens x h).after hs)) (one x h g)
    ∙ all hs (happens x h).after (goes_on x h g)

pub agrees : (x : Site) → Going x → x.loaded ≡ true → Agrees x
agrees x g l =
    let same = g.keeps.rate l in
    record {
      accepted = (g.keeps.named l).accepted;
      rate = same;
      says = rw same (exactly_one x.table (g.keeps.named l).accepted x.mem.recorder.clock.time g.sound.ranges.clock.time).one;
    }
