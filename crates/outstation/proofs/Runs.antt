-- An outstation with a table is one without, at which someone sends the Rate events: so every theorem about runs of the recorder holds of it.
-- Assumes nothing.
use Prim.Native.Nat.{ℕ, ◌<◌, ◌≤◌}
use mathlib.Core.Path.{◌≡◌, refl, sym, ◌∙◌}
use mathlib.Core.Bool.{Bool, true, false, not, cond, false≢true}
use mathlib.Core.List.{List, [], ◌∷◌}
use lib.Dec.{eqb, ltb, leb}
use lib.ListN.{length}
use borrow.Author.Tests.{eqb-true, eqb-false, le-leb}
use Rattle.laws.specs.Checks.{first_failing}
use Rattle.laws.proofs.Bools.{both_of}
use Rattle.laws.proofs.Split.{by_test}
use Rattle.calendar.specs.Clock.{times_in_all}
use Rattle.registers.specs.Energy.{rate_ok}
use Rattle.recorder.specs.declared.Event.{Event}
use Rattle.recorder.specs.declared.Event.TheVariants.{Count, Clock, Off, On, Access, Meter, Reset, Rate, Reverse, Ppp, Adjust}
use Rattle.recorder.specs.Recorder.{Mem, with}
use Rattle.recorder.specs.Boundary.{advance_to}
use Rattle.recorder.specs.Effect.{rate_is, flag_from, after as effect}
use Rattle.recorder.specs.Answer.{no_class, wrong_power, units_after, event_answer, answer_of as step_answer}
use Rattle.recorder.specs.Step.{step, run as play}
use Rattle.recorder.proofs.Kept.{Sound, step_sound, sound_answer}
use Rattle.tariff.specs.Table.{table_size}
use Rattle.tariff.specs.Judge.{names_above, judged}
use Rattle.tariff.specs.Rate.{rate_at}
use Rattle.tariff.proofs.Order.{exactly_one, is_rate_lem, none_above}
use Rattle.outstation.specs.declared.Phase.{Phase}
use Rattle.outstation.specs.declared.Phase.TheVariants.{Single}
use Rattle.outstation.specs.Outstation.{most_rate, Site, Happening, of, load, single, is_rate, tells_time, too_high, asked, own_checks, misfit, answer_of, may_choose, rate_then, rate_kept, switched, after, happens}
use Rattle.outstation.specs.Lives.{moves, told}

-- ---- what is kept: of the table nothing is said where none is loaded

pub record Named (p : Phase) (b : List ℕ) : Type 0 where
  pub accepted : judged b ≡ 0
  pub below : names_above (most_rate p) b ≡ false

pub record Keeps (x : Site) : Type 0 where
  pub named : x.loaded ≡ true → Named x.phase x.table
  pub rate : x.loaded ≡ true → x.mem.recorder.energy.rate ≡ rate_at x.table x.mem.recorder.clock.time
  pub low : x.mem.recorder.energy.rate ≤ most_rate x.phase

pub record Going (x : Site) : Type 0 where
  pub sound : Sound x.mem
  pub keeps : Keeps x

-- ---- the table's rate can be chosen

module _ (p : Phase) (b : List ℕ) (k : Named p b) (t : ℕ) (l : t < times_in_all) where
  may : may_choose p (rate_at b t) ≡ true
  may =
      both_of (leb 1 (rate_at b t)) (leb (rate_at b t) (most_rate p))
      (le-leb 1 (rate_at b t) (exactly_one b k.accepted t l).least)
      (le-leb (rate_at b t) (most_rate p) (none_above (most_rate p) b k.accepted k.below t l))

  pub chosen_rate : (n : ℕ) → rate_then true p b t n ≡ rate_at b t
  unfolding rate_then
  chosen_rate n = rw may

-- ---- a Rate event at a sound recorder with power on

rate_answer : (y : Mem) (n : ℕ) → Sound y → y.recorder.clock.on ≡ true → step_answer y (Rate n) ≡ cond (not (rate_ok n)) 6 0
unfolding event_answer wrong_power
rate_answer y n s on = sound_answer y (Rate n) s ∙ rw on

rate_moves : (y : Mem) (n : ℕ) → Sound y → y.recorder.clock.on ≡ true → (step y (Rate n)).after ≡ with y (rate_is (cond (rate_ok n) n y.recorder.energy.rate) y.recorder)
unfolding step effect
rate_moves y n s on =
    by_test (rate_ok n)
    (λ h. rw (rate_answer y n s on, h))
    (λ h. rw (rate_answer y n s on, h))

switch_moves : (x : Site) → Sound x.mem → x.mem.recorder.clock.on ≡ true → x.loaded ≡ true → Named x.phase x.table
    → (step x.mem (Rate (rate_at x.table x.mem.recorder.clock.time))).after ≡ (switched x).mem
switch_moves x s on l k =
    let t = x.mem.recorder.clock.time in
    rate_moves x.mem (rate_at x.table t) s on
    ∙ rw (is_rate_lem x.table k.accepted t s.ranges.clock.time, l, chosen_rate x.phase x.table k t s.ranges.clock.time x.mem.recorder.energy.rate)

switch_stays : (x : Site) → x.loaded ≡ false → x.mem ≡ (switched x).mem
unfolding rate_then
switch_stays x l = rw l

-- ---- after Clock, On and Adjust power is on

told_on : (y : Mem) (e : Event) → tells_time e ≡ true → (step y e).answer ≡ 0 → (step y e).after.recorder.clock.on ≡ true
unfolding step effect advance_to flag_from
told_on y (Count c) h a = absurd (false≢true h)
told_on y (Clock t) h a = rw a
told_on y Off h a = absurd (false≢true h)
told_on y (On t) h a = rw a
told_on y Access h a = absurd (false≢true h)
told_on y (Meter c) h a = absurd (false≢true h)
told_on y Reset h a = absurd (false≢true h)
told_on y (Rate n) h a = absurd (false≢true h)
told_on y Reverse h a = absurd (false≢true h)
told_on y (Ppp a₁ b₁ c₁) h a = absurd (false≢true h)
told_on y (Adjust g) h a = rw a

-- ---- what an answer of 0 says

passes : (a r : ℕ) → cond (not (eqb a 0)) a r ≡ 0 → a ≡ 0
passes a r h = by_test (eqb a 0) (λ z. eqb-true a 0 z) (λ z. rw z at h)

later : (b : Bool) (n r : ℕ) → (n ≡ 0 → ⊥) → cond b n r ≡ 0 → r ≡ 0
later true n r ne h = absurd (ne h)
later false n r ne h = h

some : (n : ℕ) → eqb n 0 ≡ false → n ≡ 0 → ⊥
some n h e = eqb-false n 0 h e

second : (a r : ℕ) → cond (not (eqb a 0)) a r ≡ 0 → r ≡ 0
second a r h = by_test (eqb a 0) (λ z. rw z at h) (λ z. absurd (eqb-false a 0 z (rw z at h)))

-- the recorder's answer is 0, and no check of the outstation's own fails
record Zero (x : Site) (h : Happening) : Type 0 where
  step : (step x.mem (asked h)).answer ≡ 0
  own : first_failing (own_checks x h) ≡ 0

zero_is : (x : Site) (h : Happening) → answer_of x h ≡ 0 → Zero x h
unfolding answer_of
zero_is x h e =
    let a = (step x.mem (asked h)).answer in
    let rest = first_failing (own_checks x h) in
    let judge : ℕ = cond (not (eqb a 0)) a rest in
    let high : ℕ = cond (ltb (most_rate x.phase) x.mem.recorder.energy.rate) 5 judge in
    let fits : ℕ = cond (misfit x.mem) 4 high in
    let k =
    later (ltb (most_rate x.phase) x.mem.recorder.energy.rate) 5 judge (some 5 refl)
    (later (misfit x.mem) 4 high (some 4 refl)
    (later (not (eqb (length x.table) table_size)) 4 fits (some 4 refl) (later (no_class x.mem.recorder) 5 (cond (not (eqb (length x.table) table_size)) 4 fits) (some 5 refl) e))) in
    record { step = passes a rest k; own = second a rest k }

pub event_zero : (x : Site) (e : Event) → answer_of x (of e) ≡ 0 → (step x.mem e).answer ≡ 0
event_zero x e h = (zero_is x (of e) h).step

load_zero : (x : Site) (b : List ℕ) → answer_of x (load b) ≡ 0 → (step x.mem (Rate 1)).answer ≡ 0
load_zero x b h = (zero_is x (load b) h).step

single_zero : (x : Site) → answer_of x single ≡ 0 → (step x.mem (Rate 1)).answer ≡ 0
single_zero x h = (zero_is x single h).step

-- a Rate that is too high is not accepted, and none is while a table is loaded
pub high_zero : (x : Site) (e : Event) → answer_of x (of e) ≡ 0 → too_high x.phase e ≡ false
high_zero x e h = by_test (too_high x.phase e) (λ t. absurd (some 6 refl (rw t at (zero_is x (of e) h).own))) (λ t. t)

pub rate_zero : (x : Site) (e : Event) → answer_of x (of e) ≡ 0 → x.loaded ≡ true → is_rate e ≡ false
rate_zero x e h l = by_test (is_rate e) (λ t. absurd (some 15 refl (rw (high_zero x e h, t, l) at (zero_is x (of e) h).own))) (λ t. t)

-- an accepted load's table is accepted and names no rate too high, and so does the one that is loaded where it becomes single phase
pub table_zero : (x : Site) (b : List ℕ) → answer_of x (load b) ≡ 0 → Named x.phase b
table_zero x b h =
    let own = (zero_is x (load b) h).own in
    by_test (names_above (most_rate x.phase) b)
    (λ t. absurd (some 6 refl (rw t at own)))
    (λ t. record { accepted = passes (judged b) 0 (rw t at own); below = t })

pub room_zero : (x : Site) → answer_of x single ≡ 0 → x.loaded ≡ true → names_above (most_rate Single) x.table ≡ false
room_zero x h l =
    by_test (names_above (most_rate Single) x.table)
    (λ t. absurd (some 6 refl (rw (l, t) at (zero_is x single h).own)))
    (λ t. t)

off_refused : (on : Bool) (now : ℕ) (units : ℕ → ℕ) → on ≡ false → event_answer on now units (Rate 1) ≡ 1
unfolding event_answer wrong_power
off_refused on now units h = rw h

ready_on : (y : Mem) → Sound y → (step y (Rate 1)).answer ≡ 0 → y.recorder.clock.on ≡ true
unfolding step
ready_on y s h =
    by_test y.recorder.clock.on
    (λ t. t)
    (λ t. absurd (some 1 refl (sym (off_refused y.recorder.clock.on y.recorder.clock.time (units_after y.recorder) t) ∙ sym (sound_answer y (Rate 1) s) ∙ h)))

-- ---- one happening

one_event : (x : Site) (e : Event) → Going x → (step x.mem e).answer ≡ 0 → play x.mem (moves x (of e)) ≡ (after x (of e)).mem
unfolding play
one_event x e g a =
    let y = (step x.mem e).after in
    by_test (tells_time e)
    (λ t. by_test x.loaded
    (λ l.
    let k = g.keeps.named l in
    rw (t, l) (switch_moves (record { mem = y; loaded = true; phase = x.phase; table = x.table }) (step_sound x.mem e g.sound) (told_on x.mem e t a) refl k))
    (λ l. rw (t, l) (switch_stays (record { mem = y; loaded = false; phase = x.phase; table = x.table }) refl)))
    (λ t. rw t)

one_load : (x : Site) (b : List ℕ) → Sound x.mem → answer_of x (load b) ≡ 0 → play x.mem (moves x (load b)) ≡ (after x (load b)).mem
unfolding play
one_load x b s a = switch_moves (record { mem = x.mem; loaded = true; phase = x.phase; table = b }) s (ready_on x.mem s (load_zero x b a)) refl (table_zero x b a)

one_single : (x : Site) → Sound x.mem → answer_of x single ≡ 0 → play x.mem (moves x single) ≡ (after x single).mem
unfolding play rate_kept
one_single x s a =
    by_test (leb x.mem.recorder.energy.rate (most_rate Single))
    (λ t. rw t)
    (λ t. rw t (rate_moves x.mem 1 s (ready_on x.mem s (single_zero x a))))

pub one : (x : Site) (h : Happening) → Going x → play x.mem (told x h) ≡ (happens x h).after.mem
unfolding told happens play
one x (of e) g = by_test (eqb (answer_of x (of e)) 0) (λ z. rw z (one_event x e g (event_zero x e (eqb-true _ 0 z)))) (λ z. rw z)
one x (load b) g = by_test (eqb (answer_of x (load b)) 0) (λ z. rw z (one_load x b g.sound (eqb-true _ 0 z))) (λ z. rw z)
one x single g = by_test (eqb (answer_of x single) 0) (λ z. rw z (one_single x g.sound (eqb-true _ 0 z))) (λ z. rw z)

pub played_sound : (es : List Event) (y : Mem) → Sound y → Sound (play y es)
unfolding play
played_sound [] y s = s
played_sound (e ∷ es) y s = played_sound es (step y e).after (step_sound y e s)
