-- A time adjust: what holds at both ends of its range, on either side of zero, and everywhere between; and while power is off.
-- Assumes nothing.
use Prim.Native.Nat.{ℕ, ◌+◌, ◌-◌, ◌%◌, ◌/◌, ◌<◌, ◌≤◌}
use mathlib.Core.Path.{◌≡◌, refl, sym, ◌∙◌}
use mathlib.Core.Bool.{Bool, true, false, cond}
use native.Mathlib.Decide.{dec_lt}
use native.Mathlib.Omega.{arith}
use borrow.Author.Tests.{eq-eqb, ne_eqb, lt-ltb, le-ltb, le-leb, lt-leb}
use lib.Dec.{ltb, leb, eqb}
use Rattle.laws.specs.Each.{each}
use Rattle.laws.proofs.Split.{by_dec}
use Rattle.calendar.specs.Clock.{seconds_of_half, times_in_all}
use Rattle.registers.specs.declared.Shift.{Shift}
use Rattle.registers.specs.declared.Shift.TheVariants.{Ahead, Back}
use Rattle.registers.specs.Shift.{too_far, early, late, shifted}
use Rattle.recorder.specs.Recorder.{Recorder, Mem, Clock, Access, Adjust, with}
use Rattle.recorder.specs.Boundary.{advance_to}
use Rattle.recorder.specs.Effect.{accessed, after}
use Rattle.recorder.specs.Answer.{wrong_power, event_answer, answer_of}
use Rattle.recorder.specs.Step.{step}
use Rattle.recorder.specs.Adjusted.{Ready, refuses, stays, closes, Ends, OffRefuses}
use Rattle.recorder.proofs.Ranges.{Ranges, ranges}
use Rattle.recorder.proofs.Answers.{lengths_fit}
use Rattle.recorder.proofs.Kept.{Sound, sound_answer}

in_ranges : (b : Bool) (x : Mem) → Ready b x → Ranges x.recorder
in_ranges b x k = ranges x.recorder k.range

sound : (b : Bool) (x : Mem) → Ready b x → Sound x
sound b x k =
    let r = x.recorder in
    let g = in_ranges b x k in
    record { ranges = g; fits = lengths_fit r x.store.values x.store.starts x.store.marks (omega (arith, g.clock.low, g.clock.high)) k.lengths }

pub off_refuses : (x : Mem) → Ready false x → OffRefuses x
unfolding step event_answer wrong_power
off_refuses x k h =
    let one : answer_of x (Adjust h) ≡ 1 = sound_answer x (Adjust h) (sound false x k) ∙ rw k.on in
    rw one

module _ (x : Mem) (k : Ready true x) where
  abbrev r : Recorder
  r = x.recorder

  abbrev now : ℕ
  now = r.clock.time

  -- the answer, by the three tests, and what is done by it
  answer_is : (h : Shift) → answer_of x (Adjust h) ≡ cond (too_far h) 6 (cond (early now h) 13 (cond (late now h) 2 0))
  unfolding event_answer wrong_power
  answer_is h = sound_answer x (Adjust h) (sound true x k) ∙ rw k.on

  far : (h : Shift) → too_far h ≡ true → step x (Adjust h) ≡ refuses x 6
  unfolding step
  far h e = rw (answer_is h, e)

  before : (h : Shift) → too_far h ≡ false → early now h ≡ true → step x (Adjust h) ≡ refuses x 13
  unfolding step
  before h e f = rw (answer_is h, e, f)

  past : (h : Shift) → too_far h ≡ false → early now h ≡ false → late now h ≡ true → step x (Adjust h) ≡ refuses x 2
  unfolding step
  past h e f g = rw (answer_is h, e, f, g)

  accepted : (h : Shift) → too_far h ≡ false → early now h ≡ false → late now h ≡ false
      → step x (Adjust h) ≡ record { answer = 0; carried = 0; after = advance_to (shifted now h) (with x (accessed r)) }
  unfolding step after
  accepted h e f g = rw (answer_is h, e, f, g)

  -- time in the same half-hour, and in the next
  stays_in : (t : ℕ) → t / seconds_of_half ≡ now / seconds_of_half → record { answer = 0; carried = 0; after = advance_to t (with x (accessed r)) } ≡ stays x t
  unfolding advance_to each
  stays_in t e = let z : t / seconds_of_half - now / seconds_of_half ≡ 0 = omega arith in rw z

  closes_one : (t : ℕ) → t / seconds_of_half ≡ now / seconds_of_half + 1 → record { answer = 0; carried = 0; after = advance_to t (with x (accessed r)) } ≡ closes x t
  unfolding advance_to each
  closes_one t e = let z : t / seconds_of_half - now / seconds_of_half ≡ 1 = omega arith in rw z

  back : (n : ℕ) → n ≤ 900 → step x (Adjust (Back n)) ≡ cond (leb n (now % 1800)) (stays x (now - n)) (refuses x 13)
  back n l =
      by_dec (dec_lt (now % 1800) n)
      (λ y. before (Back n) (le-ltb 900 n l) (lt-ltb (now % 1800) n y) ∙ rw (lt-leb n (now % 1800) y))
      (λ y. let m : n ≤ now % 1800 = omega arith in
      accepted (Back n) (le-ltb 900 n l) (le-ltb (now % 1800) n m) refl ∙ stays_in (now - n) (omega arith) ∙ rw (le-leb n (now % 1800) m))

  goes_ahead : (n : ℕ) → n ≤ 900 → now + n < times_in_all → step x (Adjust (Ahead n)) ≡ cond (leb 1800 (now % 1800 + n)) (closes x (now + n)) (stays x (now + n))
  goes_ahead n l m =
      accepted (Ahead n) (le-ltb 900 n l) refl (lt-leb times_in_all (now + n) m)
      ∙ by_dec (dec_lt (now % 1800 + n) 1800)
      (λ y. stays_in (now + n) (omega arith) ∙ rw (lt-leb 1800 (now % 1800 + n) y))
      (λ y. closes_one (now + n) (omega arith) ∙ rw (le-leb 1800 (now % 1800 + n) (omega arith)))

  ahead : (n : ℕ) → n ≤ 900 → step x (Adjust (Ahead n)) ≡ cond (ltb (now + n) times_in_all) (cond (leb 1800 (now % 1800 + n)) (closes x (now + n)) (stays x (now + n))) (refuses x 2)
  ahead n l =
      by_dec (dec_lt (now + n) times_in_all)
      (λ y. goes_ahead n l y ∙ rw (lt-ltb (now + n) times_in_all y))
      (λ y. let m : times_in_all ≤ now + n = omega arith in
      past (Ahead n) (le-ltb 900 n l) refl (le-leb times_in_all (now + n) m) ∙ rw (le-ltb (now + n) times_in_all m))

  -- the same tests in the words of the ends
  last_second : leb 1800 (now % 1800 + 1) ≡ eqb (now % 1800) 1799
  last_second =
      by_dec (dec_lt (now % 1800) 1799)
      (λ y. lt-leb 1800 (now % 1800 + 1) (omega arith) ∙ sym (ne_eqb (now % 1800) 1799 (λ e. omega arith)))
      (λ y. le-leb 1800 (now % 1800 + 1) (omega arith) ∙ sym (eq-eqb (now % 1800) 1799 (omega arith)))

  second_half : leb 1800 (now % 1800 + 900) ≡ leb 900 (now % 1800)
  second_half =
      by_dec (dec_lt (now % 1800) 900)
      (λ y. lt-leb 1800 (now % 1800 + 900) (omega arith) ∙ sym (lt-leb 900 (now % 1800) y))
      (λ y. le-leb 1800 (now % 1800 + 900) (omega arith) ∙ sym (le-leb 900 (now % 1800) (omega arith)))

  -- a move that moves nothing, once the half-hour is marked
  nothing_moved : (t : ℕ) → t ≡ now → advance_to t (with x (accessed r)) ≡ with x (accessed r)
  unfolding advance_to each
  nothing_moved t e = let z : now / seconds_of_half - now / seconds_of_half ≡ 0 = omega arith in rw (e, z, k.on)

  as_clock : (n : ℕ) → after x (Adjust (Ahead n)) ≡ after (after x Access) (Clock (now + n))
  unfolding after
  as_clock n = refl

  as_access : (after x (Adjust (Ahead 0)) ≡ after x Access) × (after x (Adjust (Back 0)) ≡ after x Access)
  unfolding after
  as_access = (nothing_moved (now + 0) (omega arith), nothing_moved (now - 0) (omega arith))

  pub ends : Ends x
  ends = record {
    at_901_back = far (Back 901) refl;
    at_900_back = back 900 (omega arith);
    at_1_back = back 1 (omega arith);
    at_0_back = back 0 (omega arith) ∙ (let t : now - 0 ≡ now = omega arith in rw (le-leb 0 (now % 1800) (omega arith), t));
    at_0_ahead = goes_ahead 0 (omega arith) (omega (arith, (in_ranges true x k).clock.time))
        ∙ (let t : now + 0 ≡ now = omega arith in rw (lt-leb 1800 (now % 1800 + 0) (omega arith), t));
    at_1_ahead = ahead 1 (omega arith) ∙ rw last_second;
    at_900_ahead = ahead 900 (omega arith) ∙ rw second_half;
    at_901_ahead = far (Ahead 901) refl;
    far_back = λ n l. far (Back n) (lt-ltb 900 n l);
    back = back;
    ahead = ahead;
    far_ahead = λ n l. far (Ahead n) (lt-ltb 900 n l);
    as_clock = as_clock;
    as_access = as_access;
  }
