-- An Adjust: the recorder's answer, and the table's rate at the new time.
-- Assumes nothing.
use Prim.Native.Nat.{ℕ, ◌≤◌}
use mathlib.Core.Path.{◌≡◌, refl, sym, ap, ◌∙◌}
use mathlib.Core.Bool.{true, not, cond}
use lib.Dec.{eqb}
use lib.ListN.{length}
use borrow.Author.Tests.{eq-eqb, eqb-true, le-ltb}
use Rattle.laws.proofs.Split.{by_test}
use Rattle.registers.specs.declared.Shift.{Shift}
use Rattle.registers.specs.Shift.{shifted}
use Rattle.recorder.specs.declared.Event.TheVariants.{Adjust}
use Rattle.recorder.specs.Recorder.{Mem, with}
use Rattle.recorder.specs.Boundary.{advance_to}
use Rattle.recorder.specs.Effect.{accessed, rate_is, after as effect}
use Rattle.recorder.specs.Answer.{no_class, answer_with, answer_of as step_answer}
use Rattle.recorder.specs.Step.{step}
use Rattle.tariff.specs.Table.{table_size}
use Rattle.outstation.specs.Outstation.{most_rate, Site, Done, with_mem, of, answer_of, rate_then, happens}
use Rattle.outstation.specs.Adjusted.{SiteAdjusts}
use Rattle.outstation.proofs.Steps.{rate_same}
use Rattle.outstation.proofs.Laws.{absorbed, happens_refused, happens_done}

-- a recorder without a class is refused with 5 by itself, too
classless : (y : Mem) (h : Shift) → no_class y.recorder ≡ true → step_answer y (Adjust h) ≡ 5
unfolding step_answer answer_with
classless y h z = rw z

first : (a : ℕ) → cond (not (eqb a 0)) a 0 ≡ a
first a = by_test (eqb a 0) (λ z. rw z (sym (eqb-true a 0 z))) (λ z. rw z)

answer_is : (x : Site) (h : Shift) → length x.table ≡ table_size → x.mem.recorder.energy.rate ≤ most_rate x.phase → answer_of x (of (Adjust h)) ≡ (step x.mem (Adjust h)).answer
unfolding answer_of step
answer_is x h l low =
    by_test (no_class x.mem.recorder)
    (λ z. rw (z, classless x.mem h z))
    (λ z.
    rw (z, eq-eqb (length x.table) table_size l, le-ltb (most_rate x.phase) x.mem.recorder.energy.rate low)
    (absorbed x.mem (Adjust h) 0 z ∙ first (step_answer x.mem (Adjust h))))

module _ (y : Mem) (h : Shift) (a : (step y (Adjust h)).answer ≡ 0) where
  abbrev new : ℕ
  new = shifted y.recorder.clock.time h

  leaves : (step y (Adjust h)).after ≡ advance_to new (with y (accessed y.recorder))
  unfolding step effect
  leaves = rw a

  time_is : (step y (Adjust h)).after.recorder.clock.time ≡ new
  unfolding advance_to
  time_is = ap (λ (z : Mem). z.recorder.clock.time) leaves

  rate_is_lem : (step y (Adjust h)).after.recorder.energy.rate ≡ y.recorder.energy.rate
  rate_is_lem = rate_same y (Adjust h) refl

module _ (x : Site) (h : Shift) (l : length x.table ≡ table_size) (low : x.mem.recorder.energy.rate ≤ most_rate x.phase) (a : (step x.mem (Adjust h)).answer ≡ 0) where
  abbrev y : Mem
  y = (step x.mem (Adjust h)).after

  -- accepted, where the rate is chosen at time t with rate n active
  abbrev chosen_at : ℕ → ℕ → Done
  chosen_at t n = record { answer = 0; carried = 0; after = with_mem x (with y (rate_is (rate_then x.loaded x.phase x.table t n) y.recorder)) }

  accepted : happens x (of (Adjust h)) ≡ chosen_at (shifted x.mem.recorder.clock.time h) x.mem.recorder.energy.rate
  accepted =
      happens_done x (of (Adjust h)) (answer_is x h l low ∙ a)
      ∙ ap (λ (t : ℕ). chosen_at t y.recorder.energy.rate) (time_is x.mem h a)
      ∙ ap (λ (n : ℕ). chosen_at (shifted x.mem.recorder.clock.time h) n) (rate_is_lem x.mem h a)

pub adjusts : SiteAdjusts
adjusts x h l low = record {
  refused = λ n. happens_refused x (of (Adjust h)) (step x.mem (Adjust h)).answer (answer_is x h l low) n;
  accepted = λ a. accepted x h l low a;
}
