-- A step (docs/RULES.md, "Events"): each event takes the recorder and hands the recorder back, with the answer. Every refusal changes nothing.
use Rattle.std.specs.Prelude.{ℕ, Result, Ok, Err, cond, List, [], ◌∷◌, eqb}
use Rattle.answers.specs.declared.Refusal.{Refusal}
use Rattle.answers.specs.Answer.{carried_of, judged_as}
use Rattle.recorder.specs.Recorder.{Recorder, Mem, mem, Event}
use Rattle.recorder.specs.Effect.{after}
use Rattle.recorder.specs.Answer.{answer_of}

-- a recorder beside an answer number and what it carries
pub record Stepped : Type 0 where
  pub recorder : Recorder
  pub answer : ℕ
  pub carried : ℕ

-- what a call hands back: the answer, what it carries, and the recorder with the store as it leaves them
pub record Done : Type 0 where
  pub answer : ℕ
  pub carried : ℕ
  pub after : Mem

abbrev pub carried_by : Result (Unit {0}) Refusal → ℕ
carried_by (Ok u) = 0
carried_by (Err r) = carried_of r

abbrev pub done : Result (Unit {0}) Refusal → Recorder → List ℕ → List ℕ → List ℕ → Done
done a r v s m = record { answer = judged_as a; carried = carried_by a; after = mem r v s m }

unfoldable pub step : Mem → Event → Done
step x e = record { answer = answer_of x e; carried = 0; after = cond (eqb (answer_of x e) 0) (after x e) x }

-- events one after another
unfoldable pub run : Mem → List Event → Mem
run x [] = x
run x (e ∷ es) = run (step x e).after es
