-- What the parts of the code ask and answer, by value: of what the recorder's step left, what a table decides.
use Rattle.std.specs.Prelude.{ℕ, ◌≡◌, Result, Ok, Err, Bool, true, false, not, cond, List, ltb, length}
use Rattle.answers.specs.declared.Refusal.{Refusal}
use Rattle.answers.specs.declared.Refusal.TheVariants.{Range, Loaded}
use Rattle.recorder.specs.declared.Event.{Event}
use Rattle.recorder.specs.Answer.{no_class}
use Rattle.tariff.specs.Table.{table_size}
use Rattle.outstation.specs.declared.Outstation.{Outstation}
use Rattle.outstation.specs.declared.Phase.{Phase}
use Rattle.outstation.specs.Outstation.{most_rate, is_rate, tells_time, rate_then}

-- the recorder has a class, the room its length, and the active rate can be chosen
pub record Roomy (o : Outstation) (b : List ℕ) : Type 0 where
  pub class : no_class o.recorder ≡ false
  pub long : length b ≡ table_size
  pub low : ltb (most_rate o.phase) o.recorder.energy.rate ≡ false

-- after an event that the recorder took, with a table loaded or none, on a phase kind: the rate, from the one that the step left and the time after it. A rate too high is a Rate's, since no other event changes it
unfoldable pub rate_after : Bool → Phase → ℕ → ℕ → Event → List ℕ → Result ℕ Refusal
rate_after loaded p rate time e b =
    cond (ltb (most_rate p) rate) (Err Range)
    (cond (not loaded) (Ok rate) (cond (is_rate e) (Err Loaded) (cond (tells_time e) (Ok (rate_then true p b time rate)) (Ok rate))))
