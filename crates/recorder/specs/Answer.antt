-- The answer to an event (docs/RULES.md, "Answer numbers"): 4, 5, 1, 6, 13, 2, 3 in this order, but 5 first for a recorder without a real class, which has no length to compare.
use Rattle.std.specs.Prelude.{ℕ, Bool, not, List, [], ◌∷◌, eqb, length}
use Rattle.laws.specs.Checks.{Check, check, first_failing}
use Rattle.registers.specs.Energy.{units_with}
use Rattle.store.specs.Class.{right_lengths}
use Rattle.recorder.specs.Recorder.{Recorder, Mem, Event, cap_of}
use Rattle.recorder.specs.Range.{in_range}
pub use Rattle.recorder.specs.Cause.{is_on, bad_value, too_early, in_time, bad_time, most_units, too_much}
unfoldable pub use Rattle.recorder.specs.Cause.{wrong_power}

abbrev pub no_class : Recorder → Bool
no_class r = eqb (cap_of r) 0

-- of a good recorder, by its power, its time and the units that a Count would give
abbrev pub event_checks : Bool → ℕ → (ℕ → ℕ) → Event → List Check
event_checks on now units e =
    check (wrong_power on e) 1 ∷ check (bad_value e) 6 ∷ check (too_early now e) 13 ∷ check (bad_time now e) 2 ∷ check (too_much units e) 3 ∷ []

unfoldable pub event_answer : Bool → ℕ → (ℕ → ℕ) → Event → ℕ
event_answer on now units e = first_failing (event_checks on now units e)

abbrev pub units_after : Recorder → ℕ → ℕ
units_after r c = units_with r.identity.weight r.running.base c r.energy

-- of any recorder, with a store of these lengths
abbrev pub checks : Recorder → Event → ℕ → ℕ → ℕ → List Check
checks r e values starts marks =
    check (no_class r) 5
    ∷ check (not (right_lengths (cap_of r) values starts marks)) 4
    ∷ check (not (in_range r)) 5
    ∷ event_checks r.clock.on r.clock.time (units_after r) e

unfoldable pub answer_with : Recorder → Event → ℕ → ℕ → ℕ → ℕ
answer_with r e values starts marks = first_failing (checks r e values starts marks)

unfoldable pub answer_of : Mem → Event → ℕ
answer_of x e = answer_with x.recorder e (length x.store.values) (length x.store.starts) (length x.store.marks)
