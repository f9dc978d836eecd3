-- Set-up (docs/RULES.md, "Set-up"): power is on, rate 1 is active, rate registers, demands and reset count are zero, there was no reset; the first day is stored.
-- A value out of range is 6, and that before a store of another length, 4. A refused set-up returns one fixed blank recorder, and leaves the store.
use Rattle.std.specs.Prelude.{ℕ, Result, Ok, Err, ◌/◌, Bool, true, false, not, cond, List, [], ◌∷◌, ltb, leb, eqb, length, replicate}
use Rattle.answers.specs.declared.Refusal.{Refusal}
use Rattle.answers.specs.Answer.{number_of, carried_of}
use Rattle.format.specs.Identifier.{ident_length, ident_ok}
use Rattle.laws.specs.Checks.{Check, check, first_failing}
use Rattle.laws.specs.Tests.{all_true}
use Rattle.quantity.specs.declared.MilliwattHours.{MilliwattHours}
use Rattle.quantity.specs.Units.{total_round, reading_of, last_four}
use Rattle.registers.specs.declared.Energy.{Energy}
use Rattle.registers.specs.declared.Present.{Present}
use Rattle.registers.specs.Demand.{no_demand}
use Rattle.registers.specs.Energy.{no_energy, weight_ok, energy_from, running_from}
use Rattle.calendar.specs.Clock.{seconds_of_half, times_in_all}
use Rattle.store.specs.declared.Class.{Class}
use Rattle.store.specs.declared.Class.TheVariants.{Blank}
use Rattle.store.specs.Begun.{begun}
use Rattle.store.specs.Class.{days_of, right_lengths}
use Rattle.store.specs.Store.{Store}
use Rattle.recorder.specs.declared.SetUp.{SetUp}
use Rattle.recorder.specs.Recorder.{Identity, Recorder, Mem, mem}
use Rattle.recorder.specs.Step.{Done}

abbrev pub given : List ℕ → Class → MilliwattHours → ℕ → MilliwattHours → ℕ → SetUp
given identifier class weight time total counter =
    record { identifier = identifier; class = class; weight = weight; time = time; total = total; counter = counter }

abbrev pub set_up_tests : SetUp → List Bool
set_up_tests s =
    ident_ok s.identifier 0 ∷ leb 1 (days_of s.class) ∷ weight_ok s.weight ∷ ltb s.time times_in_all ∷ ltb s.total.0 total_round ∷ []

-- with a store of these lengths
abbrev pub set_up_checks : SetUp → ℕ → ℕ → ℕ → List Check
set_up_checks s values starts marks =
    check (not (all_true (set_up_tests s))) 6
    ∷ check (not (right_lengths (days_of s.class) values starts marks)) 4 ∷ []

unfoldable pub set_up_with : SetUp → ℕ → ℕ → ℕ → ℕ
set_up_with s values starts marks = first_failing (set_up_checks s values starts marks)

abbrev pub set_up_answer : SetUp → Store → ℕ
set_up_answer s x = set_up_with s (length x.values) (length x.starts) (length x.marks)

-- demands and reset count zero, no reset, the running half-hour unmarked and at the present reading
unfoldable pub started : Identity → Present → Energy → Recorder
started identity clock energy =
    record { identity = identity; clock = clock; energy = energy; demand = no_demand; running = running_from (reading_of energy.total) }

unfoldable pub fresh : SetUp → Recorder
fresh s =
    started (record { identifier = s.identifier; class = s.class; weight = s.weight }) (record { time = s.time; on = true; days = 1 }) (energy_from s.total s.counter 1)

-- no class, and zeros
unfoldable pub blank : Recorder
blank = started (record { identifier = replicate ident_length 0; class = Blank; weight = no_energy }) (record { time = 0; on = false; days = 0 }) (energy_from no_energy 0 0)

abbrev pub store_begun : SetUp → Store
store_begun s =
    let reading = reading_of s.total in
    begun (days_of s.class) (s.time / seconds_of_half) (last_four reading).0 reading.0

unfoldable pub made : SetUp → Mem
made s = record { recorder = fresh s; store = store_begun s }

unfoldable pub set_up : SetUp → Store → Done
set_up s x =
    record { answer = set_up_answer s x; carried = 0; after = cond (eqb (set_up_answer s x) 0) (made s) (record { recorder = blank; store = x }) }
