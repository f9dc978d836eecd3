-- The ranges of a recorder's fields (docs/ANSWERS.md, answer 5), as tests that compute.
use Rattle.std.specs.Prelude.{ℕ, Bool, List, [], ◌∷◌, ltb}
use Rattle.format.specs.Identifier.{ident_ok}
use Rattle.laws.specs.Tests.{all_true}
use Rattle.quantity.specs.Units.{reading_round}
use Rattle.registers.specs.declared.Demand.{Demand}
use Rattle.registers.specs.declared.Energy.{Energy}
use Rattle.registers.specs.declared.Present.{Present}
use Rattle.registers.specs.declared.Running.{Running}
use Rattle.registers.specs.Demand.{demand_ok}
use Rattle.registers.specs.Energy.{weight_ok, energy_ok}
use Rattle.registers.specs.Present.{present_ok}
use Rattle.recorder.specs.Recorder.{Identity, Recorder, cap_of}

abbrev pub identity_tests : Identity → List Bool
identity_tests i = ident_ok i.identifier 0 ∷ weight_ok i.weight ∷ []

abbrev pub register_tests : ℕ → Present → Energy → Demand → Running → List Bool
register_tests cap clock energy demand running = present_ok cap clock ∷ energy_ok energy ∷ demand_ok demand ∷ ltb running.base.0 reading_round ∷ []

abbrev pub groups : Recorder → List Bool
groups r = all_true (identity_tests r.identity) ∷ register_tests (cap_of r) r.clock r.energy r.demand r.running

unfoldable pub in_range : Recorder → Bool
in_range r = all_true (groups r)
