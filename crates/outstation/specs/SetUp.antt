-- Set-up of an outstation: the recorder's, with 4 for the room of the table as well, and a phase kind. It begins with no table loaded and a room of zeros, so that no earlier site's table stays behind.
use Rattle.std.specs.Prelude.{ℕ, Result, Ok, Err, false, not, cond, List, [], ◌∷◌, ◌++◌, eqb, length, replicate}
use Rattle.answers.specs.declared.Refusal.{Refusal}
use Rattle.answers.specs.Answer.{number_of, carried_of}
use Rattle.laws.specs.Checks.{Check, check, first_failing}
use Rattle.store.specs.Store.{Store}
use Rattle.recorder.specs.declared.SetUp.{SetUp}
use Rattle.recorder.specs.SetUp.{set_up_checks, made, blank}
use Rattle.tariff.specs.Table.{table_size}
use Rattle.outstation.specs.declared.Outstation.{Outstation}
use Rattle.outstation.specs.declared.Phase.{Phase}
use Rattle.outstation.specs.declared.Phase.TheVariants.{Poly}
use Rattle.outstation.specs.Outstation.{Site, site, Done}

abbrev pub site_checks : SetUp → Store → List ℕ → List Check
site_checks s x b =
    set_up_checks s (length x.values) (length x.starts) (length x.marks) ++ (check (not (eqb (length b) table_size)) 4 ∷ [])

abbrev pub begun : SetUp → Phase → Site
begun s p = record { mem = made s; loaded = false; phase = p; table = replicate table_size 0 }

abbrev pub blank_outstation : Outstation
blank_outstation = record { recorder = blank; loaded = false; phase = Poly }

-- refused: no recorder, no table loaded, store and room as they were
abbrev pub not_begun : Store → List ℕ → Site
not_begun x b = record { mem = record { recorder = blank; store = x }; loaded = false; phase = Poly; table = b }

unfoldable pub set_up_site : SetUp → Phase → Store → List ℕ → Done
set_up_site s p x b =
    let a = first_failing (site_checks s x b) in
    record { answer = a; carried = 0; after = cond (eqb a 0) (begun s p) (not_begun x b) }

-- what a set-up hands back, in those terms
abbrev pub begun_as : Result Outstation Refusal → List ℕ → List ℕ → List ℕ → List ℕ → Done
begun_as (Ok o) v s m b = record { answer = 0; carried = 0; after = site o v s m b }
begun_as (Err e) v s m b = record { answer = number_of e; carried = carried_of e; after = site blank_outstation v s m b }
