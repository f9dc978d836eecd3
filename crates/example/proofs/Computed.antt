-- The life computed: every number comes out by evaluating the definitions.
-- Assumes nothing.
use mathlib.Core.Path.{◌≡◌, refl}
use mathlib.Core.List.{[], ◌∷◌, map}
use lib.ListN.{length}
use Rattle.assurance.specs.Delivered.{answers_all}
use Rattle.assurance.specs.Run.{blocks_in}
use Rattle.orders.proofs.Opens.{opens as opens_under}
use Rattle.recorder.specs.SetUp.{set_up}
use Rattle.ledger.specs.Open.{open_of}
use Rattle.rooms.specs.View.{view_of}
use Rattle.example.specs.Example.{answers_to, identifier, meter, lent, calls, block, ledger, newly_by}

-- what is opened for that
opens : Unit {0}
unfolding opens_under answers_all blocks_in answers_to
opens = tt

pub begins : (set_up meter lent).answer ≡ 0
unfolding opens
begins = refl

pub well : (open_of ledger identifier 0 3).answer ≡ 0
unfolding opens
well = refl

pub answers : answers_to (set_up meter lent).after calls ≡ 0 ∷ 0 ∷ 0 ∷ 0 ∷ 0 ∷ 0 ∷ 0 ∷ 0 ∷ 1 ∷ 0 ∷ 0 ∷ []
unfolding opens
answers = refl

pub bytes : map length (blocks_in (set_up meter lent).after calls) ≡ 331 ∷ 331 ∷ 769 ∷ []
unfolding opens
bytes = refl

pub outage : map (view_of (block 2)).flags (0 ∷ 1 ∷ 2 ∷ []) ≡ 128 ∷ 128 ∷ 128 ∷ []
unfolding opens
outage = refl

pub in_order : newly_by (block 0 ∷ block 1 ∷ []) ≡ 2 ∷ 2 ∷ []
unfolding opens
in_order = refl

pub swapped : newly_by (block 1 ∷ block 0 ∷ []) ≡ 4 ∷ 0 ∷ []
unfolding opens
swapped = refl

-- when the two blocks were read, and the days that they carry
pub third_read : (view_of (block 2)).time ∷ (view_of (block 2)).days ∷ [] ≡ 173400 ∷ 3 ∷ []
unfolding opens
third_read = refl

pub first_read : (view_of (block 0)).time ∷ (view_of (block 0)).days ∷ [] ≡ 4200 ∷ 1 ∷ []
unfolding opens
first_read = refl
