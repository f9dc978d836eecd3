-- The ledger in bytes as a desk of the theory of deliveries (demand 3): its blocks are rows of bytes, and it takes those that the reader takes and whose
-- meter is its own. Filing one is `file_of`, which the contract of `file` cites.
use Rattle.std.specs.Prelude.{Bool, ◌&&◌, cond, List, [], ◌∷◌, ℕ, eqb}
use Rattle.days.specs.Desk.{Filed, Desk}
use Rattle.ledger.specs.Layout.{first_of, days_of}
use Rattle.ledger.specs.Rooms.{slot, pack}
use Rattle.ledger.specs.Judged.{fits}
use Rattle.rooms.specs.View.{view_of}
use Rattle.filing.specs.File.{same_meter, read_of, Filing, file_of}

unfoldable pub taken_by : List ℕ → List ℕ → Bool
taken_by hd b = eqb (read_of b).number 0 && same_meter hd b

-- an answer that is not 0 is a refusal, and nothing is newly held
unfoldable pub filed_as : Filing → Filed (List ℕ)
filed_as x = record { ledger = x.ledger; refused = cond (eqb x.answer.number 0) 0 1; newly = cond (eqb x.answer.number 0) x.answer.carried 0 }

-- a ledger that begins with hd's head
abbrev pub desk : List ℕ → Desk (List ℕ) (List ℕ)
desk hd = record {
  first = first_of hd;
  days = days_of hd;
  slot = slot;
  pack = pack hd (days_of hd);
  fits = fits;
  takes = taken_by hd;
  view = view_of;
  file = λ l b. filed_as (file_of l b);
}

-- blocks filed one after the other, as bytes
unfoldable pub file_all : List ℕ → List (List ℕ) → List ℕ
file_all l [] = l
file_all l (b ∷ bs) = file_all (file_of l b).ledger bs
