-- Refusals in an order (docs/RULES.md, "Checked in this order"): the first check that fails gives the answer number, and 0 is given where none does.
use Rattle.std.specs.Prelude.{ℕ, List, [], ◌∷◌, Bool, cond}

pub record Check : Type 0 where
  pub fails : Bool
  pub number : ℕ

abbrev pub check : Bool → ℕ → Check
check b n = record { fails = b; number = n }

abbrev pub first_failing : List Check → ℕ
first_failing [] = 0
first_failing (c ∷ cs) = cond c.fails c.number (first_failing cs)
