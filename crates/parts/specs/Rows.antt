-- An element of a row, 0 where there is none.
use Rattle.std.specs.Prelude.{ℕ, List, get_or}

unfoldable pub number_in : List ℕ → ℕ → ℕ
number_in l i = get_or l i 0
