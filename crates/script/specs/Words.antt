-- Lines and words of a script (docs/REPLAY.md, "The script"): a line ends before a newline, a word before a space.
use Rattle.std.specs.Prelude.{ℕ, zero, suc, ◌+◌, cond, List, [], ◌∷◌, eqb, leb, length, take, drop, get_or}
use Rattle.laws.specs.Bits.{bit}
use Rattle.laws.specs.Tests.{sum_below}
use Rattle.format.specs.Numbers.{binary, num_at}

abbrev pub space : ℕ
space = 32

abbrev pub newline : ℕ
newline = 10

-- where the byte b first stands in a list: the list's length where it does not
unfoldable pub index_of : ℕ → List ℕ → ℕ
index_of b [] = zero
index_of b (x ∷ s) = cond (eqb x b) zero (suc (index_of b s))

-- where the line that begins at index i of the text ends
unfoldable pub line_end : List ℕ → ℕ → ℕ
line_end s i = i + index_of newline (drop i s)

-- a line from its word k on, counted from 0; nothing where there is none
unfoldable pub after : ℕ → List ℕ → List ℕ
after zero s = s
after (suc k) s = after k (drop (suc (index_of space s)) s)

unfoldable pub word_at : ℕ → List ℕ → List ℕ
word_at k s = take (index_of space (after k s)) (after k s)

-- how many words follow the first
unfoldable pub is_space : List ℕ → ℕ → ℕ
is_space s i = bit (eqb (get_or s i 0) space)

unfoldable pub arguments_in : List ℕ → ℕ
arguments_in s = sum_below (is_space s) (length s)

-- a word of at most eight letters as one number
unfoldable pub name_of : List ℕ → ℕ
name_of w = cond (leb (length w) 8) (num_at binary w 0 (length w)) 0
