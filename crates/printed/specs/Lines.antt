-- What is written of each: an answer with what it carries, a line that can't be understood, numbers, bytes in hexadecimal.
use Rattle.std.specs.Prelude.{ℕ, ◌*◌, List, [], ◌∷◌, ◌++◌, Option, Some, length}
use Rattle.std.specs.Fmt.{decimal, ◌++?◌}
use Rattle.laws.specs.Table.{table}
use Rattle.script.specs.Hex.{letter_at}
use Rattle.lines.specs.Listing.{space, newline}
use Rattle.desk.specs.Numbers.{answer_in, carried_in}

unfoldable pub answer_line : ℕ → List ℕ
answer_line a = decimal (answer_in a) ++ (space ∷ (decimal (carried_in a) ++ (newline ∷ [])))

abbrev pub question_mark : ℕ
question_mark = 63

unfoldable pub unread_line : ℕ → List ℕ
unread_line n = question_mark ∷ space ∷ (decimal n ++ (newline ∷ []))

-- each behind a space, where it is known what is printed of each
abbrev pub then_text : {T : Type 0} → (T → Option (List ℕ)) → List T → Option (List ℕ)
then_text output [] = Some []
then_text output (x ∷ xs) = (Some (space ∷ []) ++? output x) ++? then_text output xs

-- two digits a byte, and the line of them
unfoldable pub hex_text : List ℕ → List ℕ
hex_text bs = table (2 * length bs) (letter_at bs)

unfoldable pub hex_line : List ℕ → List ℕ
hex_line bs = hex_text bs ++ (newline ∷ [])
