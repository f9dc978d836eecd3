-- Bytes in hexadecimal (docs/REPLAY.md, `BYTES`): two digits a byte, read in capitals or small letters, written in small letters.
use Rattle.std.specs.Prelude.{ℕ, ◌+◌, ◌-◌, ◌*◌, ◌/◌, ◌%◌, Bool, cond, ◌&&◌, ◌||◌, Option, Some, None, List, eqb, leb, ltb, length, get_or}
use Rattle.std.proofs.lemmas.List.Edits.{sets}
use Rattle.laws.specs.Table.{table}
use Rattle.laws.specs.Tests.{all_below}

unfoldable pub is_hex : ℕ → Bool
is_hex b = ((leb 48 b && leb b 57) || (leb 65 b && leb b 70)) || (leb 97 b && leb b 102)

-- the number that a digit stands for, and the digit of a number below 16
unfoldable pub sixteenth : ℕ → ℕ
sixteenth b = cond (leb b 57) (b - 48) (cond (leb b 70) (b - 55) (b - 87))

unfoldable pub letter_of : ℕ → ℕ
letter_of x = cond (ltb x 10) (48 + x) (87 + x)

-- ---- read

unfoldable pub hex_test : List ℕ → ℕ → Bool
hex_test w i = is_hex (get_or w i 0)

unfoldable pub hex_ok : List ℕ → Bool
hex_ok w = leb 1 (length w) && (eqb (length w % 2) 0 && all_below (hex_test w) (length w))

unfoldable pub byte_in : List ℕ → ℕ → ℕ
byte_in w i = (16 * sixteenth (get_or w (2 * i) 0) + sixteenth (get_or w (2 * i + 1) 0)) % 256

pub record Unhexed : Type 0 where
  pub out : List ℕ
  pub count : Option ℕ

abbrev pub unhexing : List ℕ → Option ℕ → Unhexed
unhexing l n = record { out = l; count = n }

-- its bytes at the beginning of an output, and how many: where it names some, and they fit
unfoldable pub unhexed : List ℕ → List ℕ → Unhexed
unhexed w l =
    cond (hex_ok w && leb (length w / 2) (length l))
    (unhexing (sets l 0 (table (length w / 2) (byte_in w))) (Some (length w / 2)))
    (unhexing l None)

-- ---- written

unfoldable pub letter_at : List ℕ → ℕ → ℕ
letter_at bs q = letter_of (cond (eqb (q % 2) 0) (get_or bs (q / 2) 0 / 16) (get_or bs (q / 2) 0 % 16))

pub record Hexed : Type 0 where
  pub out : List ℕ
  pub count : ℕ

abbrev pub hexing : List ℕ → ℕ → Hexed
hexing l n = record { out = l; count = n }

-- the digits at the beginning of an output, and how many: none where they don't fit
unfoldable pub hexed : List ℕ → List ℕ → Hexed
hexed bs l =
    cond (leb (2 * length bs) (length l))
    (hexing (sets l 0 (table (2 * length bs) (letter_at bs))) (2 * length bs))
    (hexing l 0)
