-- Hexadecimal: the digits of a word tested, its bytes put one by one, and a row's digits.
-- Assumes nothing.
use Prim.Native.Nat.{ℕ, ◌+◌, ◌*◌, ◌/◌, ◌%◌, ◌≤◌, ◌<◌}
use mathlib.Core.Path.{◌≡◌, refl, sym, ◌∙◌}
use mathlib.Core.Bool.{Bool, true, false, not}
use mathlib.Core.List.{List, [], ◌∷◌}
use native.Mathlib.Omega.{arith}
use lib.Dec.{leb}
use lib.ListN.{length, set, length-set}
use lib.Seq.{sets}
use borrow.Author.Tests.{le-leb, lt-leb, eq-eqb}
use Rattle.std.specs.List.{list_all}
use Rattle.laws.specs.Table.{table}
use Rattle.laws.specs.Tests.{all_below}
use Rattle.laws.proofs.Bools.{no_right, passed, failed}
use Rattle.laws.proofs.Tests.{all_cons}
use Rattle.laws.proofs.Rows.{none_stored, row_next}
use Rattle.std.specs.Prelude.{Some, None}
use Rattle.script.specs.Hex.{is_hex, hex_test, hex_ok, byte_in, unhexing, unhexed, letter_at, hexing, hexed}

-- ---- a word

each_hex : (w : List ℕ) → list_all is_hex w ≡ all_below (hex_test w) (length w)
unfolding hex_test all_below
each_hex [] = refl
each_hex (x ∷ w) = rw (each_hex w) (sym (all_cons (hex_test (x ∷ w)) (length w)))

module _ (w : List ℕ) where
  pub all_hex : (r : Bool) → r ≡ list_all is_hex w → 1 ≤ length w → length w % 2 ≡ 0 → r ≡ hex_ok w
  unfolding hex_ok
  all_hex r e l m = rw (le-leb 1 (length w) l, eq-eqb (length w % 2) 0 m) (e ∙ each_hex w)

-- ---- a row put at the beginning of a list, one by one

pub record Put (l k : List ℕ) (i n : ℕ) (g : ℕ → ℕ) : Type 0 where
  pub at_most : i ≤ n
  pub long : length k ≡ length l
  pub is : k ≡ sets l 0 (table i g)

module _ (l : List ℕ) (n : ℕ) (g : ℕ → ℕ) where
  pub put_none : Put l l 0 n g
  put_none = record { at_most = omega arith; long = refl; is = none_stored l 0 g }

  pub put_on : (k : List ℕ) (i v : ℕ) → Put l k i n g → i < n → v ≡ g i → Put l (set k i v) (i + 1) n g
  put_on k i v p h e =
      record {
        at_most = omega arith;
        long = length-set k i v ∙ p.long;
        is = let z : 0 + i ≡ i = omega arith in rw z at (row_next l k 0 i v g p.is e);
      }

-- ---- bytes read

module _ (w l : List ℕ) where
  pub not_bytes : (r : Bool) → r ≡ hex_ok w → not r ≡ true → unhexing l None ≡ unhexed w l
  unfolding unhexed
  not_bytes r e n = rw (failed r (hex_ok w) e n)

  pub no_room : length l < length w / 2 → unhexing l None ≡ unhexed w l
  unfolding unhexed
  no_room h = rw (no_right (hex_ok w) (leb (length w / 2) (length l)) (lt-leb (length w / 2) (length l) h))

  pub bytes_read : (k : List ℕ) (i : ℕ) (r : Bool) → Put l k i (length w / 2) (byte_in w) → length w / 2 ≤ i → r ≡ hex_ok w → not r ≡ false → length w / 2 ≤ length l
      → unhexing k (Some (length w / 2)) ≡ unhexed w l
  unfolding unhexed
  bytes_read k i r p h e n m =
      let z : i ≡ length w / 2 = omega (arith, p.at_most) in
      rw (passed r (hex_ok w) e n, le-leb (length w / 2) (length l) m, rw z at p.is)

-- ---- digits written

module _ (bs l : List ℕ) where
  pub no_letters : length l / 2 < length bs → hexing l 0 ≡ hexed bs l
  unfolding hexed
  no_letters h = rw (lt-leb (2 * length bs) (length l) (omega arith))

  pub letters_put : (k : List ℕ) (q : ℕ) → Put l k q (2 * length bs) (letter_at bs) → 2 * length bs ≤ q → length bs ≤ length l / 2 → hexing k (2 * length bs) ≡ hexed bs l
  unfolding hexed
  letters_put k q p h m =
      let z : q ≡ 2 * length bs = omega (arith, p.at_most) in
      rw (le-leb (2 * length bs) (length l) (omega arith), rw z at p.is)
