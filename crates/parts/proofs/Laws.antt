-- No more is taken or dropped than there is; an element or 0; a row stored element by element.
-- Assumes nothing.
use Prim.Native.Nat.{ℕ, ◌+◌, ◌≤◌, ◌<◌}
use mathlib.Core.Path.{◌≡◌, refl, sym, ◌∙◌}
use mathlib.Core.List.{List}
use native.Mathlib.Omega.{arith}
use lib.ListN.{length, get_or, set, length-set, get_or-eq_default}
use lib.Seq.{sets}
use Rattle.laws.specs.Table.{table}
use Rattle.laws.proofs.Rows.{none_stored, row_next}
use Rattle.parts.specs.Rows.{number_in}

-- ---- one element

pub number_there : (l : List ℕ) (i v : ℕ) → v ≡ get_or l i 0 → v ≡ number_in l i
unfolding number_in
number_there l i v e = e

pub wide_there : (l : List ℕ) (i v w : ℕ) → v ≡ get_or l i 0 → w ≡ v → w ≡ number_in l i
unfolding number_in
wide_there l i v w e f = f ∙ e

pub number_past : (l : List ℕ) (i : ℕ) → length l ≤ i → 0 ≡ number_in l i
unfolding number_in
number_past l i h = sym (get_or-eq_default l 0 h)

-- ---- element by element: i of n are stored

pub record Put (l k : List ℕ) (i n : ℕ) (g : ℕ → ℕ) : Type 0 where
  pub at_most : i ≤ n
  pub long : length k ≡ length l
  pub is : k ≡ sets l 0 (table i g)

module _ (l : List ℕ) (n : ℕ) (g : ℕ → ℕ) where
  pub put_none : Put l l 0 n g
  put_none = record { at_most = omega arith; long = refl; is = none_stored l 0 g }

  pub put_on : (k : List ℕ) (i v : ℕ) → Put l k i n g → i < n → v ≡ g i → Put l (set k i v) (i + 1) n g
  put_on k i v p h e =
      record {
        at_most = omega arith;
        long = length-set k i v ∙ p.long;
        is = let z : 0 + i ≡ i = omega arith in rw z at (row_next l k 0 i v g p.is e);
      }

  pub put_all : (k : List ℕ) (i m : ℕ) → Put l k i n g → n ≤ i → n ≡ m → k ≡ sets l 0 (table m g)
  put_all k i m p h e = let z : i ≡ m = omega (arith, p.at_most, e) in rw z at p.is
