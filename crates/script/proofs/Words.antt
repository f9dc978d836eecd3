-- Lines and words found: a search from an index on, and the words after the first ones.
-- Assumes nothing.
use Prim.Native.Nat.{ℕ, zero, suc, ◌+◌, ◌-◌, ◌≤◌, ◌<◌, max}
use mathlib.Core.Path.{◌≡◌, refl, sym, ap, ◌∙◌}
use mathlib.Core.Bool.{Bool, true, false, cond}
use mathlib.Core.List.{List, [], ◌∷◌}
use native.Mathlib.Omega.{arith}
use lib.Dec.{eqb, ltb}
use lib.ListN.{length, take, drop, get_or, length-drop, drop_of_length-le}
use lib.Seq.{drop-drop, take_all}
use mir.Val.{bool_byte}
use borrow.Author.Tests.{ltb-true, ltb-false}
use Rattle.std.specs.Prelude.{Option, Some, None}
use Rattle.std.specs.List.{position, position_or_len}
use Rattle.laws.specs.Bits.{bit}
use Rattle.laws.specs.Tests.{sum_below}
use Rattle.std.proofs.lemmas.List.Recursion.{is_position_or_len}
use Rattle.laws.proofs.Split.{by_test}
use Rattle.laws.proofs.Tests.{sum_none, sum_turn, sum_end}
use Rattle.script.specs.Words.{index_of, space, line_end, after, is_space, arguments_in}

-- ---- a byte, looked for from an index on

index_is : (b : ℕ) (s : List ℕ) → index_of b s ≡ position_or_len (λ (x : ℕ). eqb x b) s
unfolding index_of
index_is b s = is_position_or_len (index_of b) (λ (x : ℕ). eqb x b) refl (λ x xs. let e : 1 + index_of b xs ≡ suc (index_of b xs) = omega arith in rw e refl) s

index_le : (b : ℕ) (s : List ℕ) → index_of b s ≤ length s
unfolding index_of
index_le b [] = omega arith
index_le b (x ∷ s) = by_test (eqb x b) (λ h. rw h (omega arith)) (λ h. rw h (omega (arith, index_le b s)))

-- what `position` gives, in the words of the definition
module _ (s : List ℕ) (b from : ℕ) (h : from ≤ length s) (r : Option ℕ)
    (e : r ≡ position (λ (x : ℕ). eqb x b) (take (length s - from) (drop from s))) where
  place : r ≡ cond (ltb (index_of b (drop from s)) (length (drop from s))) (Some (index_of b (drop from s))) None
  place = rw (index_is b (drop from s), ← take_all (length s - from) (drop from s) (omega (arith, length-drop from s))) e

  pub found_at : (i : ℕ) → r ≡ Some i → (from + i ≡ from + index_of b (drop from s)) × (from ≤ from + i) × (from + i ≤ length s)
  found_at i q =
      let l = length-drop from s in
      by_test (ltb (index_of b (drop from s)) (length (drop from s)))
      (λ t. let g : r ≡ Some (index_of b (drop from s)) = rw t at place in let z : i ≡ index_of b (drop from s) = cc in (omega arith, omega arith, omega (arith, ltb-true _ _ t)))
      (λ t. let g : r ≡ None = rw t at place in let z : ◌≡◌ {A = ℕ} 0 1 = cc in absurd (omega arith))

  pub found_nowhere : r ≡ None → (length s ≡ from + index_of b (drop from s)) × (from ≤ length s) × (length s ≤ length s)
  found_nowhere q =
      let l = length-drop from s in
      by_test (ltb (index_of b (drop from s)) (length (drop from s)))
      (λ t. let g : r ≡ Some (index_of b (drop from s)) = rw t at place in let z : ◌≡◌ {A = ℕ} 0 1 = cc in absurd (omega arith))
      (λ t. (omega (arith, ltb-false _ _ t, index_le b (drop from s)), h, omega arith))

-- ---- lines

pub line_none : (s : List ℕ) (i : ℕ) → length s < i → (i ≡ line_end s i) × (i ≤ i) × (i ≤ max i (length s))
unfolding line_end index_of
line_none s i h = (rw (drop_of_length-le s {i = i} (omega arith)) (omega arith), omega arith, omega arith)

-- ---- how many words

pub record Spaces (s : List ℕ) (i n : ℕ) : Type 0 where
  pub is : n ≡ sum_below (is_space s) i
  pub few : n ≤ i

pub spaces_none : (s : List ℕ) → Spaces s 0 0
spaces_none s = record { is = sum_none (is_space s); few = omega arith }

-- a test as a number, as `usize::from` gives it
bit_of : (t : Bool) → (bool_byte t ≡ bit t) × (bit t ≤ 1)
bit_of true = (refl, omega arith)
bit_of false = (refl, omega arith)

pub spaces_on : (s : List ℕ) (i n b : ℕ) → Spaces s i n → b ≡ bool_byte (eqb (get_or s i 0) space) → Spaces s (i + 1) (n + b)
unfolding is_space
spaces_on s i n b p e =
    let h = bit_of (eqb (get_or s i 0) space) in
    record { is = sum_turn (is_space s) i n b p.is (e ∙ h.0); few = omega (arith, p.few, e ∙ h.0, h.1) }

pub spaces_all : (s : List ℕ) (i n : ℕ) → Spaces s i n → i ≤ length s → length s ≤ i → n ≡ arguments_in s
unfolding arguments_in
spaces_all s i n p l h = sum_end (is_space s) i (length s) n p.is l h

-- ---- word k

after_nothing : (k : ℕ) → after k [] ≡ []
unfolding after index_of
after_nothing zero = refl
after_nothing (suc k) = after_nothing k

-- after j words, from an index on
pub record Passed (s : List ℕ) (k j from : ℕ) : Type 0 where
  pub at_most : j ≤ k
  pub room : from ≤ length s
  pub rest : after (k - j) (drop from s) ≡ after k s

module _ (s : List ℕ) (k : ℕ) where
  pub passed_none : Passed s k 0 0
  passed_none = record { at_most = omega arith; room = omega arith; rest = let e : k - 0 ≡ k = omega arith in rw e }

  -- one word more, whose end was found
  turn : (j from end : ℕ) → Passed s k j from → j < k → end ≡ from + index_of space (drop from s) → after (k - (j + 1)) (drop (end + 1) s) ≡ after k s
  unfolding after
  turn j from end p h e =
      let z : k - j ≡ suc (k - (j + 1)) = omega arith in
      let y : end + 1 ≡ from + suc (index_of space (drop from s)) = omega (arith, e) in
      ap (λ (i : ℕ). after (k - (j + 1)) (drop i s)) y
      ∙ ap (after (k - (j + 1))) (sym (drop-drop (suc (index_of space (drop from s))) from s))
      ∙ ap (λ (i : ℕ). after i (drop from s)) (sym z) ∙ p.rest

  pub passed_on : (j from end : ℕ) → Passed s k j from → j < k → end ≡ from + index_of space (drop from s) → end ≤ length s → (end ≡ length s → ⊥)
      → Passed s k (j + 1) (end + 1)
  passed_on j from end p h e l q = record { at_most = omega arith; room = omega (arith, q); rest = turn j from end p h e }

  pub passed_end : (j from end : ℕ) → Passed s k j from → j < k → end ≡ from + index_of space (drop from s) → end ≡ length s → drop end s ≡ after k s
  passed_end j from end p h e q =
      drop_of_length-le s {i = end} (omega arith)
      ∙ sym (after_nothing (k - (j + 1)))
      ∙ ap (after (k - (j + 1))) (sym (drop_of_length-le s {i = end + 1} (omega arith)))
      ∙ turn j from end p h e

  pub passed_all : (j from : ℕ) → Passed s k j from → k ≤ j → drop from s ≡ after k s
  unfolding after
  passed_all j from p h = let e : k - j ≡ 0 = omega arith in rw e at p.rest
