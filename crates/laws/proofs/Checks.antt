-- An answer of 0 says that no check of the list fails; and what is done at 0 and refused else is answered by just that number.
-- Assumes nothing.
use Prim.Native.Nat.{ℕ}
use mathlib.Core.Path.{◌≡◌, refl, sym, ◌∙◌}
use mathlib.Core.Bool.{Bool, true, false, not, cond, ◌&&◌}
use mathlib.Core.List.{List, [], ◌∷◌, ◌++◌}
use lib.Dec.{eqb}
use borrow.Author.Tests.{eqb-true, eqb-false, not-true}
use Rattle.laws.specs.Checks.{Check, first_failing}
use Rattle.laws.proofs.Bools.{and_left, and_right}
use Rattle.laws.proofs.Split.{by_test}

-- no check's own number is 0: it computes
abbrev pub numbered : List Check → Bool
numbered [] = true
numbered (c ∷ cs) = not (eqb c.number 0) && numbered cs

abbrev pub NoneFails : List Check → Type 0
NoneFails [] = Unit {0}
NoneFails (c ∷ cs) = (c.fails ≡ false) × NoneFails cs

passes : (b : Bool) (n x : ℕ) → not (eqb n 0) ≡ true → cond b n x ≡ 0 → (b ≡ false) × (x ≡ 0)
passes true n x h e = absurd (eqb-false n 0 (not-true (eqb n 0) h) e)
passes false n x h e = (refl, e)

pub none_fails : (cs : List Check) → numbered cs ≡ true → first_failing cs ≡ 0 → NoneFails cs
none_fails [] h e = tt
none_fails (c ∷ cs) h e =
    let n = not (eqb c.number 0) in
    let p = passes c.fails c.number (first_failing cs) (and_left n (numbered cs) h) e in
    (p.0, none_fails cs (and_right n (numbered cs) h) p.1)

-- and where none fails the answer is 0
pub all_pass : (cs : List Check) → NoneFails cs → first_failing cs ≡ 0
all_pass [] h = refl
all_pass (c ∷ cs) h = rw h.0 (all_pass cs h.1)

-- checks before others: what the first refuse is refused, and where they pass the others decide
pub refused_first : (cs ds : List Check) → (first_failing cs ≡ 0 → ⊥) → first_failing cs ≡ first_failing (cs ++ ds)
refused_first [] ds h = absurd (h refl)
refused_first (c ∷ cs) ds h =
    by_test c.fails
    (λ e. rw e)
    (λ e. rw e (refused_first cs ds (λ z. h (rw e z))))

pub passed_first : (cs ds : List Check) → numbered cs ≡ true → first_failing cs ≡ 0 → first_failing ds ≡ first_failing (cs ++ ds)
passed_first [] ds h e = refl
passed_first (c ∷ cs) ds h e =
    let p = passes c.fails c.number (first_failing cs) (and_left (not (eqb c.number 0)) (numbered cs) h) e in
    rw p.0 (passed_first cs ds (and_right (not (eqb c.number 0)) (numbered cs) h) p.1)

-- done where the answer is 0, refused with it else: it has that answer; and where that is not 0, it is the refusal
module _ {R : Type 0} (answer : R → ℕ) (a : ℕ) (done refused : R) (zero : answer done ≡ 0) where
  pub answered : answer refused ≡ a → answer (cond (eqb a 0) done refused) ≡ a
  answered e = by_test (eqb a 0) (λ t. rw t (zero ∙ sym (eqb-true a 0 t))) (λ t. rw t e)

  pub is_refusal : (answer (cond (eqb a 0) done refused) ≡ 0 → ⊥) → cond (eqb a 0) done refused ≡ refused
  is_refusal n = by_test (eqb a 0) (λ t. absurd (n (rw t zero))) (λ t. rw t)
