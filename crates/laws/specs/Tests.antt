-- Tests that must all pass: those of a list, and one test at each of the first numbers. Beside them the sum over the first numbers.
use Rattle.std.specs.Prelude.{ℕ, zero, suc, ◌+◌, Bool, true, ◌&&◌, cond, List, [], ◌∷◌}

-- b and every test of the list, gathered from the left as code gathers them
abbrev pub and_all : Bool → List Bool → Bool
and_all b [] = b
and_all b (c ∷ cs) = and_all (b && c) cs

abbrev pub all_true : List Bool → Bool
all_true [] = true
all_true (b ∷ bs) = and_all b bs

-- p passes at 0, 1, .., n - 1
unfoldable pub all_below : (ℕ → Bool) → ℕ → Bool
all_below p zero = true
all_below p (suc n) = all_below p n && p n

-- the first of 0, 1, .., n - 1 at which p does not pass; n where it passes at each
unfoldable pub first_out : (ℕ → Bool) → ℕ → ℕ
first_out p zero = zero
first_out p (suc n) = cond (p zero) (suc (first_out (λ i. p (suc i)) n)) zero

-- f 0 + f 1 + .. + f (n - 1)
unfoldable pub sum_below : (ℕ → ℕ) → ℕ → ℕ
sum_below f zero = 0
sum_below f (suc n) = sum_below f n + f n
