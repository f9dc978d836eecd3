-- Numbers that run round at m: differences and sums.
-- Assumes nothing.
use Prim.Native.Nat.{ℕ, zero, suc, ◌+◌, ◌-◌, ◌%◌, ◌<◌, ◌≤◌}
use mathlib.Core.Path.{◌≡◌, refl, sym, ap, ◌∙◌}
use native.Mathlib.Nat.{mod-lt, mod-add-mod, mod-eq_of_lt, add-mod_right}
use native.Mathlib.Decide.{dec_lt}
use native.Mathlib.Omega.{arith}
use Rattle.laws.specs.Tests.{sum_below}
use Rattle.laws.proofs.Split.{by_dec}

-- a round more
round_more : (m d : ℕ) → d < m → (d + m) % m ≡ d
round_more m d l = add-mod_right d m ∙ mod-eq_of_lt l

-- a difference modulo m is the difference, if it is less than a round
pub round_less : (m x y : ℕ) → y ≤ x → x - y < m → (x % m + m - y % m) % m ≡ x - y
round_less m x y up slow =
    let b : y % m < m = mod-lt y (omega arith) in
    let e : (y % m + (x - y)) % m ≡ (y + (x - y)) % m = mod-add-mod y m (x - y) in
    let z : y + (x - y) ≡ x = omega arith in
    let f : x % m ≡ (y % m + (x - y)) % m = sym (rw z at e) in
    by_dec (dec_lt (y % m + (x - y)) m)
    (λ l.
    let g : x % m ≡ y % m + (x - y) = f ∙ mod-eq_of_lt l in
    let h : x % m + m - y % m ≡ (x - y) + m = omega arith in
    rw h (round_more m (x - y) slow))
    (λ l.
    let o : y % m + (x - y) ≡ (y % m + (x - y) - m) + m = omega arith in
    let g : x % m ≡ y % m + (x - y) - m = f ∙ ap (λ (n : ℕ). n % m) o ∙ round_more m (y % m + (x - y) - m) (omega arith) in
    let h : x % m + m - y % m ≡ x - y = omega arith in
    rw h (mod-eq_of_lt slow))

-- a sum of registers that run round
pub sum_round : (m : ℕ) (f : ℕ → ℕ) (n b : ℕ) → (b + sum_below (λ i. f i % m) n) % m ≡ (b + sum_below f n) % m
unfolding sum_below
sum_round m f zero b = refl
sum_round m f (suc n) b =
    ap (λ (k : ℕ). k % m) first
    ∙ mod-add-mod (f n) m (b + sum_below (λ i. f i % m) n)
    ∙ ap (λ (k : ℕ). k % m) second
    ∙ sum_round m f n (b + f n)
    ∙ ap (λ (k : ℕ). k % m) third
  where
    first : b + sum_below (λ i. f i % m) (suc n) ≡ f n % m + (b + sum_below (λ i. f i % m) n)
    first = omega arith

    second : f n + (b + sum_below (λ i. f i % m) n) ≡ b + f n + sum_below (λ i. f i % m) n
    second = omega arith

    third : b + f n + sum_below f n ≡ b + sum_below f (suc n)
    third = omega arith
