-- One law for every counting loop. Its invariant is `Loop`: P of the number and the state, and what is still to be done comes to the whole.
-- Assumes nothing.
use Prim.Native.Nat.{ℕ, zero, suc, ◌+◌, ◌-◌, ◌<◌, ◌≤◌}
use mathlib.Core.Path.{◌≡◌, refl, sym, ap, ◌∙◌}
use native.Mathlib.Omega.{arith}
use Rattle.laws.specs.Each.{each, for_to}

pub for_on : {A : Type 0} (f : ℕ → A → A) (i to : ℕ) (x : A) → i < to → for_to f i to x ≡ for_to f (i + 1) to (f i x)
unfolding each
for_on f i to x h = ap (λ (n : ℕ). each f i n x) next
  where
    next : to - i ≡ suc (to - (i + 1))
    next = omega arith

pub for_done : {A : Type 0} (f : ℕ → A → A) (i to : ℕ) (x : A) → to ≤ i → for_to f i to x ≡ x
unfolding each
for_done f i to x h = ap (λ (n : ℕ). each f i n x) none
  where
    none : to - i ≡ 0
    none = omega arith

-- what each turn keeps holds at the end
pub for_keeps : {A : Type 0} (P : ℕ → A → Type 0) (f : ℕ → A → A) (from to : ℕ) (x : A) → from ≤ to
    → ((i : ℕ) (y : A) → from ≤ i → i < to → P i y → P (i + 1) (f i y)) → P from x → P to (for_to f from to x)
unfolding each
for_keeps {A} P f from to x le on p = go (to - from) from x (omega arith) (omega arith) p
  where
    go : (n i : ℕ) (y : A) → from ≤ i → i + n ≡ to → P i y → P to (each f i n y)
    go zero i y l e q = let z : i ≡ to = omega arith in rw z at q
    go (suc n) i y l e q = go n (i + 1) (f i y) (omega arith) (omega arith) (on i y l (omega arith) q)

pub record Loop {A : Type 0} (P : ℕ → A → Type 0) (f : ℕ → A → A) (from to : ℕ) (x₀ : A) (i : ℕ) (x : A) : Type 0 where
  pub keeps : P i x
  pub rest : for_to f i to x ≡ for_to f from to x₀

module _ {A : Type 0} (P : ℕ → A → Type 0) (f : ℕ → A → A) (from to : ℕ) where
  pub loop_start : (x : A) → P from x → Loop P f from to x from x
  loop_start x p = record { keeps = p; rest = refl }

  pub loop_on : (x₀ : A) (i : ℕ) (x y : A) → Loop P f from to x₀ i x → i < to → y ≡ f i x → P (i + 1) y → Loop P f from to x₀ (i + 1) y
  loop_on x₀ i x y g h e p = record { keeps = p; rest = ap (for_to f (i + 1) to) e ∙ sym (for_on f i to x h) ∙ g.rest }

  pub loop_done : (x₀ : A) (i : ℕ) (x : A) → Loop P f from to x₀ i x → to ≤ i → x ≡ for_to f from to x₀
  loop_done x₀ i x g h = sym (for_done f i to x h) ∙ g.rest
