-- Tests on Bools: what a conjunction and a disjunction say, equal tests, and what `if !f(..)` leaves of a function's promise.
-- Assumes nothing.
use mathlib.Core.Path.{◌≡◌, refl, sym, ◌∙◌}
use mathlib.Core.Bool.{Bool, true, false, not, cond, ◌&&◌, ◌||◌, beq, false≢true}
use mathlib.Core.Logic.{◌⊎◌, inl, inr, ⊎_elim, ◌↔◌}
use borrow.Author.Tests.{not-true, not-false}

pub and_left : (a b : Bool) → (a && b) ≡ true → a ≡ true
and_left true b e = refl
and_left false b e = e

pub and_right : (a b : Bool) → (a && b) ≡ true → b ≡ true
and_right true b e = e
and_right false b e = absurd (false≢true e)

pub both : (a b : Bool) → (a && b) ≡ true → (a ≡ true) × (b ≡ true)
both a b e = (and_left a b e, and_right a b e)

pub both_of : (a b : Bool) → a ≡ true → b ≡ true → (a && b) ≡ true
both_of a b p q = rw (p, q)

-- a failed test fails the conjunction
pub no_left : (a b : Bool) → a ≡ false → (a && b) ≡ false
no_left a b e = rw e

pub no_right : (a b : Bool) → b ≡ false → (a && b) ≡ false
no_right true b e = e
no_right false b e = refl

pub or_split : {P : Type 0} (a b : Bool) → (a ≡ true → P) → (b ≡ true → P) → (a || b) ≡ true → P
or_split true b f g e = f refl
or_split false b f g e = g e

pub or_iff : (a b : Bool) → ((a || b) ≡ true) ↔ ((a ≡ true) ⊎ (b ≡ true))
or_iff true b = (λ e. inl refl, λ e. refl)
or_iff false b = (λ e. inr e, λ e. ⊎_elim (λ f. absurd (false≢true f)) (λ f. f) e)

pub or_none_lem : (a b : Bool) → b ≡ false → (a || b) ≡ a
or_none_lem true b e = refl
or_none_lem false b e = e

pub or_some : (a b : Bool) → b ≡ true → (a || b) ≡ true
or_some true b e = refl
or_some false b e = e

-- two tests that pass together are equal
pub bool_eq : (a b : Bool) → (a ≡ true → b ≡ true) → (b ≡ true → a ≡ true) → a ≡ b
bool_eq true b f g = sym (f refl)
bool_eq false true f g = g refl
bool_eq false false f g = refl

pub beq_refl : (b : Bool) → beq b b ≡ true
beq_refl true = refl
beq_refl false = refl

pub beq_true : (a b : Bool) → beq a b ≡ true → a ≡ b
beq_true true true e = refl
beq_true true false e = sym e
beq_true false true e = e
beq_true false false e = refl

pub iff_trans : {A B C : Type 0} → A ↔ B → B ↔ C → A ↔ C
iff_trans f g = (λ a. g.0 (f.0 a), λ c. f.1 (g.1 c))

-- `if !b { return .. }`, with b ≡ x promised: what the test left, and what it took
pub passed : (b x : Bool) → b ≡ x → not b ≡ false → x ≡ true
passed b x e h = sym e ∙ not-false b h

pub failed : (b x : Bool) → b ≡ x → not b ≡ true → x ≡ false
failed b x e h = sym e ∙ not-true b h

-- the arm that a test chooses
pub cond_yes : {A : Type 0} (b : Bool) (x y : A) → b ≡ true → x ≡ cond b x y
cond_yes b x y e = rw e

pub cond_no : {A : Type 0} (b : Bool) (x y : A) → b ≡ false → y ≡ cond b x y
cond_no b x y e = rw e
