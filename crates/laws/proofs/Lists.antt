-- Lists: an element set, an element found, a list mapped.
-- Assumes nothing.
use Prim.Native.Nat.{ℕ, zero, suc, ◌<◌}
use mathlib.Core.Path.{◌≡◌, refl, ap}
use mathlib.Core.List.{List, [], ◌∷◌, map, Memᴰ}
use native.Mathlib.Omega.{arith}
use lib.ListN.{length, get_or, set}

-- what holds of each element and of a new one holds after a store
pub set_keeps : {A : Type 0} (P : A → Type 0) (l : List A) (i : ℕ) (a d : A) (k : ℕ) → P a → P (get_or l k d) → P (get_or (set l i a) k d)
set_keeps P [] i a d k pa pk = pk
set_keeps P (x ∷ xs) zero a d zero pa pk = pa
set_keeps P (x ∷ xs) zero a d (suc k) pa pk = pk
set_keeps P (x ∷ xs) (suc i) a d zero pa pk = pk
set_keeps P (x ∷ xs) (suc i) a d (suc k) pa pk = set_keeps P xs i a d k pa pk

-- an element that is there is one of the list
pub member_at : {A : Type 0} (l : List A) (i : ℕ) (z : A) → i < length l → Memᴰ (get_or l i z) l
member_at [] i z h = absurd (omega arith)
member_at (a ∷ l) zero z h = Memᴰ.head refl
member_at (a ∷ l) (suc i) z h = Memᴰ.tail (member_at l i z (omega arith))

pub length_map : {A B : Type 0} (f : A → B) (l : List A) → length (map f l) ≡ length l
length_map f [] = refl
length_map f (a ∷ l) = ap suc (length_map f l)
