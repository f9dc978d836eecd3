-- Lists given by the value at each index: length, element, equality, one after another, an entry set.
-- Assumes nothing.
use Prim.Native.Nat.{ℕ, zero, suc, ◌+◌, ◌<◌, ◌≤◌}
use mathlib.Core.Path.{◌≡◌, refl, sym, ap, ◌∙◌, subst}
use mathlib.Core.List.{List, [], ◌∷◌, ◌++◌}
use native.Mathlib.Numerals.{add-one}
use native.Mathlib.Omega.{arith}
use native.Mathlib.Decide.{ℕ_discrete}
use lib.ListN.{length, get_or, set, length-set}
use lib.Seq.{ext_get_or, get_or-set_same, get_or-set_other}
use Rattle.laws.specs.Table.{table}
use Rattle.laws.proofs.Split.{by_dec}

pub length_table : {A : Type 0} (n : ℕ) (f : ℕ → A) → length (table n f) ≡ n
unfolding table
length_table zero f = refl
length_table (suc n) f = ap suc (length_table n (λ i. f (suc i)))

pub table_at : {A : Type 0} (n : ℕ) (f : ℕ → A) (i : ℕ) (z : A) → i < n → get_or (table n f) i z ≡ f i
unfolding table
table_at zero f i z l = absurd (omega arith)
table_at (suc n) f zero z l = refl
table_at (suc n) f (suc i) z l = table_at n (λ i. f (suc i)) i z (omega arith)

-- past the last
pub table_out : {A : Type 0} (n : ℕ) (f : ℕ → A) (i : ℕ) (z : A) → n ≤ i → get_or (table n f) i z ≡ z
unfolding table
table_out zero f i z l = refl
table_out (suc n) f zero z l = absurd (omega arith)
table_out (suc n) f (suc i) z l = table_out n (λ i. f (suc i)) i z (omega arith)

pub table_same : {A : Type 0} (n : ℕ) (f g : ℕ → A) → ((i : ℕ) → i < n → f i ≡ g i) → table n f ≡ table n g
unfolding table
table_same zero f g e = refl
table_same (suc n) f g e = rw (e 0 (omega arith), table_same n (λ i. f (suc i)) (λ i. g (suc i)) (λ i l. e (suc i) (omega arith)))

-- a list that has f's values is f's table
pub table_of : (l : List ℕ) (n : ℕ) (f : ℕ → ℕ) → length l ≡ n → ((i : ℕ) → i < n → get_or l i 0 ≡ f i) → l ≡ table n f
table_of l n f len e =
    ext_get_or 0 l (table n f) (len ∙ sym (length_table n f)) (λ i li. e i (omega arith) ∙ sym (table_at n f i 0 (omega arith)))

-- one table after another
pub table_add : (a b : ℕ) (g : ℕ → ℕ) → table a g ++ table b (λ q. g (a + q)) ≡ table (a + b) g
unfolding table
table_add zero b g =
    let z : 0 + b ≡ b = omega arith in
    subst (λ (k : ℕ). table b (λ q. g (0 + q)) ≡ table k g) (sym z) (table_same b (λ q. g (0 + q)) g (λ q l. let e : 0 + q ≡ q = omega arith in ap g e))
table_add (suc a) b g =
    let z : suc a + b ≡ suc (a + b) = omega arith in
    rw z
    (ap (λ (r : List ℕ). g 0 ∷ r)
    (ap (λ (r : List ℕ). table a (λ i. g (suc i)) ++ r) (table_same b (λ q. g (suc a + q)) (λ q. g (suc (a + q))) (λ q l. let e : suc a + q ≡ suc (a + q) = omega arith in ap g e))
    ∙ table_add a b (λ i. g (suc i))))

pub table_snoc : (m : ℕ) (g : ℕ → ℕ) → table m g ++ (g m ∷ []) ≡ table (suc m) g
unfolding table
table_snoc m g =
    let z : m + 1 ≡ suc m = add-one m in
    let y : m + 0 ≡ m = omega arith in
    ap (λ (k : ℕ). table m g ++ (g k ∷ [])) (sym y) ∙ table_add m 1 g ∙ ap (λ (k : ℕ). table k g) z

-- a table with one entry set is the table of what agrees with it elsewhere
pub table_set_lem : (n : ℕ) (f g : ℕ → ℕ) (i v : ℕ) → i < n → g i ≡ v → ((k : ℕ) → (k ≡ i → ⊥) → g k ≡ f k) → set (table n f) i v ≡ table n g
table_set_lem n f g i v l at other =
    table_of (set (table n f) i v) n g (length-set (table n f) i v ∙ length_table n f)
    (λ k lk.
    by_dec (ℕ_discrete k i)
    (λ e. rw e (get_or-set_same (table n f) i v 0 (omega (arith, length_table n f)) ∙ sym at))
    (λ q. get_or-set_other (table n f) i k v 0 q ∙ table_at n f k 0 lk ∙ sym (other k q)))

-- ---- a list filled one element after the other

pub record Filled {A : Type 0} (z : A) (n : ℕ) (f : ℕ → A) (l : List A) (i : ℕ) : Type 0 where
  pub at_most : i ≤ n
  pub long : length l ≡ n
  pub so_far : (q : ℕ) → q < i → get_or l q z ≡ f q

module _ {A : Type 0} (z : A) (n : ℕ) (f : ℕ → A) where
  pub filled_on : (l : List A) (i : ℕ) (v : A) → Filled z n f l i → i < n → v ≡ f i → Filled z n f (set l i v) (i + 1)
  filled_on l i v g h e =
      record {
        at_most = omega arith;
        long = length-set l i v ∙ g.long;
        so_far = λ q k. by_dec (ℕ_discrete q i)
            (λ p. rw p (get_or-set_same l i v z (omega (arith, g.long)) ∙ e))
            (λ p. get_or-set_other l i q v z p ∙ g.so_far q (omega arith));
      }

  pub filled_done : (l : List A) (i : ℕ) → Filled z n f l i → n ≤ i → l ≡ table n f
  filled_done l i g h =
      ext_get_or z l (table n f) (g.long ∙ sym (length_table n f))
      (λ q k. g.so_far q (omega (arith, g.long)) ∙ sym (table_at n f q z (omega (arith, g.long))))
