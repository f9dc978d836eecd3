-- A row of elements stored in a list one after the other (`sets` of the library): where it changes the list, rows side by side, parts.
-- Assumes nothing.
use Prim.Native.Nat.{ℕ, zero, suc, ◌+◌, ◌<◌, ◌≤◌}
use mathlib.Core.Path.{◌≡◌, refl, sym, ap, ◌∙◌}
use mathlib.Core.List.{List, [], ◌∷◌, ◌++◌, append_assoc, append-nil}
use native.Mathlib.Nat.{add-zero, add-suc, suc-add, zero-add}
use native.Mathlib.Numerals.{add-one}
use native.Mathlib.Omega.{arith}
use lib.ListN.{length, get_or, set, take, drop, length-set, length-drop}
use lib.Seq.{sets, sets-eq, set_comm, drop-cons, drop-length, take_at, drop_at, length-take-le, get_or-set_same, get_or-set_other, get_or-take, get_or-drop}
use Rattle.laws.specs.Table.{table}
use Rattle.laws.proofs.Table.{length_table, table_same, table_add}

-- one row after another is one row
pub sets_append : (l : List ℕ) (i : ℕ) (xs bs : List ℕ) → sets (sets l i xs) (i + length xs) bs ≡ sets l i (xs ++ bs)
sets_append l i [] bs = ap (λ (k : ℕ). sets l k bs) (add-zero i)
sets_append l i (a ∷ xs) bs =
    ap (λ (k : ℕ). sets (sets (set l i a) (suc i) xs) k bs) (add-suc i (length xs) ∙ sym (suc-add i (length xs)))
    ∙ sets_append (set l i a) (suc i) xs bs

-- a store just past a row, made before the row
pub sets_snoc : (l : List ℕ) (i : ℕ) (xs : List ℕ) (d : ℕ) → sets (set l (i + length xs) d) i xs ≡ sets l i (xs ++ (d ∷ []))
sets_snoc l i [] d = ap (λ (k : ℕ). set l k d) (add-zero i)
sets_snoc l i (a ∷ xs) d =
    ap (λ (m : List ℕ). sets m (suc i) xs)
    (ap (λ (k : ℕ). set (set l k d) i a) (add-suc i (length xs))
    ∙ set_comm l (suc (i + length xs)) i d a (λ e. omega arith)
    ∙ ap (λ (k : ℕ). set (set l i a) k d) (sym (suc-add i (length xs))))
    ∙ sets_snoc (set l i a) (suc i) xs d

-- before, after and within the row
pub sets_before : (bs l : List ℕ) (at p : ℕ) → p < at → get_or (sets l at bs) p 0 ≡ get_or l p 0
sets_before [] l at p h = refl
sets_before (b ∷ bs) l at p h = sets_before bs (set l at b) (suc at) p (omega arith) ∙ get_or-set_other l at p b 0 (λ e. omega arith)

pub sets_after : (bs l : List ℕ) (at p : ℕ) → at + length bs ≤ p → get_or (sets l at bs) p 0 ≡ get_or l p 0
sets_after [] l at p h = refl
sets_after (b ∷ bs) l at p h = sets_after bs (set l at b) (suc at) p (omega arith) ∙ get_or-set_other l at p b 0 (λ e. omega arith)

pub sets_in : (bs l : List ℕ) (at q : ℕ) → at + length bs ≤ length l → q < length bs → get_or (sets l at bs) (at + q) 0 ≡ get_or bs q 0
sets_in [] l at q h k = absurd (omega arith)
sets_in (b ∷ bs) l at zero h k = rw (add-zero at) (sets_before bs (set l at b) (suc at) at (omega arith) ∙ get_or-set_same l at b 0 (omega arith))
sets_in (b ∷ bs) l at (suc q) h k =
    let e : at + suc q ≡ suc at + q = omega arith in
    rw e (sets_in bs (set l at b) (suc at) q (omega (arith, length-set l at b)) (omega arith))

-- what was written is there
pub part_sets : (l : List ℕ) (i : ℕ) (bs : List ℕ) → i + length bs ≤ length l → take (length bs) (drop i (sets l i bs)) ≡ bs
part_sets l i bs h =
    rw (sets-eq bs l i h)
    (rw append_assoc
    (rw (drop_at (take i l) (bs ++ drop (i + length bs) l) i (length-take-le i l (omega arith)))
    (take_at bs (drop (i + length bs) l) (length bs) refl)))

-- a row that is as long as the list is all of it
pub sets_whole : (l bs : List ℕ) → length bs ≡ length l → sets l 0 bs ≡ bs
sets_whole l bs h = sets-eq bs l 0 (rw zero-add (omega arith)) ∙ rw (zero-add, h, drop-length) (append-nil bs)

-- a turn of a loop that copies xs into l
pub copy_turn : (l xs : List ℕ) (k i : ℕ) → i < length xs → sets (set l (k + i) (get_or xs i 0)) (k + (i + 1)) (drop (i + 1) xs) ≡ sets l (k + i) (drop i xs)
copy_turn l xs k i h =
    let e : k + (i + 1) ≡ suc (k + i) = omega arith in
    rw (e, drop-cons xs i 0 h, add-one)

-- element j of a part
pub part_at : (s : List ℕ) (a n j : ℕ) → j < n → get_or (take n (drop a s)) j 0 ≡ get_or s (a + j) 0
part_at s a n j h = get_or-take n (drop a s) j 0 h ∙ get_or-drop a s j 0

pub length_part : (s : List ℕ) (i n : ℕ) → i + n ≤ length s → length (take n (drop i s)) ≡ n
length_part s i n h = length-take-le n (drop i s) (rw length-drop (omega arith))

-- ---- a row given by a table

-- the first m elements of the row g stand from at on; then w more
pub row_on : (l k n : List ℕ) (at m w : ℕ) (g h : ℕ → ℕ) → k ≡ sets l at (table m g) → n ≡ sets k (at + m) (table w h)
    → ((q : ℕ) → q < w → g (m + q) ≡ h q) → n ≡ sets l at (table (m + w) g)
row_on l k n at m w g h e f s =
    f ∙ rw e (ap (λ (j : ℕ). sets (sets l at (table m g)) (at + j) (table w h)) (sym (length_table m g))
    ∙ sets_append l at (table m g) (table w h)
    ∙ ap (λ (r : List ℕ). sets l at (table m g ++ r)) (table_same w h (λ q. g (m + q)) (λ q k. sym (s q k)))
    ∙ ap (λ (r : List ℕ). sets l at r) (table_add m w g))

one_stored : (k : List ℕ) (p v : ℕ) → set k p v ≡ sets k p (table 1 (λ q. v))
unfolding table
one_stored k p v = refl

pub none_stored : (k : List ℕ) (p : ℕ) (g : ℕ → ℕ) → k ≡ sets k p (table 0 g)
unfolding table
none_stored k p g = refl

-- one element more
pub row_next : (l k : List ℕ) (at m v : ℕ) (g : ℕ → ℕ) → k ≡ sets l at (table m g) → v ≡ g m → set k (at + m) v ≡ sets l at (table (m + 1) g)
row_next l k at m v g e f =
    row_on l k (set k (at + m) v) at m 1 g (λ q. v) e (one_stored k (at + m) v) (λ q h. let y : m + q ≡ m = omega arith in rw y (sym f))

-- ---- a row written one number after the other from index `at` on, the j-th of them g j, n in all

pub record Row (g : ℕ → ℕ) (n : ℕ) (out₀ : List ℕ) (at : ℕ) (out : List ℕ) (j : ℕ) : Type 0 where
  pub at_most : j ≤ n
  pub long : at + n ≤ length out
  pub same : length out ≡ length out₀
  pub is : out ≡ sets out₀ at (table j g)

module _ (g : ℕ → ℕ) (n : ℕ) (out₀ : List ℕ) (at : ℕ) where
  pub row_none : at + n ≤ length out₀ → Row g n out₀ at out₀ 0
  row_none h = record { at_most = omega arith; long = h; same = refl; is = none_stored out₀ at g }

  module _ (out : List ℕ) (j : ℕ) (r : Row g n out₀ at out j) where
    pub row_more : (v : ℕ) → j < n → v ≡ g j → Row g n out₀ at (set out (at + j) v) (j + 1)
    row_more v h e = record {
      at_most = omega arith;
      long = rw length-set r.long;
      same = rw length-set r.same;
      is = row_next out₀ out at j v g r.is e;
    }

    pub row_all : n ≤ j → out ≡ sets out₀ at (table n g)
    row_all h = let z : j ≡ n = omega (arith, r.at_most) in rw z at r.is

-- from index 0 on
pub row_first : (g : ℕ → ℕ) (n : ℕ) (out₀ out : List ℕ) (j v : ℕ) → Row g n out₀ 0 out j → j < n → v ≡ g j → Row g n out₀ 0 (set out j v) (j + 1)
row_first g n out₀ out j v r h e = let z : 0 + j ≡ j = omega arith in rw z at (row_more g n out₀ 0 out j r v h e)

pub row_side : (l k n xs ys : List ℕ) (a : ℕ) → k ≡ sets l 0 xs → n ≡ sets k a ys → length xs ≡ a → n ≡ sets l 0 (xs ++ ys)
row_side l k n xs ys a e f h =
    let z : a ≡ 0 + length xs = omega arith in
    f ∙ rw (e, z) (sets_append l 0 xs ys)
