-- Tests over a list and over the first numbers, and sums over the first numbers, as a loop gathers them.
-- Assumes nothing.
use Prim.Native.Nat.{ℕ, zero, suc, ◌+◌, ◌-◌, ◌*◌, ◌≤◌, ◌<◌}
use mathlib.Core.Path.{◌≡◌, refl, sym, ap, ◌∙◌}
use mathlib.Core.Bool.{Bool, true, false, not, ◌&&◌, and-true, and_assoc, true≢false}
use mathlib.Core.List.{List, [], ◌∷◌}
use mathlib.Core.Logic.{◌↔◌}
use native.Mathlib.Numerals.{add-one}
use native.Mathlib.Decide.{ℕ_discrete, dec_lt}
use native.Mathlib.Omega.{arith}
use lib.Dec.{leb}
use borrow.Author.Tests.{not-true, not-false, leb-true, le-leb}
use Rattle.laws.specs.Tests.{and_all, all_true, all_below, first_out, sum_below}
use Rattle.laws.proofs.Bools.{and_left, and_right, both, no_right, bool_eq}
use Rattle.laws.proofs.Split.{by_test, by_dec}

-- ---- the tests of a list

abbrev pub EachTrue : List Bool → Type 0
EachTrue [] = Unit {0}
EachTrue (b ∷ bs) = (b ≡ true) × EachTrue bs

each_of : (bs : List Bool) (b : Bool) → and_all b bs ≡ true → (b ≡ true) × EachTrue bs
each_of [] b e = (e, tt)
each_of (c ∷ cs) b e =
    let h = each_of cs (b && c) e in
    (and_left b c h.0, (and_right b c h.0, h.1))

pub all_true_each : (bs : List Bool) → all_true bs ≡ true → EachTrue bs
all_true_each [] e = tt
all_true_each (b ∷ bs) e = each_of bs b e

and_all_of : (bs : List Bool) (b : Bool) → b ≡ true → EachTrue bs → and_all b bs ≡ true
and_all_of [] b e h = e
and_all_of (c ∷ cs) b e h = and_all_of cs (b && c) (rw (e, h.0)) h.1

pub all_true_of : (bs : List Bool) → EachTrue bs → all_true bs ≡ true
all_true_of [] h = refl
all_true_of (b ∷ bs) h = and_all_of bs b h.0 h.1

-- ---- a test at each of the first numbers

pub all_none : (p : ℕ → Bool) → true ≡ all_below p 0
unfolding all_below
all_none p = refl

-- a turn of the loop that gathers `ok = ok & test(i)`, and its end
pub all_turn : (p : ℕ → Bool) (i : ℕ) (ok b : Bool) → ok ≡ all_below p i → b ≡ p i → (ok && b) ≡ all_below p (i + 1)
unfolding all_below
all_turn p i ok b e f = rw (e, f, add-one)

pub all_end : (p : ℕ → Bool) (i n : ℕ) (ok : Bool) → ok ≡ all_below p i → i ≤ n → n ≤ i → ok ≡ all_below p n
all_end p i n ok e h g = let q : i ≡ n = omega arith in rw q at e

pub all_at : (p : ℕ → Bool) (n : ℕ) → all_below p n ≡ true → (k : ℕ) → k < n → p k ≡ true
unfolding all_below
all_at p zero e k h = absurd (omega arith)
all_at p (suc n) e k h =
    by_dec (ℕ_discrete k n)
    (λ q. rw q (and_right (all_below p n) (p n) e))
    (λ q. all_at p n (and_left (all_below p n) (p n) e) k (omega arith))

pub all_of : (p : ℕ → Bool) (n : ℕ) → ((k : ℕ) → k < n → p k ≡ true) → all_below p n ≡ true
unfolding all_below
all_of p zero h = refl
all_of p (suc n) h = rw (all_of p n (λ k l. h k (omega arith)), h n (omega arith))

pub all_out : (p : ℕ → Bool) (n i : ℕ) → i < n → p i ≡ false → all_below p n ≡ false
unfolding all_below
all_out p zero i l e = absurd (omega arith)
all_out p (suc n) i l e =
    by_dec (ℕ_discrete i n)
    (λ q. no_right (all_below p n) (p n) (rw q at e))
    (λ q. rw (all_out p n i (omega arith) e))

pub all_same : (p q : ℕ → Bool) (n : ℕ) → ((k : ℕ) → k < n → p k ≡ q k) → all_below p n ≡ all_below q n
unfolding all_below
all_same p q zero h = refl
all_same p q (suc n) h = rw (all_same p q n (λ k l. h k (omega arith)), h n (omega arith))

pub all_cons : (p : ℕ → Bool) (n : ℕ) → all_below p (suc n) ≡ (p 0 && all_below (λ (i : ℕ). p (suc i)) n)
unfolding all_below
all_cons p zero = sym (and-true (p 0))
all_cons p (suc n) = ap (λ (b : Bool). b && p (suc n)) (all_cons p n) ∙ and_assoc (p 0) (all_below (λ (i : ℕ). p (suc i)) n) (p (suc n))

-- how many numbers are at most m
pub all_leb : (m n : ℕ) → all_below (λ (i : ℕ). leb i m) n ≡ leb n (m + 1)
all_leb m n =
    bool_eq (all_below (λ (i : ℕ). leb i m) n) (leb n (m + 1))
    (λ e. by_dec (dec_lt n (m + 2)) (λ l. le-leb n (m + 1) (omega arith)) (λ l. absurd (omega (arith, leb-true (m + 1) m (all_at (λ (i : ℕ). leb i m) n e (m + 1) (omega arith))))))
    (λ e. all_of (λ (i : ℕ). leb i m) n (λ k l. le-leb k m (omega (arith, leb-true n (m + 1) e))))

-- numbers that the same numbers are less than
pub same_count : (c k : ℕ) → ((j : ℕ) → (j < c) ↔ (j < k)) → c ≡ k
same_count c k iff =
    by_dec (dec_lt c k)
    (λ l. absurd (let no : c < c = (iff c).1 l in omega arith))
    (λ l. by_dec (dec_lt k c)
    (λ m. absurd (let no : k < k = (iff k).0 m in omega arith))
    (λ m. omega arith))

-- a loop that returns at the first failed test: what it keeps, a turn, its two ends
pub record All (p : ℕ → Bool) (n i : ℕ) : Type 0 where
  pub at_most : i ≤ n
  pub so_far : all_below p i ≡ true

module _ (p : ℕ → Bool) (n : ℕ) where
  pub all_start : All p n 0
  all_start = record { at_most = omega arith; so_far = sym (all_none p) }

  pub all_next : (i : ℕ) → All p n i → i < n → p i ≡ true → All p n (i + 1)
  all_next i a h e = record { at_most = omega arith; so_far = sym (all_turn p i true true (sym a.so_far) (sym e)) }

  pub all_passed : (i : ℕ) (r : Bool) → All p n i → i < n → r ≡ p i → not r ≡ false → All p n (i + 1)
  all_passed i r a h e t = all_next i a h (sym e ∙ not-false r t)

  pub all_stop : (i : ℕ) (r : Bool) → i < n → r ≡ p i → not r ≡ true → false ≡ all_below p n
  all_stop i r h e t = sym (all_out p n i h (sym e ∙ not-true r t))

  pub all_done : (i : ℕ) → All p n i → n ≤ i → true ≡ all_below p n
  all_done i a h = let e : i ≡ n = omega (arith, a.at_most) in sym (rw e at a.so_far)

-- ---- the first test that fails

pub out_at : (p : ℕ → Bool) (n i : ℕ) → i < n → all_below p i ≡ true → p i ≡ false → first_out p n ≡ i
unfolding first_out
out_at p zero i l a f = absurd (omega arith)
out_at p (suc n) zero l a f = rw f
out_at p (suc n) (suc i) l a f =
    let c = both (p 0) (all_below (λ (k : ℕ). p (suc k)) i) (sym (all_cons p i) ∙ a) in
    rw (c.0, out_at (λ (k : ℕ). p (suc k)) n i (omega arith) c.1 f)

pub out_none : (p : ℕ → Bool) (n : ℕ) → all_below p n ≡ true → first_out p n ≡ n
unfolding first_out
out_none p zero a = refl
out_none p (suc n) a =
    let c = both (p 0) (all_below (λ (k : ℕ). p (suc k)) n) (sym (all_cons p n) ∙ a) in
    rw (c.0, out_none (λ (k : ℕ). p (suc k)) n c.1)

-- where a test fails it is the first: it fails there, and passes at each number before
pub out_some : (p : ℕ → Bool) (n : ℕ) → all_below p n ≡ false → (first_out p n < n) × (p (first_out p n) ≡ false) × (all_below p (first_out p n) ≡ true)
unfolding first_out all_below
out_some p zero a = absurd (true≢false a)
out_some p (suc n) a =
    by_test (p 0)
    (λ t.
    let q : ℕ → Bool = λ (k : ℕ). p (suc k) in
    let b : all_below q n ≡ false = rw t at (sym (all_cons p n) ∙ a) in
    let h = out_some q n b in
    rw t (omega (arith, h.0), h.1, all_cons p (first_out q n) ∙ rw (t, h.2)))
    (λ t. rw t (omega arith, t, refl))

-- a loop that returns at the first failed test
module _ (p : ℕ → Bool) (n : ℕ) where
  pub out_stop : (i : ℕ) (r : Bool) → All p n i → i < n → r ≡ p i → not r ≡ true → i ≡ first_out p n
  out_stop i r a h e t = sym (out_at p n i h a.so_far (sym e ∙ not-true r t))

  pub out_done : (i : ℕ) → All p n i → n ≤ i → n ≡ first_out p n
  out_done i a h = sym (out_none p n (sym (all_done p n i a h)))

-- ---- sums

pub sum_none : (f : ℕ → ℕ) → 0 ≡ sum_below f 0
unfolding sum_below
sum_none f = refl

pub sum_turn : (f : ℕ → ℕ) (i sum x : ℕ) → sum ≡ sum_below f i → x ≡ f i → sum + x ≡ sum_below f (i + 1)
unfolding sum_below
sum_turn f i sum x e g = rw (e, g, add-one)

pub sum_end : (f : ℕ → ℕ) (i n sum : ℕ) → sum ≡ sum_below f i → i ≤ n → n ≤ i → sum ≡ sum_below f n
sum_end f i n sum e h g = let q : i ≡ n = omega arith in rw q at e

pub sum_same : (f g : ℕ → ℕ) (n : ℕ) → ((i : ℕ) → i < n → f i ≡ g i) → sum_below f n ≡ sum_below g n
unfolding sum_below
sum_same f g zero e = refl
sum_same f g (suc n) e = omega (arith, sum_same f g n (λ i l. e i (omega arith)), e n (omega arith))

pub sum_le : (f g : ℕ → ℕ) (n : ℕ) → ((i : ℕ) → i < n → f i ≤ g i) → sum_below f n ≤ sum_below g n
unfolding sum_below
sum_le f g zero e = omega arith
sum_le f g (suc n) e = omega (arith, sum_le f g n (λ i l. e i (omega arith)), e n (omega arith))

pub sum_below_lem : (f : ℕ → ℕ) (n m : ℕ) → ((i : ℕ) → i < n → f i ≤ m) → sum_below f n ≤ m * n
unfolding sum_below
sum_below_lem f zero m e = omega arith
sum_below_lem f (suc n) m e = omega (arith, sum_below_lem f n m (λ i l. e i (omega arith)), e n (omega arith))

-- what f adds beyond g
pub sum_less : (f g : ℕ → ℕ) (n : ℕ) → ((i : ℕ) → i < n → g i ≤ f i) → sum_below (λ i. f i - g i) n + sum_below g n ≡ sum_below f n
unfolding sum_below
sum_less f g zero e = refl
sum_less f g (suc n) e = omega (arith, sum_less f g n (λ i l. e i (omega arith)), e n (omega arith))

-- nothing is added from k on
pub sum_tail : (f : ℕ → ℕ) (k n : ℕ) → k ≤ n → ((i : ℕ) → k ≤ i → i < n → f i ≡ 0) → sum_below f n ≡ sum_below f k
unfolding sum_below
sum_tail f k zero l e = let z : k ≡ 0 = omega arith in rw z
sum_tail f k (suc n) l e =
    by_dec (ℕ_discrete k (suc n))
    (λ z. rw z)
    (λ z. omega (arith, sum_tail f k n (omega arith) (λ i a b. e i a (omega arith)), e n (omega arith) (omega arith)))

pub sum_cons : (f : ℕ → ℕ) (n : ℕ) → sum_below f (suc n) ≡ f 0 + sum_below (λ (i : ℕ). f (suc i)) n
unfolding sum_below
sum_cons f zero = omega arith
sum_cons f (suc n) = omega (arith, sum_cons f n)
