-- Lengths in a row: the place of a number in them, and back, for any lengths.
-- Assumes nothing.
use mathlib.Core.Path.{◌≡◌, refl, sym, ap, ◌∙◌}
use Prim.Native.Nat.{ℕ, zero, suc, ◌+◌, ◌-◌, ◌≤◌, ◌<◌}
use native.Mathlib.Nat.{add-zero, zero-add, add-suc, suc-add}
use native.Mathlib.Numerals.{add-one}
use native.Mathlib.Omega.{arith}
use native.Mathlib.Decide.{dec_lt}
use borrow.Author.Tests.{lt-ltb, le-ltb}
use Rattle.laws.specs.Tests.{sum_below}
use Rattle.calendar.specs.Calendar.{place}

module _ (len : ℕ → ℕ) where
  -- one step of the walk, either way
  here : (f k n : ℕ) → n < len k → place len f k n ≡ record { which = k; rest = n }
  unfolding place
  here zero k n h = refl
  here (suc f) k n h = rw (lt-ltb n (len k) h)

  next : (f k n : ℕ) → len k ≤ n → place len (suc f) k n ≡ place len f (suc k) (n - len k)
  unfolding place
  next f k n h = rw (le-ltb n (len k) h)

  -- nothing is lost
  pub place_sum : (f k n : ℕ) → sum_below len (place len f k n).which + (place len f k n).rest ≡ sum_below len k + n
  unfolding sum_below place
  place_sum zero k n = refl
  place_sum (suc f) k n = go (place_sum f (suc k) (n - len k)) (dec_lt n (len k))
    where
      go : sum_below len (place len f (suc k) (n - len k)).which + (place len f (suc k) (n - len k)).rest ≡ sum_below len (suc k) + (n - len k)
          → Dec (n < len k) → sum_below len (place len (suc f) k n).which + (place len (suc f) k n).rest ≡ sum_below len k + n
      go ih (yes h) = rw (here (suc f) k n h)
      go ih (no h) = rw (next f k n (omega arith)) (ih ∙ (omega arith))

  -- no more than f are passed over
  pub place_le : (f k n : ℕ) → (place len f k n).which ≤ k + f
  unfolding place
  place_le zero k n = omega arith
  place_le (suc f) k n = go (place_le f (suc k) (n - len k)) (dec_lt n (len k))
    where
      go : (place len f (suc k) (n - len k)).which ≤ suc k + f → Dec (n < len k) → (place len (suc f) k n).which ≤ k + suc f
      go ih (yes h) = rw (here (suc f) k n h) (omega arith)
      go ih (no h) = rw (next f k n (omega arith)) (omega arith)

  -- what is below the sum of them all has its place within a length
  pub place_fits : (f k n : ℕ) → sum_below len k + n < sum_below len (suc (k + f)) → (place len f k n).rest < len (place len f k n).which
  unfolding sum_below place
  place_fits zero k n h = let e : sum_below len (suc (k + 0)) ≡ sum_below len (suc k) = rw add-zero in omega arith
  place_fits (suc f) k n h = go (λ g. place_fits f (suc k) (n - len k) g) (dec_lt n (len k))
    where
      go : (sum_below len (suc k) + (n - len k) < sum_below len (suc (suc k + f)) → (place len f (suc k) (n - len k)).rest < len (place len f (suc k) (n - len k)).which)
          → Dec (n < len k) → (place len (suc f) k n).rest < len (place len (suc f) k n).which
      go ih (yes l) = rw (here (suc f) k n l) l
      go ih (no l) =
          let e : sum_below len (suc (k + suc f)) ≡ sum_below len (suc (suc k + f)) = rw (add-suc k f, suc-add k f) in
          rw (next f k n (omega arith)) (ih (omega arith))

  -- the sum of j lengths from k on
  from : ℕ → ℕ → ℕ
  from k zero = 0
  from k (suc j) = len k + from (suc k) j

  sum_from : (j k : ℕ) → sum_below len (k + j) ≡ sum_below len k + from k j
  unfolding sum_below from
  sum_from zero k = rw (add-zero k) (omega arith)
  sum_from (suc j) k = ap (sum_below len) (add-suc k j ∙ sym (suc-add k j)) ∙ sum_from j (suc k) ∙ (omega arith)

  place_from : (j f k n : ℕ) → j ≤ f → n < len (k + j) → place len f k (from k j + n) ≡ record { which = k + j; rest = n }
  unfolding place from
  place_from zero f k n h l = rw (zero-add n, add-zero k) (here f k n (rw add-zero at l))
  place_from (suc j) zero k n h l = absurd (omega arith)
  place_from (suc j) (suc f) k n h l =
      let e : len k + from (suc k) j + n - len k ≡ from (suc k) j + n = omega arith in
      next f k (len k + from (suc k) j + n) (omega arith)
      ∙ rw (e, add-suc k j, ← suc-add k j) (place_from j f (suc k) n (omega arith) (rw (add-suc, ← suc-add) at l))

  -- a place within a length is found again
  pub place_of : (j f n : ℕ) → j ≤ f → n < len j → place len f 0 (sum_below len j + n) ≡ record { which = j; rest = n }
  unfolding sum_below place from
  place_of j f n h l =
      let e : sum_below len j ≡ from 0 j = ap (sum_below len) (sym (zero-add j)) ∙ sum_from j 0 ∙ zero-add (from 0 j) in
      rw (e) (place_from j f 0 n h (rw zero-add l) ∙ rw zero-add)

  -- one length more, and any number more
  pub sum_one : (k : ℕ) → sum_below len (k + 1) ≡ sum_below len k + len k
  unfolding sum_below
  sum_one k = ap (sum_below len) (add-one k)

  pub sum_up : (j k : ℕ) → j ≤ k → sum_below len j ≤ sum_below len k
  sum_up j k h = let e : j + (k - j) ≡ k = omega arith in rw e at (go (k - j))
    where
      go : (d : ℕ) → sum_below len j ≤ sum_below len (j + d)
      go d = omega (arith, sum_from d j)
