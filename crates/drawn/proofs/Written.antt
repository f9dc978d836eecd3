-- The lines of the day types written.
-- Assumes nothing.
use Prim.Native.Nat.{ℕ, zero, suc, ◌+◌, ◌-◌, ◌≤◌, ◌<◌}
use mathlib.Core.Path.{◌≡◌, refl, sym}
use mathlib.Core.Bool.{Bool, true, false, not}
use mathlib.Core.List.{List, [], ◌∷◌, ◌++◌}
use native.Mathlib.Nat.{add-zero}
use native.Mathlib.Numerals.{add-one}
use native.Mathlib.Omega.{arith}
use lib.ListN.{length, length-append}
use borrow.Author.Tests.{eq-eqb, ne_eqb, not-true, not-false}
use Rattle.format.specs.Numbers.{decimal, binary, digits_in}
use Rattle.format.specs.Answers.{Wrote}
use Rattle.format.proofs.Writing.{then, same, wrote_as, wrote_none, one_byte}
use Rattle.lines.specs.Listing.{space, newline, word}
use Rattle.tariff.specs.declared.Entry.{Entry}
use Rattle.tariff.specs.Table.{any_of}
use Rattle.drawn.specs.Week.{switch_to, clock_of, before, switch_text, time_text, time_at, times_to, names, type_line, types_to}
use Rattle.drawn.proofs.Lengths.{time_some}

-- ---- a time

module _ (l m : List ℕ) (i daytype minute : ℕ) where
  pub before_first : minute ≡ 0 → Wrote l i 2 (word 1 daytype space) m → Wrote l i 2 (before daytype minute) m
  unfolding before
  before_first h p = rw (eq-eqb minute 0 h) p

  pub before_other : (n : ℕ) → (minute ≡ 0 → ⊥) → Wrote l i n (44 ∷ 32 ∷ []) m → Wrote l i 2 (before daytype minute) m
  unfolding before
  before_other n h p = rw (ne_eqb minute 0 h) (wrote_as 2 (44 ∷ 32 ∷ []) p refl (sym p.long))

module _ (l : List ℕ) (i daytype minute rate : ℕ) where
  pub time_stays : rate ≡ 0 → Wrote l i 0 (time_text daytype minute rate) l
  unfolding time_text
  time_stays h = rw (eq-eqb rate 0 h) (wrote_none l i)

  pub time_room : (rate ≡ 0 → ⊥) → i + length (time_text daytype minute rate) ≤ length l → i + 8 ≤ length l
  time_room h r = omega (arith, time_some daytype minute rate h)

  pub time_wrote : (m : List ℕ) → (rate ≡ 0 → ⊥) → Wrote l i 8 (switch_text daytype minute rate) m → Wrote l i 8 (time_text daytype minute rate) m
  unfolding time_text
  time_wrote m h p = rw (ne_eqb rate 0 h) p

  pub switch_wrote : (m k o : List ℕ) → Wrote l i 2 (before daytype minute) m → Wrote m (i + 2) 5 (word 4 (clock_of minute) space) k
      → Wrote k (i + 7) 1 (digits_in decimal 1 rate) o → Wrote l i 8 (switch_text daytype minute rate) o
  switch_wrote m k o p q r = then (then p q) r

-- ---- a line's times: those of the first minutes are no longer than all

module _ (es : List Entry) (daytype : ℕ) where
  times_grow : (m k : ℕ) → length (times_to es daytype m) ≤ length (times_to es daytype (m + k))
  unfolding times_to
  times_grow m zero = rw add-zero (omega arith)
  times_grow m (suc k) =
      let e : m + suc k ≡ suc (m + k) = omega arith in
      rw e (omega (arith, times_grow m k, length-append (times_to es daytype (m + k)) (time_at es daytype (m + k))))

  times_next : (m n : ℕ) → m < n → length (times_to es daytype m) + length (time_at es daytype m) ≤ length (times_to es daytype n)
  unfolding times_to
  times_next m n h =
      let e : suc m + (n - suc m) ≡ n = omega arith in
      let g : length (times_to es daytype (suc m)) ≤ length (times_to es daytype n) = rw e at (times_grow (suc m) (n - suc m)) in
      omega (arith, g, length-append (times_to es daytype m) (time_at es daytype m))

  pub times_room : (l o : List ℕ) (i m n rate : ℕ) → i + length (times_to es daytype 1440) ≤ length l → Wrote l i n (times_to es daytype m) o → length o ≡ length l → m < 1440
      → rate ≡ switch_to daytype m es → i + n + length (time_text daytype m rate) ≤ length o
  times_room l o i m n rate h w s b e = rw e (omega (arith, h, s, w.long, times_next m 1440 b))

  pub times_start : (l : List ℕ) (i : ℕ) → Wrote l i 0 (times_to es daytype 0) l
  unfolding times_to
  times_start l i = wrote_none l i

  pub times_on : (l o q : List ℕ) (i m n k rate : ℕ) → Wrote l i n (times_to es daytype m) o → rate ≡ switch_to daytype m es → Wrote o (i + n) k (time_text daytype m rate) q
      → Wrote l i (n + k) (times_to es daytype (m + 1)) q
  unfolding times_to
  times_on l o q i m n k rate p e r = rw add-one (then p (rw e at r))

  -- ---- a line

  module _ (l : List ℕ) (i : ℕ) (b : Bool) (p : b ≡ any_of (names daytype) es) where
    pub type_stays : not b ≡ true → Wrote l i 0 (type_line es daytype) l
    unfolding type_line
    type_stays h = rw (← p, not-true b h) (wrote_none l i)

    module _ (h : not b ≡ false) (room : i + length (type_line es daytype) ≤ length l) where
      type_space : i + length (times_to es daytype 1440) + 1 ≤ length l
      unfolding type_line
      type_space =
          let g : i + length (times_to es daytype 1440 ++ (newline ∷ [])) ≤ length l = rw (← p, not-false b h) at room in
          omega (arith, g, length-append (times_to es daytype 1440) (newline ∷ []))

      pub type_room : i + length (times_to es daytype 1440) ≤ length l
      type_room = omega (arith, type_space)

      pub type_end_room : (m : List ℕ) (n : ℕ) → Wrote l i n (times_to es daytype 1440) m → i + n + 1 ≤ length m
      type_end_room m n w = omega (arith, type_space, w.long, same w)

    pub type_wrote : (m k : List ℕ) (n : ℕ) → not b ≡ false → Wrote l i n (times_to es daytype 1440) m → Wrote m (i + n) 1 (digits_in binary 1 10) k
        → Wrote l i (n + 1) (type_line es daytype) k
    unfolding type_line
    type_wrote m k n h q r = rw (← p, not-false b h) (then q (wrote_as 1 (newline ∷ []) r (one_byte 10 (omega arith)) refl))

-- ---- the lines

module _ (es : List Entry) where
  types_grow : (i k : ℕ) → length (types_to es i) ≤ length (types_to es (i + k))
  unfolding types_to
  types_grow i zero = rw add-zero (omega arith)
  types_grow i (suc k) =
      let e : i + suc k ≡ suc (i + k) = omega arith in
      rw e (omega (arith, types_grow i k, length-append (types_to es (i + k)) (type_line es (suc (i + k)))))

  types_next : (i n : ℕ) → i < n → length (types_to es i) + length (type_line es (i + 1)) ≤ length (types_to es n)
  unfolding types_to
  types_next i n h =
      let e : suc i + (n - suc i) ≡ n = omega arith in
      let g : length (types_to es (suc i)) ≤ length (types_to es n) = rw e at (types_grow (suc i) (n - suc i)) in
      rw add-one (omega (arith, g, length-append (types_to es i) (type_line es (suc i))))

  pub types_room : (l o : List ℕ) (at i n : ℕ) → at + length (types_to es 8) ≤ length l → Wrote l at n (types_to es i) o → length o ≡ length l → i < 8
      → at + n + length (type_line es (i + 1)) ≤ length o
  types_room l o at i n h w s b = omega (arith, h, s, w.long, types_next i 8 b)

  pub types_start : (l : List ℕ) (at : ℕ) → Wrote l at 0 (types_to es 0) l
  unfolding types_to
  types_start l at = wrote_none l at

  pub types_on : (l o q : List ℕ) (at i n k : ℕ) → Wrote l at n (types_to es i) o → Wrote o (at + n) k (type_line es (i + 1)) q → Wrote l at (n + k) (types_to es (i + 1)) q
  unfolding types_to
  types_on l o q at i n k p r = rw add-one (then p (rw add-one at r))
