-- The lines of the day types: what the table has, and how long they are.
-- Assumes nothing.
use Prim.Native.Nat.{ℕ, suc, ◌+◌}
use mathlib.Core.Path.{◌≡◌, refl, sym, ◌∙◌}
use mathlib.Core.Bool.{Bool, true, false, not}
use mathlib.Core.List.{List, [], ◌∷◌, ◌++◌}
use native.Mathlib.Numerals.{add-one}
use lib.Dec.{eqb}
use lib.ListN.{length, length-append}
use borrow.Author.Tests.{eq-eqb, ne_eqb, not-true, not-false}
use Rattle.laws.proofs.Split.{by_test}
use Rattle.format.specs.Numbers.{decimal, digits_in}
use Rattle.format.proofs.Numbers.{length_digits}
use Rattle.lines.specs.Listing.{space, newline, word}
use Rattle.tariff.specs.declared.Entry.{Entry}
use Rattle.tariff.specs.Table.{any_of}
use Rattle.drawn.specs.Week.{switches, switch, switch_to, clock_of, before, time_text, time_at, times_to, names, type_line, types_to}

-- ---- the rate that a day type switches to

module _ (daytype minute : ℕ) where
  module _ (e : Entry) (rate : ℕ) (b : Bool) (p : b ≡ switches daytype minute e) where
    pub switch_yes : b ≡ true → e.z ≡ switch daytype minute e rate
    unfolding switch
    switch_yes h = rw (← p, h)

    pub switch_no : b ≡ false → rate ≡ switch daytype minute e rate
    unfolding switch
    switch_no h = rw (← p, h)

  pub switch_none : 0 ≡ switch_to daytype minute []
  unfolding switch_to
  switch_none = refl

  pub switch_next : (e : Entry) (es : List Entry) → switch daytype minute e (switch_to daytype minute es) ≡ switch_to daytype minute (e ∷ es)
  unfolding switch_to
  switch_next e es = refl

-- ---- how long a time is

before_length : (daytype minute : ℕ) → length (before daytype minute) ≡ 2
unfolding before
before_length daytype minute = by_test (eqb minute 0) (λ t. rw t (simp (length-append, length_digits))) (λ t. rw t)

module _ (daytype minute rate : ℕ) where
  pub time_none : rate ≡ 0 → 0 ≡ length (time_text daytype minute rate)
  unfolding time_text
  time_none h = rw (eq-eqb rate 0 h)

  pub time_some : (rate ≡ 0 → ⊥) → 8 ≡ length (time_text daytype minute rate)
  unfolding time_text
  time_some h =
      let clock : length (word 4 (clock_of minute) space) ≡ 5 = simp (length-append, length_digits) in
      rw (ne_eqb rate 0 h)
      (sym (length-append (before daytype minute ++ word 4 (clock_of minute) space) (digits_in decimal 1 rate)
      ∙ rw (length-append (before daytype minute) (word 4 (clock_of minute) space), before_length daytype minute, clock, length_digits decimal 1 rate)))

-- ---- how long the lines are

module _ (es : List Entry) (daytype : ℕ) where
  pub times_length_none : 0 ≡ length (times_to es daytype 0)
  unfolding times_to
  times_length_none = refl

  pub times_length_on : (m n k rate : ℕ) → n ≡ length (times_to es daytype m) → rate ≡ switch_to daytype m es → k ≡ length (time_text daytype m rate)
      → n + k ≡ length (times_to es daytype (m + 1))
  unfolding times_to
  times_length_on m n k rate p q r = rw (add-one, p, r, q) (sym (length-append (times_to es daytype m) (time_at es daytype m)))

  module _ (b : Bool) (p : b ≡ any_of (names daytype) es) where
    pub type_length_none : not b ≡ true → 0 ≡ length (type_line es daytype)
    unfolding type_line
    type_length_none h = rw (← p, not-true b h)

    pub type_length_some : (n : ℕ) → not b ≡ false → n ≡ length (times_to es daytype 1440) → n + 1 ≡ length (type_line es daytype)
    unfolding type_line
    type_length_some n h e = rw (← p, not-false b h) (sym (length-append (times_to es daytype 1440) (newline ∷ []) ∙ rw (← e)))

module _ (es : List Entry) where
  pub types_length_none : 0 ≡ length (types_to es 0)
  unfolding types_to
  types_length_none = refl

  pub types_length_on : (i n k : ℕ) → n ≡ length (types_to es i) → k ≡ length (type_line es (i + 1)) → n + k ≡ length (types_to es (i + 1))
  unfolding types_to
  types_length_on i n k p r = rw (p, r) (rw add-one (sym (length-append (types_to es i) (type_line es (suc i)))))
