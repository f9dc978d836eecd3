-- One day in its room: what closing a half-hour, opening a day and a flag do to it, in its own room and in another.
-- Assumes nothing.
use Prim.Native.Nat.{ℕ, suc, ◌+◌, ◌*◌, ◌/◌, ◌%◌, ◌<◌, ◌≤◌}
use mathlib.Core.Path.{◌≡◌, sym, ap, ◌∙◌}
use mathlib.Core.Bool.{Bool}
use mathlib.Core.List.{List}
use native.Mathlib.Nat.{mod-lt}
use native.Mathlib.Decide.{ℕ_discrete, dec_lt}
use native.Mathlib.Omega.{arith}
use lib.Bits.{bit_or}
use lib.ListN.{length, get_or, set, length-set}
use lib.Seq.{get_or-set_other, get_or-set_same}
use Rattle.laws.specs.Bits.{pack_bits}
use Rattle.laws.proofs.Bits.{packed_same}
use Rattle.laws.proofs.Ring.{ring_apart, other_room, other_place, this_place}
use Rattle.laws.proofs.Split.{by_dec}
use Rattle.quantity.specs.Units.{reading_at, value_at}
use Rattle.marks.specs.Marks.{taken}
use Rattle.marks.proofs.Laws.{taken_packed}
use Rattle.store.specs.Store.{Store, Fits, push_at, closed, opened, flag_at}
use Rattle.recorder.specs.declared.SetUp.{SetUp}
use Rattle.assurance.specs.Paper.{Counts, Marks, total_at}
use Rattle.assurance.proofs.Kept.{Stored, ValuesKept, MarksKept, cap_of, reached, of_day}

-- a word of another room; a word, read back
other_word : (l : List ℕ) (r e a at v : ℕ) → (r ≡ e → ⊥) → r * 3 ≤ a → a < r * 3 + 3 → e * 3 ≤ at → at < e * 3 + 3 → get_or (set l at v) a 0 ≡ get_or l a 0
other_word l r e a at v ne h1 h2 h3 h4 = get_or-set_other l at a v 0 (omega arith)

this_word : (l : List ℕ) (cap r at v : ℕ) → length l ≡ cap * 3 → r < cap → at < r * 3 + 3 → get_or (set l at v) at 0 ≡ v
this_word l cap r at v e h k = get_or-set_same l at v 0 (omega arith)

-- half-hour q closes: each stored day has what it had, and the running one a half-hour more
module _ (s : SetUp) (q : ℕ) (x : Store) (f : Fits (cap_of s) x) (a : ℕ) (b c : Bool) (d : ℕ) (i : Stored s q d) where
  abbrev y : Store
  y = closed (cap_of s) q a b c x

  abbrev r : ℕ
  r = d % cap_of s

  abbrev e : ℕ
  e = q / 48 % cap_of s

  apart : d < q / 48 → r ≡ e → ⊥
  apart l = ring_apart (cap_of s) d (q / 48) l i.near

  pub closed_values : (p : Counts) → a ≡ value_at (total_at s p (suc q)) → ValuesKept s p d (reached q d) r x.values x.starts
      → ValuesKept s p d (reached (suc q) d) r y.values y.starts
  unfolding closed
  closed_values p ea g =
      by_dec (dec_lt d (q / 48))
      (λ l. record { start = g.start; value = λ j h. other_room 48 x.values r e j (q % 48) a (apart l) (omega arith) (omega arith) ∙ g.value j (omega arith) })
      (λ l.
      let same : d ≡ q / 48 = omega (arith, i.last) in
      rw (← same) record {
        start = g.start;
        value = λ j h. by_dec (ℕ_discrete j (q % 48))
            (λ z.
            let at : 48 * d + suc (q % 48) ≡ suc q = omega arith in
            rw (z, at) (this_place 48 (cap_of s) x.values r (q % 48) a f.values (mod-lt d f.some) (omega arith) ∙ ea))
            (λ z. other_place 48 x.values r j (q % 48) a z ∙ g.value j (omega arith));
      })

  pub closed_marks : (p : Marks) → b ≡ p.reverse q → c ≡ p.level2 q → MarksKept p d (reached q d) r x.marks → MarksKept p d (reached (suc q) d) r y.marks
  unfolding closed push_at of_day
  closed_marks p eb ec g =
      by_dec (dec_lt d (q / 48))
      (λ l.
      let k : reached (suc q) d ≡ reached q d = omega arith in
      rw k record { reverse = other l (r * 3) (omega arith) (omega arith) ∙ g.reverse; level2 = other l (r * 3 + 1) (omega arith) (omega arith) ∙ g.level2 })
      (λ l.
      let same : d ≡ q / 48 = omega (arith, i.last) in
      let k : reached (suc q) d ≡ suc (q % 48) = omega arith in
      let k' : reached q d ≡ q % 48 = omega arith in
      let at : 48 * d + q % 48 ≡ q = omega arith in
      let g' = rw k' at g in
      rw (k, ← same) record {
        reverse =
            get_or-set_other (push_at x.marks (r * 3) b) (r * 3 + 1) (r * 3) _ 0 (omega arith)
            ∙ this_word x.marks (cap_of s) r (r * 3) _ f.marks (mod-lt d f.some) (omega arith)
            ∙ ap (λ (w : ℕ). taken w b) g'.reverse
            ∙ taken_packed (q % 48) (of_day p.reverse d) b (omega arith) (rw at eb);
        level2 =
            this_word (push_at x.marks (r * 3) b) (cap_of s) r (r * 3 + 1) _ (length-set x.marks (r * 3) _ ∙ f.marks) (mod-lt d f.some) (omega arith)
            ∙ ap (λ (w : ℕ). taken w c) (get_or-set_other x.marks (r * 3) (r * 3 + 1) _ 0 (omega arith) ∙ g'.level2)
            ∙ taken_packed (q % 48) (of_day p.level2 d) c (omega arith) (rw at ec);
      })
    where
      other : d < q / 48 → (w : ℕ) → r * 3 ≤ w → w < r * 3 + 3 → get_or (push_at (push_at x.marks (e * 3) b) (e * 3 + 1) c) w 0 ≡ get_or x.marks w 0
      other l w lo hi =
          other_word (push_at x.marks (e * 3) b) r e w (e * 3 + 1) _ (apart l) lo hi (omega arith) (omega arith)
          ∙ other_word x.marks r e w (e * 3) _ (apart l) lo hi (omega arith) (omega arith)

  pub closed_flags : get_or y.marks (r * 3 + 2) 0 ≡ get_or x.marks (r * 3 + 2) 0
  unfolding closed push_at
  closed_flags =
      get_or-set_other (push_at x.marks (e * 3) b) (e * 3 + 1) (r * 3 + 2) _ 0 (omega arith)
      ∙ get_or-set_other x.marks (e * 3) (r * 3 + 2) _ 0 (omega arith)

-- another day is opened
module _ (cap : ℕ) (x : Store) (e a r : ℕ) (ne : r ≡ e % cap → ⊥) where
  abbrev z : Store
  z = opened cap e a x

  open_word : (w : ℕ) → r * 3 ≤ w → w < r * 3 + 3 → get_or z.marks w 0 ≡ get_or x.marks w 0
  unfolding opened
  open_word w lo hi =
      let o = e % cap in
      other_word (set (set x.marks (o * 3) 0) (o * 3 + 1) 0) r o w (o * 3 + 2) 0 ne lo hi (omega arith) (omega arith)
      ∙ other_word (set x.marks (o * 3) 0) r o w (o * 3 + 1) 0 ne lo hi (omega arith) (omega arith)
      ∙ other_word x.marks r o w (o * 3) 0 ne lo hi (omega arith) (omega arith)

  pub opened_values : (s : SetUp) (p : Counts) (d k : ℕ) → ValuesKept s p d k r x.values x.starts → ValuesKept s p d k r z.values z.starts
  unfolding opened
  opened_values s p d k g = record { start = get_or-set_other x.starts (e % cap) r a 0 ne ∙ g.start; value = g.value }

  pub opened_marks : (p : Marks) (d k : ℕ) → MarksKept p d k r x.marks → MarksKept p d k r z.marks
  opened_marks p d k g = record { reverse = open_word (r * 3) (omega arith) (omega arith) ∙ g.reverse; level2 = open_word (r * 3 + 1) (omega arith) (omega arith) ∙ g.level2 }

  pub opened_flags : get_or z.marks (r * 3 + 2) 0 ≡ get_or x.marks (r * 3 + 2) 0
  opened_flags = open_word (r * 3 + 2) (omega arith) (omega arith)

-- and itself: no half-hour has ended, nothing is marked or flagged
module _ (cap : ℕ) (x : Store) (f : Fits cap x) (d a : ℕ) where
  abbrev n : Store
  n = opened cap d a x

  abbrev o : ℕ
  o = d % cap

  pub new_values : (s : SetUp) (p : Counts) → a ≡ reading_at (total_at s p (48 * d)) → ValuesKept s p d 0 o n.values n.starts
  unfolding opened
  new_values s p ea =
      record { start = get_or-set_same x.starts o a 0 (omega (arith, mod-lt d f.some, f.starts)) ∙ ea; value = λ j l. absurd (omega arith) }

  pub new_marks : (p : Marks) → MarksKept p d 0 o n.marks
  unfolding opened pack_bits
  new_marks p = record {
    reverse =
        get_or-set_other (set (set x.marks (o * 3) 0) (o * 3 + 1) 0) (o * 3 + 2) (o * 3) 0 0 (omega arith)
        ∙ get_or-set_other (set x.marks (o * 3) 0) (o * 3 + 1) (o * 3) 0 0 (omega arith)
        ∙ this_word x.marks cap o (o * 3) 0 f.marks (mod-lt d f.some) (omega arith);
    level2 =
        get_or-set_other (set (set x.marks (o * 3) 0) (o * 3 + 1) 0) (o * 3 + 2) (o * 3 + 1) 0 0 (omega arith)
        ∙ this_word (set x.marks (o * 3) 0) cap o (o * 3 + 1) 0 (length-set x.marks (o * 3) 0 ∙ f.marks) (mod-lt d f.some) (omega arith);
  }

  pub new_flags : get_or n.marks (o * 3 + 2) 0 ≡ 0
  unfolding opened
  new_flags =
      this_word (set (set x.marks (o * 3) 0) (o * 3 + 1) 0) cap o (o * 3 + 2) 0
      (length-set (set x.marks (o * 3) 0) (o * 3 + 1) 0 ∙ length-set x.marks (o * 3) 0 ∙ f.marks) (mod-lt d f.some) (omega arith)

-- day e's flags take one more: marks stay, and so do another day's flags
module _ (cap flag e : ℕ) (m : List ℕ) where
  pub flagged_marks : (p : Marks) (d k r : ℕ) → MarksKept p d k r m → MarksKept p d k r (flag_at cap flag e m)
  unfolding flag_at
  flagged_marks p d k r g = record {
    reverse = get_or-set_other m (e % cap * 3 + 2) (r * 3) _ 0 (omega arith) ∙ g.reverse;
    level2 = get_or-set_other m (e % cap * 3 + 2) (r * 3 + 1) _ 0 (omega arith) ∙ g.level2;
  }

  pub flagged_other : (r : ℕ) → (r ≡ e % cap → ⊥) → get_or (flag_at cap flag e m) (r * 3 + 2) 0 ≡ get_or m (r * 3 + 2) 0
  unfolding flag_at
  flagged_other r ne = get_or-set_other m (e % cap * 3 + 2) (r * 3 + 2) _ 0 (omega arith)

  pub flagged_here : 0 < cap → length m ≡ cap * 3 → (x : ℕ) → get_or m (e % cap * 3 + 2) 0 ≡ x → get_or (flag_at cap flag e m) (e % cap * 3 + 2) 0 ≡ bit_or x flag
  unfolding flag_at
  flagged_here some long x g =
      this_word m cap (e % cap) (e % cap * 3 + 2) _ long (mod-lt e some) (omega arith) ∙ ap (λ (w : ℕ). bit_or w flag) g

  pub flagged_long : length (flag_at cap flag e m) ≡ length m
  unfolding flag_at
  flagged_long = length-set m (e % cap * 3 + 2) _

-- a paper that says the same of what has ended of the day
pub same_values : (s : SetUp) (p p' : Counts) (d k r : ℕ) (values starts : List ℕ) → ((h : ℕ) → h ≤ 48 * d + k → total_at s p' h ≡ total_at s p h)
    → ValuesKept s p d k r values starts → ValuesKept s p' d k r values starts
same_values s p p' d k r values starts e g =
    record { start = rw (e (48 * d) (omega arith)) g.start; value = λ j l. rw (e (48 * d + suc j) (omega arith)) (g.value j l) }

pub same_marks : (p p' : Marks) (d k r : ℕ) (words : List ℕ)
    → ((j : ℕ) → j < k → p'.reverse (48 * d + j) ≡ p.reverse (48 * d + j)) → ((j : ℕ) → j < k → p'.level2 (48 * d + j) ≡ p.level2 (48 * d + j))
    → MarksKept p d k r words → MarksKept p' d k r words
unfolding of_day
same_marks p p' d k r words a b g = record {
  reverse = g.reverse ∙ sym (packed_same k (of_day p'.reverse d) (of_day p.reverse d) a);
  level2 = g.level2 ∙ sym (packed_same k (of_day p'.level2 d) (of_day p.level2 d) b);
}
