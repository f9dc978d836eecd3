-- The half-hours that a ledger holds after honest blocks are those that the blocks told, and as the history has them.
-- Assumes nothing.
use mathlib.Core.Path.{◌≡◌, refl, ap}
use mathlib.Core.Logic.{◌↔◌, ◌⊎◌, inl, inr}
use mathlib.Core.Bool.{true, false≢true}
use mathlib.Core.List.Memᴰ
use mathlib.Core.List.{List, [], ◌∷◌, Memᴰ}
use Prim.Native.Nat.{ℕ, zero, suc, ◌<◌, ◌≤◌, ◌+◌, ◌-◌}
use native.Mathlib.Omega.{arith}
use native.Mathlib.Decide.{dec_lt}
use borrow.Author.Tests.{le-leb, lt-leb}
use Rattle.laws.proofs.Split.{by_test, by_dec}
use Rattle.laws.proofs.Table.{length_table, table_at}
use Rattle.calendar.specs.Clock.{ended_on}
use Rattle.days.specs.Day.{History, is_held, start_of, flags_of, no_half, half_at, count, flags_held, cut, up_from, missing}
use Rattle.days.specs.View.{Carries}
use Rattle.days.specs.Desk.{Desk, Laws}
use Rattle.days.specs.Told.{AllHonest, DayTold, HalfTold, Told, Kept}
use Rattle.days.proofs.Cut.{count_cut}
use Rattle.days.proofs.Offer.{reach_of_lem, reach_is}
use Rattle.days.proofs.Fold.{reach_b, reaches, reaches_le, cuts, slot_cuts, held_cuts, fit_blocks, run_fresh}

-- membership in a run of numbers
up_from_of : (k n j : ℕ) → Memᴰ j (up_from k n) → (k ≤ j) × (j < k + n)
up_from_of k zero j m = absurd (Memᴰ.not-nil m)
up_from_of k (suc n) j m = go (λ m'. up_from_of (suc k) n j m') (Memᴰ.cases_cons m)
  where
    go : (Memᴰ j (up_from (suc k) n) → (suc k ≤ j) × (j < suc k + n)) → (j ≡ k) ⊎ Memᴰ j (up_from (suc k) n) → (k ≤ j) × (j < k + suc n)
    go ih (inl e) = omega arith
    go ih (inr m') = omega (arith, ih m')

up_from_is : (k n j : ℕ) → k ≤ j → j < k + n → Memᴰ j (up_from k n)
up_from_is k zero j lo hi = absurd (omega arith)
up_from_is k (suc n) j lo hi =
    by_dec (dec_lt k j)
    (λ l. Memᴰ.tail (up_from_is (suc k) n j l (omega arith)))
    (λ n. let e : j ≡ k = omega arith in Memᴰ.head e)

-- the numbers from c to 47 are those below 48 that P leaves out, where P holds of those below c
lack_iff : (c : ℕ) → c ≤ 48 → (P : ℕ → Type 0) → ((j : ℕ) → (j < c) ↔ P j) → (j : ℕ) → Memᴰ j (up_from c (48 - c)) ↔ ((j < 48) × (P j → ⊥))
lack_iff c le P iff j = (to, of)
  where
    to : Memᴰ j (up_from c (48 - c)) → (j < 48) × (P j → ⊥)
    to m = let r = up_from_of c (48 - c) j m in (omega arith, λ p. let l : j < c = (iff j).1 p in omega arith)

    of : (j < 48) × (P j → ⊥) → Memᴰ j (up_from c (48 - c))
    of t = by_dec (dec_lt j c) (λ p. absurd (t.1 ((iff j).0 p))) (λ q. up_from_is c (48 - c) j (omega arith) (omega arith))

-- what a cut of the history holds
module _ (h : History) (d : ℕ) where
  cut_held : (e : ℕ) → (is_held (cut h d e) ≡ true) ↔ (0 < e)
  cut_held zero = (λ p. absurd (false≢true p), λ l. absurd (omega arith))
  cut_held (suc k) = (λ p. omega arith, λ l. refl)

  cut_start : (e : ℕ) → is_held (cut h d e) ≡ true → start_of (cut h d e) ≡ h.start d
  cut_start zero p = absurd (false≢true p)
  cut_start (suc k) p = refl

  cut_value : (e j : ℕ) → j < count (cut h d e) → half_at (cut h d e) j ≡ h.half d j
  cut_value zero j l = absurd (omega arith)
  cut_value (suc k) j l = table_at k (h.half d) j no_half (omega (arith, length_table k (h.half d)))

  cut_whole : (e : ℕ) → count (cut h d e) ≡ 48 → flags_of (cut h d e) ≡ h.flags d
  unfolding flags_held
  cut_whole zero p = absurd (omega arith)
  cut_whole (suc k) p = rw (le-leb 48 k (omega (arith, length_table k (h.half d))))

  cut_part : (e : ℕ) → count (cut h d e) < 48 → flags_of (cut h d e) ≡ 0
  unfolding flags_held
  cut_part zero p = refl
  cut_part (suc k) p = rw (lt-leb 48 k (omega (arith, length_table k (h.half d))))

module _ {L B : Type 0} (D : Desk L B) (W : Laws D) (h : History) where
  -- a block that is taken reaches as its view does
  reach_b_is : (b : B) (d : ℕ) → D.takes b ≡ true → Carries (D.view b) d → reach_b D W h b d ≡ suc (ended_on (D.view b).time d)
  unfolding reach_b
  reach_b_is b d t c = rw t (reach_is (D.view b) d c)

  reach_b_of : (b : B) (d j : ℕ) → j < reach_b D W h b d → (D.takes b ≡ true) × Carries (D.view b) d × (j ≤ ended_on (D.view b).time d)
  unfolding reach_b
  reach_b_of b d j l =
      by_test (D.takes b)
      (λ p. let r = reach_of_lem (D.view b) d j (rw p at l) in (p, r.0, r.1))
      (λ p. let l' = rw p at l in absurd (omega arith))

  -- the furthest reach passes k exactly where some block's does
  reaches_of : (bs : List B) (d k : ℕ) → k < reaches D W h bs d → (b : B) × Memᴰ b bs × (k < reach_b D W h b d)
  reaches_of [] d k l = absurd (omega arith)
  reaches_of (b ∷ bs) d k l =
      by_dec (dec_lt k (reach_b D W h b d))
      (λ p. (b, Memᴰ.head refl, p))
      (λ q. let r = reaches_of bs d k (omega arith) in (r.0, Memᴰ.tail r.1, r.2))

  pub reach_le_reaches : {b : B} {bs : List B} (d : ℕ) → Memᴰ b bs → reach_b D W h b d ≤ reaches D W h bs d
  reach_le_reaches d (Memᴰ.head e) = omega (arith, ap (λ c. reach_b D W h c d) e)
  reach_le_reaches d (Memᴰ.tail m) = omega (arith, reach_le_reaches d m)

  module _ (bs : List B) (d : ℕ) where
    half_told : (j : ℕ) → (suc j < reaches D W h bs d) ↔ HalfTold D h bs d j
    half_told j = (to, of)
      where
        to : suc j < reaches D W h bs d → HalfTold D h bs d j
        to l = let r = reaches_of bs d (suc j) l in let c = reach_b_of r.0 d (suc j) r.2 in (r.0, r.1, c.0, c.1, c.2)

        of : HalfTold D h bs d j → suc j < reaches D W h bs d
        of t = omega (arith, reach_le_reaches d t.1, reach_b_is t.0 d t.2 t.3, t.4)

    day_told : (0 < reaches D W h bs d) ↔ DayTold D h bs d
    day_told = (to, of)
      where
        to : 0 < reaches D W h bs d → DayTold D h bs d
        to l = let r = reaches_of bs d 0 l in let c = reach_b_of r.0 d 0 r.2 in (r.0, r.1, c.0, c.1)

        of : DayTold D h bs d → 0 < reaches D W h bs d
        of t = omega (arith, reach_le_reaches d t.1, reach_b_is t.0 d t.2 t.3)

    told_cut : Told D h bs d (cut h d (reaches D W h bs d))
    unfolding missing
    told_cut = record {
      day = (λ p. day_told.0 ((cut_held h d (reaches D W h bs d)).0 p), λ t. (cut_held h d (reaches D W h bs d)).1 (day_told.1 t));
      half = half;
      start = cut_start h d (reaches D W h bs d);
      value = cut_value h d (reaches D W h bs d);
      room = omega (arith, count_cut h d (reaches D W h bs d), reaches_le D W h bs d);
      whole = cut_whole h d (reaches D W h bs d);
      part = cut_part h d (reaches D W h bs d);
      lack = lack_iff _ (omega (arith, count_cut h d (reaches D W h bs d), reaches_le D W h bs d)) (HalfTold D h bs d) half;
    }
      where
        half : (j : ℕ) → (j < count (cut h d (reaches D W h bs d))) ↔ HalfTold D h bs d j
        half j = (
          λ l. (half_told j).0 (omega (arith, count_cut h d (reaches D W h bs d))),
          λ t. omega (arith, count_cut h d (reaches D W h bs d), (half_told j).1 t),
        )

  pub kept : (bs : List B) → AllHonest D h bs → Kept D h bs
  unfolding cuts
  kept bs hs = record {
    refused = rw (run_fresh D W h bs hs);
    day = λ i l. rw (run_fresh D W h bs hs, slot_cuts D W h (reaches D W h bs) (fit_blocks D W h bs hs) i l) (told_cut bs (D.first + i));
    newly = rw (run_fresh D W h bs hs, held_cuts D W h (reaches D W h bs) (fit_blocks D W h bs hs));
  }
