-- Answers 11 and 12 have exactly the causes that docs/ANSWERS.md names.
-- Assumes nothing.
use Prim.Native.Nat.{ℕ, zero, suc, ◌+◌, ◌<◌, ◌≤◌}
use mathlib.Core.Path.{◌≡◌, refl, sym, ◌∙◌, subst}
use mathlib.Core.Logic.{◌↔◌}
use mathlib.Core.Bool.{Bool, true, false, not, cond, ◌&&◌, false≢true}
use mathlib.Core.List.{List, [], ◌∷◌}
use native.Mathlib.Omega.{arith}
use lib.Dec.{eqb}
use lib.ListN.{length, get_or}
use borrow.Author.Tests.{eqb-true, eq-eqb, leb-true, le-leb}
use Rattle.laws.proofs.Bools.{both, both_of}
use Rattle.laws.proofs.Split.{by_test}
use Rattle.laws.proofs.Tests.{all_at, all_of}
use Rattle.block.specs.Parse.{fields, parse}
use Rattle.days.specs.Day.{Half, Day, absent, held, no_half, whole}
use Rattle.days.specs.Agree.{same_half, agree, same_flags, same_day}
use Rattle.days.specs.View.{offer}
use Rattle.days.proofs.Agree.{same_half_refl, same_half_eq}
use Rattle.ledger.specs.Layout.{first_of, days_of}
use Rattle.ledger.specs.Rooms.{slot}
use Rattle.ledger.specs.Judged.{judged}
use Rattle.rooms.specs.View.{view_of}
use Rattle.filing.specs.File.{same_meter, agree_at, agrees, read_of, file_of}
use Rattle.filing.proofs.Filing.{file_answer_holds}
use Rattle.filing.proofs.Meter.{meter_iff}
use Rattle.filing.proofs.Answers.{answer_is}
use Rattle.assurance.specs.Causes.{Alike, SameIdentifier, AllAlike, Causes}

-- ---- two holdings of one day

agree_at_lem : (xs ys : List Half) → agree xs ys ≡ true → (j : ℕ) → j < length xs → j < length ys → get_or xs j no_half ≡ get_or ys j no_half
agree_at_lem [] ys e j p q = absurd (omega arith)
agree_at_lem (x ∷ xs) [] e j p q = absurd (omega arith)
agree_at_lem (x ∷ xs) (y ∷ ys) e zero p q = same_half_eq x y (both (same_half x y) (agree xs ys) e).0
agree_at_lem (x ∷ xs) (y ∷ ys) e (suc j) p q = agree_at_lem xs ys (both (same_half x y) (agree xs ys) e).1 j (omega arith) (omega arith)

agree_of : (xs ys : List Half) → ((j : ℕ) → j < length xs → j < length ys → get_or xs j no_half ≡ get_or ys j no_half) → agree xs ys ≡ true
agree_of [] ys h = refl
agree_of (x ∷ xs) [] h = refl
agree_of (x ∷ xs) (y ∷ ys) h =
    let e : x ≡ y = h 0 (omega arith) (omega arith) in
    both_of (same_half x y) (agree xs ys) (rw e (same_half_refl y)) (agree_of xs ys (λ j p q. h (suc j) (omega arith) (omega arith)))

flags_of : (xs ys : List Half) (f g : ℕ) → (48 ≤ length xs → 48 ≤ length ys → f ≡ g) → same_flags xs f ys g ≡ true
unfolding same_flags
flags_of xs ys f g h =
    by_test (whole (length xs) && whole (length ys))
    (λ t. let b = both (whole (length xs)) (whole (length ys)) t in rw t (eq-eqb f g (h (leb-true _ _ b.0) (leb-true _ _ b.1))))
    (λ t. rw t)

flags_at : (xs ys : List Half) (f g : ℕ) → same_flags xs f ys g ≡ true → 48 ≤ length xs → 48 ≤ length ys → f ≡ g
unfolding same_flags
flags_at xs ys f g e p q = eqb-true f g (rw (le-leb 48 (length xs) p, le-leb 48 (length ys) q) at e)

alike : (x y : Day) → (same_day x y ≡ true) ↔ Alike x y
alike absent y = (
  λ e. record { start = λ p q. absurd (false≢true p); half = λ j p q. absurd (omega arith); flags = λ p q. absurd (omega arith) },
  λ a. refl,
)
alike (held s xs f) absent = (
  λ e. record { start = λ p q. absurd (false≢true q); half = λ j p q. absurd (omega arith); flags = λ p q. absurd (omega arith) },
  λ a. refl,
)
alike (held s xs f) (held t ys g) = (
  λ e.
      let u = both (eqb s t && agree xs ys) (same_flags xs f ys g) e in
      let v = both (eqb s t) (agree xs ys) u.0 in
      record { start = λ p q. eqb-true s t v.0; half = agree_at_lem xs ys v.1; flags = flags_at xs ys f g u.1 },
  λ a.
      both_of (eqb s t && agree xs ys) (same_flags xs f ys g)
      (both_of (eqb s t) (agree xs ys) (eq-eqb s t (a.start refl refl)) (agree_of xs ys a.half))
      (flags_of xs ys f g a.flags),
)

-- ---- the answer

record Picks (P Q : Type 0) (n : ℕ) : Type 0 where
  eleven : (n ≡ 11) ↔ (P → ⊥)
  twelve : (n ≡ 12) ↔ (P × (Q → ⊥))
  none : (n ≡ 0) ↔ (P × Q)

picks : (P Q : Type 0) (a b : Bool) → (a ≡ true) ↔ P → (b ≡ true) ↔ Q → Picks P Q (cond (not a) 11 (cond (not b) 12 0))
picks P Q true true p q = record {
  eleven = (λ e. absurd (omega arith), λ n. absurd (n (p.0 refl)));
  twelve = (λ e. absurd (omega arith), λ n. absurd (n.1 (q.0 refl)));
  none = (λ e. (p.0 refl, q.0 refl), λ n. refl);
}
picks P Q true false p q = record {
  eleven = (λ e. absurd (omega arith), λ n. absurd (n (p.0 refl)));
  twelve = (λ e. (p.0 refl, λ y. false≢true (q.1 y)), λ n. refl);
  none = (λ e. absurd (omega arith), λ n. absurd (false≢true (q.1 n.1)));
}
picks P Q false b p q = record {
  eleven = (λ e. λ y. false≢true (p.1 y), λ n. refl);
  twelve = (λ e. absurd (omega arith), λ n. absurd (false≢true (p.1 n.0)));
  none = (λ e. absurd (omega arith), λ n. absurd (false≢true (p.1 n.0)));
}

module _ (l b : List ℕ) where
  days_are : (agrees l b ≡ true) ↔ AllAlike l b
  unfolding agrees agree_at
  days_are = (
    λ e i h. (alike (slot l i) (offer (view_of b) (first_of l + i))).0 (all_at (agree_at l b) (days_of l) e i h),
    λ a. all_of (agree_at l b) (days_of l) (λ i h. (alike (slot l i) (offer (view_of b) (first_of l + i))).1 (a i h)),
  )

  pub causes : (n : ℕ) (vs : List ℕ) → judged l ≡ 0 → parse b ≡ fields n vs → Causes l b
  unfolding read_of
  causes n vs good read =
      let e : (file_of l b).answer.number ≡ cond (not (same_meter l b)) 11 (cond (not (agrees l b)) 12 0) = answer_is l b ∙ file_answer_holds l b 0 (sym good) refl ∙ rw read in
      let c = subst (Picks (SameIdentifier l b) (AllAlike l b)) (sym e) (picks (SameIdentifier l b) (AllAlike l b) (same_meter l b) (agrees l b) (meter_iff l b) days_are) in
      record { other = c.eleven; differs = c.twelve; filed = c.none }
