-- The ledger in bytes keeps the laws of a desk, so whatever honest blocks are delivered, it holds exactly what they told.
-- Assumes nothing.
use mathlib.Core.Path.{◌≡◌, refl, sym, ap, ◌∙◌}
use mathlib.Core.Logic.{◌↔◌}
use mathlib.Core.Bool.{true, false, not, cond}
use mathlib.Core.List.{List, Memᴰ}
use Prim.Native.Nat.{ℕ, ◌<◌, ◌+◌, ◌-◌}
use native.Mathlib.Omega.{arith}
use lib.Dec.{ltb, eqb}
use lib.ListN.{get_or}
use borrow.Author.Tests.{ltb-true, eqb-true}
use Rattle.laws.specs.Tests.{sum_below}
use Rattle.laws.proofs.Split.{by_test}
use Rattle.laws.proofs.Bools.{both}
use Rattle.laws.proofs.Table.{table_same}
use Rattle.laws.proofs.Tests.{all_of, all_same, sum_same}
use Rattle.days.specs.Day.{History, Day, count}
use Rattle.days.specs.Agree.{same_day}
use Rattle.days.specs.View.{offer}
use Rattle.days.specs.Desk.{Fitting, joined, held_in, Laws, run, fresh}
use Rattle.days.specs.Told.{AllHonest, Kept}
use Rattle.days.proofs.Held.{kept}
use Rattle.days.proofs.Order.{same_ledger}
use Rattle.ledger.specs.Layout.{head_size, length_of, first_of, days_of}
use Rattle.ledger.specs.Rooms.{slot, pack_byte, pack}
use Rattle.ledger.specs.Judged.{count_ok, head_ok, judged}
use Rattle.ledger.proofs.Packed.{fit_of, slot_packed, pack_same, head_packed, first_packed, days_packed}
use Rattle.ledger.proofs.Good.{pack_good}
use Rattle.rooms.specs.View.{view_of}
use Rattle.filing.specs.File.{compared_from, compared_length, ident_at, same_meter, agree_at, agrees, read_of, file_answer, refusal, day_after, ledger_after, held_of, newly_held, file_of}
use Rattle.filing.proofs.Filing.{file_answer_holds}
use Rattle.filing.proofs.Offered.{offer_fits}
use Rattle.kept.specs.Desk.{taken_by, filed_as, desk}

-- only the head of hd is packed
pack_head : (hd hc : List ℕ) (n : ℕ) (f : ℕ → Day) → ((p : ℕ) → p < head_size → get_or hd p 0 ≡ get_or hc p 0) → pack hd n f ≡ pack hc n f
unfolding pack pack_byte
pack_head hd hc n f e =
    table_same (length_of n) (pack_byte hd f) (pack_byte hc f)
    (λ p l. by_test (ltb p head_size) (λ t. rw t (e p (ltb-true p head_size t))) (λ t. rw t))

module _ (hd : List ℕ) (c : count_ok (days_of hd) ≡ true) (k : head_ok hd ≡ true) (f : ℕ → Day) (b : List ℕ) (ft : Fitting (desk hd) f) where
  abbrev packed : List ℕ
  packed = pack hd (days_of hd) f

  good : judged packed ≡ 0
  good = pack_good hd f c k (λ i l. fit_of (f i) (ft i l))

  meter : same_meter packed b ≡ same_meter hd b
  unfolding same_meter ident_at
  meter = all_same (ident_at packed b) (ident_at hd b) compared_length (λ q h. ap (λ (x : ℕ). eqb x (get_or b (5 + (compared_from + q)) 0)) (head_packed hd (days_of hd) f (compared_from + q) (omega arith)))

  slot_is : (i : ℕ) → i < days_of hd → slot packed i ≡ f i
  slot_is i l = slot_packed hd (days_of hd) f i l (fit_of (f i) (ft i l))

  answer_is : file_answer packed b ≡ cond (not (eqb (read_of b).number 0)) (read_of b).number (cond (not (same_meter hd b)) 11 (cond (not (agrees packed b)) 12 0))
  answer_is = file_answer_holds packed b 0 (sym good) refl ∙ rw meter

  bad : taken_by hd b ≡ false → filed_as (file_of packed b) ≡ record { ledger = packed; refused = 1; newly = 0 }
  unfolding taken_by filed_as file_of refusal
  bad t =
      by_test (eqb (read_of b).number 0)
      (λ u. let a : file_answer packed b ≡ 11 = answer_is ∙ rw (u, rw u at t) in rw a)
      (λ u. let a : file_answer packed b ≡ (read_of b).number = answer_is ∙ rw u in rw (a, u, u))

  after_is : (i : ℕ) → i < days_of hd → day_after packed b i ≡ joined (desk hd) f b i
  unfolding day_after
  after_is i l = rw (slot_is i l, first_packed hd (days_of hd) f)

  agreed : ((i : ℕ) → i < days_of hd → same_day (f i) (offer (view_of b) (first_of hd + i)) ≡ true) → agrees packed b ≡ true
  unfolding agrees agree_at
  agreed e = rw (days_packed hd (days_of hd) f) (all_of (agree_at packed b) (days_of hd) (λ i l. rw (slot_is i l, first_packed hd (days_of hd) f) (e i l)))

  fine : taken_by hd b ≡ true → ((i : ℕ) → i < days_of hd → same_day (f i) (offer (view_of b) (first_of hd + i)) ≡ true)
      → filed_as (file_of packed b) ≡ record { ledger = pack hd (days_of hd) (joined (desk hd) f b); refused = 0; newly = held_in (desk hd) (joined (desk hd) f b) - held_in (desk hd) f }
  unfolding taken_by filed_as file_of ledger_after newly_held held_of held_in
  fine t e =
      let u = both (eqb (read_of b).number 0) (same_meter hd b) t in
      let a : file_answer packed b ≡ 0 = answer_is ∙ rw (u.0, u.1, agreed e) in
      rw (a, days_packed hd (days_of hd) f)
      λ j. record {
        ledger = (pack_head packed hd (days_of hd) (day_after packed b) (head_packed hd (days_of hd) f)
            ∙ pack_same hd (days_of hd) (day_after packed b) (joined (desk hd) f b) after_is) j;
        refused = 0;
        newly = less j;
      }
    where
      less : sum_below (λ i. count (day_after packed b i)) (days_of hd) - sum_below (λ i. count (slot packed i)) (days_of hd)
          ≡ sum_below (λ i. count (joined (desk hd) f b i)) (days_of hd) - sum_below (λ i. count (f i)) (days_of hd)
      less = omega (
        arith,
        sum_same (λ i. count (day_after packed b i)) (λ i. count (joined (desk hd) f b i)) (days_of hd) (λ i l. ap count (after_is i l)),
        sum_same (λ i. count (slot packed i)) (λ i. count (f i)) (days_of hd) (λ i l. ap count (slot_is i l)),
      )

module _ (hd : List ℕ) (c : count_ok (days_of hd) ≡ true) (k : head_ok hd ≡ true) where
  pub laws : Laws (desk hd)
  unfolding taken_by
  laws = record {
    slot_pack = λ f ft i l. slot_packed hd (days_of hd) f i l (fit_of (f i) (ft i l));
    pack_same = pack_same hd (days_of hd);
    absent_fits = refl;
    offer_fits = λ b t d. offer_fits b (eqb-true (read_of b).number 0 (both (eqb (read_of b).number 0) (same_meter hd b) t).0) d;
    file_bad = λ f b ft t. bad hd c k f b ft t;
    file_good = λ f b ft t e. fine hd c k f b ft t e;
  }

  -- DEMAND 3 of the bytes that `file` leaves: the only hypothesis is that the blocks are honest
  pub ledger_kept : (h : History) (bs : List (List ℕ)) → AllHonest (desk hd) h bs → Kept (desk hd) h bs
  ledger_kept h bs hs = kept (desk hd) laws h bs hs

  -- the same blocks in whatever order, however often each, leave the same bytes
  pub bytes_same : (h : History) (bs cs : List (List ℕ)) → AllHonest (desk hd) h bs → ((b : List ℕ) → Memᴰ b bs ↔ Memᴰ b cs)
      → (run (desk hd) (fresh (desk hd)) bs).ledger ≡ (run (desk hd) (fresh (desk hd)) cs).ledger
  bytes_same h bs cs hs same = same_ledger (desk hd) laws h bs cs hs same
