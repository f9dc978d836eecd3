-- Two ledgers of one meter, opened with whatever PPPs: the same blocks leave the same bytes, but for the PPP that each was opened with.
-- Assumes nothing.
use mathlib.Core.Path.{◌≡◌, refl, sym, ap, ◌∙◌}
use mathlib.Core.Logic.{◌↔◌}
use mathlib.Core.Bool.{Bool, true, cond, ◌&&◌}
use mathlib.Core.List.{List, [], ◌∷◌, Memᴰ}
use Prim.Native.Nat.{ℕ, ◌<◌, ◌≤◌, ◌+◌}
use native.Mathlib.Decide.{dec_lt}
use native.Mathlib.Omega.{arith}
use lib.Dec.{eqb, ltb}
use lib.ListN.{length, get_or}
use borrow.Author.Tests.{ltb-true, lt-ltb}
use Rattle.laws.proofs.Split.{by_test, by_dec}
use Rattle.laws.proofs.Table.{table_at, table_of}
use Rattle.laws.proofs.Tests.{all_same}
use Rattle.format.specs.Identifier.{ident_length, ppp_length, SameMeter, ppp_of, with_ppp}
use Rattle.format.proofs.Naming.{length_ppp, length_with, ppp_set, ppp_stays}
use Rattle.days.specs.Day.{History, Day, cut}
use Rattle.days.specs.View.{reach}
use Rattle.days.specs.Desk.{Desk, Laws}
use Rattle.days.specs.Told.{AllHonest}
use Rattle.days.proofs.Fold.{reach_b, reaches, cuts}
use Rattle.ledger.specs.Layout.{head_size, length_of, first_of, days_of}
use Rattle.ledger.specs.Rooms.{pack_byte, pack}
use Rattle.ledger.specs.Open.{head_byte, head_of, open_ok, open_of}
use Rattle.ledger.proofs.Opening.{head_at, head_ident}
use Rattle.ledger.proofs.Packed.{length_pack, pack_same}
use Rattle.rooms.specs.View.{view_of}
use Rattle.filing.specs.File.{compared_from, compared_length, ident_at, same_meter, read_of}
use Rattle.kept.specs.Desk.{taken_by, desk, file_all}
use Rattle.kept.proofs.Opened.{opened_laws, window, opened_packed, any_order}

packed_head : (hd : List ℕ) (f : ℕ → Day) (p : ℕ) → p < head_size → pack_byte hd f p ≡ get_or hd p 0
unfolding pack_byte
packed_head hd f p h = rw (lt-ltb p head_size h)

module _ (id j : List ℕ) (first days : ℕ) (meter : SameMeter j id) where
  abbrev hd : List ℕ
  hd = head_of id first days

  abbrev hj : List ℕ
  hj = head_of j first days

  -- ---- the heads: the same past PPP

  byte_past : (p : ℕ) → ppp_length ≤ p → head_byte j first days p ≡ head_byte id first days p
  unfolding head_byte
  byte_past p l = by_test (ltb p ident_length) (λ t. rw t (meter p l (ltb-true p ident_length t))) (λ t. rw t)

  head_past : (p : ℕ) → ppp_length ≤ p → p < head_size → get_or hj p 0 ≡ get_or hd p 0
  head_past p l h = head_at j first days p h ∙ byte_past p l ∙ sym (head_at id first days p h)

  packed_past : (f : ℕ → Day) (p : ℕ) → ppp_length ≤ p → pack_byte hd f p ≡ pack_byte hj f p
  unfolding pack_byte
  packed_past f p l = by_test (ltb p head_size) (λ t. rw t (sym (head_past p l (ltb-true p head_size t)))) (λ t. rw t)

  -- so both desks take the same blocks
  taken_same : (b : List ℕ) → taken_by hj b ≡ taken_by hd b
  unfolding taken_by same_meter ident_at
  taken_same b =
      ap (λ (t : Bool). eqb (read_of b).number 0 && t)
      (all_same (ident_at hj b) (ident_at hd b) compared_length
      (λ q h. ap (λ (n : ℕ). eqb n (get_or b (5 + (compared_from + q)) 0)) (head_past (compared_from + q) (omega arith) (omega arith))))

  -- and the ledger of given days under one head is that under the other, but for PPP
  other_head : (n : ℕ) (f : ℕ → Day) → with_ppp (ppp_of j) (pack hd n f) ≡ pack hj n f
  unfolding pack
  other_head n f =
      table_of (with_ppp (ppp_of j) (pack hd n f)) (length_of n) (pack_byte hj f) (length_with (ppp_of j) (pack hd n f) ∙ length_pack hd n f)
      (λ p h. by_dec (dec_lt p ppp_length) (λ l. first_three p l) (λ l. past p h (omega arith)))
    where
      first_three : (p : ℕ) → p < ppp_length → get_or (with_ppp (ppp_of j) (pack hd n f)) p 0 ≡ pack_byte hj f p
      first_three p l =
          ppp_set j (pack hd n f) p (omega (arith, length_pack hd n f)) l
          ∙ sym (head_at j first days p (omega arith) ∙ head_ident j first days p (omega arith))
          ∙ sym (packed_head hj f p (omega arith))

      past : (p : ℕ) → p < length_of n → ppp_length ≤ p → get_or (with_ppp (ppp_of j) (pack hd n f)) p 0 ≡ pack_byte hj f p
      past p h l =
          ppp_stays (ppp_of j) (pack hd n f) p (omega (arith, length_ppp j))
          ∙ table_at (length_of n) (pack_byte hd f) p 0 h
          ∙ packed_past f p l

  -- ---- the blocks

  module _ (ok : open_ok id first days ≡ true) (also : open_ok j first days ≡ true) (h : History) where
    abbrev here : Desk (List ℕ) (List ℕ)
    here = desk hd

    abbrev there : Desk (List ℕ) (List ℕ)
    there = desk hj

    abbrev W : Laws here
    W = opened_laws id first days ok

    abbrev X : Laws there
    X = opened_laws j first days also

    reach_same : (b : List ℕ) (d : ℕ) → reach_b there X h b d ≡ reach_b here W h b d
    unfolding reach_b
    reach_same b d = ap (λ (t : Bool). cond t (reach (view_of b) d) 0) (taken_same b)

    reaches_same : (bs : List (List ℕ)) (d : ℕ) → reaches there X h bs d ≡ reaches here W h bs d
    reaches_same [] d = refl
    reaches_same (b ∷ bs) d = rw (reach_same b d, reaches_same bs d)

    cuts_same : (bs : List (List ℕ)) (i : ℕ) → cuts there X h (reaches there X h bs) i ≡ cuts here W h (reaches here W h bs) i
    unfolding cuts
    cuts_same bs i =
        ap (cut h (first_of hj + i)) (reaches_same bs (first_of hj + i))
        ∙ ap (λ (d : ℕ). cut h (d + i) (reaches here W h bs (d + i))) ((window j first days also).0 ∙ sym (window id first days ok).0)

    pub any_meter : (l m : List ℕ) → length l ≡ length_of days → length m ≡ length_of days → (bs cs : List (List ℕ)) → AllHonest (desk hd) h bs
        → ((b : List ℕ) → Memᴰ b bs ↔ Memᴰ b cs)
        → file_all (open_of m j first days).ledger cs ≡ with_ppp (ppp_of j) (file_all (open_of l id first days).ledger bs)
    any_meter l m hl hm bs cs hs same =
        sym (any_order j first days also m m hm hm h bs cs honest same)
        ∙ opened_packed j first days also m hm h bs honest
        ∙ pack_same hj (days_of hj) (cuts there X h (reaches there X h bs)) f (λ i _. cuts_same bs i)
        ∙ ap (λ (n : ℕ). pack hj n f) ((window j first days also).1 ∙ sym (window id first days ok).1)
        ∙ sym (other_head (days_of hd) f)
        ∙ ap (with_ppp (ppp_of j)) (sym (opened_packed id first days ok l hl h bs hs))
      where
        f : ℕ → Day
        f = cuts here W h (reaches here W h bs)

        honest : AllHonest (desk hj) h bs
        honest b i t = hs b i (sym (taken_same b) ∙ t)
