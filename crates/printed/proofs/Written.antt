-- What each return and each turn says of an output.
-- Assumes nothing.
use mathlib.Core.Path.{◌≡◌, refl, sym, ap, ◌∙◌}
use mathlib.Core.Bool.{cond}
use mathlib.Core.List.{List, [], ◌∷◌, ◌++◌, append_assoc, append-nil}
use Prim.Native.Nat.{ℕ, zero, suc, ◌<◌, ◌≤◌, ◌+◌, ◌*◌, ◌/◌, ◌%◌, min}
use native.Mathlib.Omega.{arith}
use native.Mathlib.Decide.{dec_lt}
use native.Mathlib.Numerals.{add-one}
use lib.Dec.{ltb}
use lib.ListN.{length, take, get_or, length-append, get_or-append}
use lib.Seq.{sets, length-sets, get_or-append-add}
use borrow.Author.Tests.{le-leb}
use Rattle.std.specs.Fmt.{◌++?◌}
use Rattle.std.specs.Prelude.{Option, Some, None, Result, IfSome, OnOk}
use Rattle.std.specs.Io.KnownBytes.{Appends}
use Rattle.std.proofs.lemmas.List.{nil_from_length}
use Rattle.std.proofs.lemmas.Result.{on_ok_weaker}
use Rattle.std.proofs.KnownBytes.{Appends-nil, Appends-trans}
use Rattle.laws.specs.Table.{table}
use Rattle.laws.proofs.Table.{length_table, table_same, table_add}
use Rattle.laws.proofs.Split.{by_test, by_dec}
use Rattle.laws.proofs.Rows.{part_sets}
use Rattle.block.specs.Parse.{Parsed, fields, refused, parse}
use Rattle.reader.proofs.Answers.{parsed_is}
use Rattle.script.specs.Hex.{letter_at, Hexed, hexing, hexed}
use Rattle.lines.specs.Listing.{space, newline, most_listed, refusal, text_of, longest_input, listing_of, shown, shown_length}
use Rattle.lines.proofs.Laws.{text_length, refusal_length, listed_long, listed_short}
use Rattle.printed.specs.Lines.{then_text, hex_text, hex_line}

-- the room of a text, which the longest listing fills; and how many bytes' digits fill it
abbrev text_room : ℕ
text_room = 30 + 32 * most_listed

abbrev part_room : ℕ
part_room = text_room / 2

-- ---- numbers

module _ {T : Type 0} (f : T → Option (List ℕ)) where
  abbrev behind : T → Option (List ℕ)
  behind x = Some (space ∷ []) ++? f x

  joined : (a b c : Option (List ℕ)) → (a ++? b) ++? c ≡ a ++? (b ++? c)
  joined None b c = refl
  joined (Some x) None c = refl
  joined (Some x) (Some y) None = refl
  joined (Some x) (Some y) (Some z) = ap (λ (t : List ℕ). Some t) (append_assoc x y z)

  nothing : (a : Option (List ℕ)) → Some [] ++? a ≡ a
  nothing None = refl
  nothing (Some x) = refl

  and_nothing : (a : Option (List ℕ)) → a ++? Some [] ≡ a
  and_nothing None = refl
  and_nothing (Some x) = ap (λ (t : List ℕ). Some t) (append-nil x)

  then_next : (xs : List T) (i : ℕ) (z : T) → i < length xs → then_text f (take (suc i) xs) ≡ then_text f (take i xs) ++? behind (get_or xs i z)
  then_next [] i z h = absurd (omega arith)
  then_next (x ∷ xs) zero z h = and_nothing (behind x) ∙ sym (nothing (behind x))
  then_next (x ∷ xs) (suc i) z h = ap (λ (t : Option (List ℕ)). behind x ++? t) (then_next xs i z (omega arith)) ∙ sym (joined (behind x) (then_text f (take i xs)) (behind (get_or xs i z)))

  pub then_more : (xs : List T) (i : ℕ) (z : T) → i < length xs → then_text f (take (i + 1) xs) ≡ then_text f (take i xs) ++? behind (get_or xs i z)
  then_more xs i z h = rw add-one (then_next xs i z h)

  pub then_both : (a b : Option (List ℕ)) (p q r : Option (List ℕ)) → IfSome a (Appends p q) → IfSome b (Appends q r) → IfSome (a ++? b) (Appends p r)
  then_both None b p q r h k = tt
  then_both (Some x) None p q r h k = tt
  then_both (Some x) (Some y) p q r h k = Appends-trans p q r x y h k

-- ---- bytes

letter_first : (a b : List ℕ) (q : ℕ) → q < 2 * length a → letter_at a q ≡ letter_at (a ++ b) q
unfolding letter_at
letter_first a b q h = rw (get_or-append a b 0 (q / 2) (omega arith))

letter_then : (a b : List ℕ) (q : ℕ) → letter_at b q ≡ letter_at (a ++ b) (2 * length a + q)
unfolding letter_at
letter_then a b q =
    let odd : (2 * length a + q) % 2 ≡ q % 2 = omega arith in
    let half : (2 * length a + q) / 2 ≡ length a + q / 2 = omega arith in
    rw (odd, half, get_or-append-add a b (q / 2) 0)

-- the digits of bytes and of more bytes are those of both
hex_both : (a b : List ℕ) → hex_text a ++ hex_text b ≡ hex_text (a ++ b)
unfolding hex_text
hex_both a b =
    let n : 2 * length (a ++ b) ≡ 2 * length a + 2 * length b = omega (arith, length-append a b) in
    let first = table_same (2 * length a) (letter_at a) (letter_at (a ++ b)) (λ q h. letter_first a b q h) in
    let then = table_same (2 * length b) (letter_at b) (λ q. letter_at (a ++ b) (2 * length a + q)) (λ q h. letter_then a b q) in
    rw (first, then, n) (table_add (2 * length a) (2 * length b) (letter_at (a ++ b)))

-- what is given of a part that has room is its digits
hex_given : (part l m : List ℕ) (n : ℕ) → 2 * length part ≤ length l → hexing m n ≡ hexed part l → (take n m ≡ hex_text part) × (length m ≡ length l)
unfolding hexed hex_text
hex_given part l m n h e =
    let digits = table (2 * length part) (letter_at part) in
    let long : length digits ≡ 2 * length part = length_table (2 * length part) (letter_at part) in
    let f : hexing m n ≡ hexing (sets l 0 digits) (2 * length part) = rw (le-leb (2 * length part) (length l) h) at e in
    let em : m ≡ sets l 0 digits = ap (λ (x : Hexed). x.out) f in
    let en : n ≡ length digits = ap (λ (x : Hexed). x.count) f ∙ sym long in
    (rw (em, en) (part_sets l 0 digits (omega (arith, h, long))), ap length em ∙ length-sets l 0 digits)

-- what is left of the bytes is their end, and the output has taken the digits of those before
pub record HexSoFar (bs rest : List ℕ) (size : ℕ) (text : List ℕ) (p q : Option (List ℕ)) : Type 0 where
  pub size_is : size ≡ part_room
  pub long : length text ≡ text_room
  pub done : List ℕ
  pub is : done ++ rest ≡ bs
  pub so_far : Appends p q (hex_text done)

pub hex_none : (bs rest text : List ℕ) (size : ℕ) (p : Option (List ℕ)) → rest ≡ bs → size ≡ part_room → length text ≡ text_room → HexSoFar bs rest size text p p
unfolding hex_text table
hex_none bs rest text size p is e l = record { size_is = e; long = l; done = []; is = is; so_far = Appends-nil p }

pub hex_on : (bs rest more part text m : List ℕ) (size next n : ℕ) (p q r : Option (List ℕ)) → HexSoFar bs rest size text p q → next ≡ size → rest ≡ part ++ more
    → length part ≡ min size (length rest) → hexing m n ≡ hexed part text → Appends q r (take n m) → HexSoFar bs more next m p r
hex_on bs rest more part text m size next n p q r h en er el eh w =
    let g = hex_given part text m n (omega (arith, el, h.size_is, h.long)) eh in
    record {
      size_is = en ∙ h.size_is;
      long = g.1 ∙ h.long;
      done = h.done ++ part;
      is = append_assoc h.done part more ∙ ap (λ (t : List ℕ). h.done ++ t) (sym er) ∙ h.is;
      so_far = rw (hex_both h.done part) at (Appends-trans p q r (hex_text h.done) (hex_text part) h.so_far (rw g.0 at w));
    }

hex_whole : (bs rest text : List ℕ) (size : ℕ) (p q r : Option (List ℕ)) → HexSoFar bs rest size text p q → length rest ≡ 0 → Appends q r (newline ∷ []) → Appends p r (hex_line bs)
unfolding hex_line
hex_whole bs rest text size p q r h e w =
    let d : h.done ≡ bs = sym (append-nil h.done) ∙ ap (λ (t : List ℕ). h.done ++ t) (sym (nil_from_length rest e)) ∙ h.is in
    rw d at (Appends-trans p q r (hex_text h.done) (newline ∷ []) h.so_far w)

pub hex_all : {T E : Type 0} (bs rest text : List ℕ) (size : ℕ) (p q r : Option (List ℕ)) (o : Result T E) → HexSoFar bs rest size text p q → length rest ≡ 0
    → OnOk o (Appends q r (newline ∷ [])) → OnOk o (Appends p r (hex_line bs))
hex_all bs rest text size p q r o h e = on_ok_weaker o (hex_whole bs rest text size p q r h e)

-- ---- a listing

two_digits : (a : ℕ) → cond (ltb a 10) 1 2 ≤ 2
two_digits a = by_test (ltb a 10) (λ t. rw t (omega arith)) (λ t. rw t (omega arith))

refusal_fits : (a : ℕ) → length (refusal a) ≤ text_room
refusal_fits a = let e = refusal_length a (cond (ltb a 10) 1 2) refl in omega (arith, e, two_digits a)

text_fits : (b : List ℕ) (p : Parsed) → parse b ≡ p → length b ≤ longest_input → length (text_of p) ≤ text_room
unfolding text_of
text_fits b (fields n vs) e h = let q = parsed_is b n vs e in rw (text_length n vs) (omega (arith, q.0, h))
text_fits b (refused a c) e h = refusal_fits a

listing_fits : (b : List ℕ) → length (listing_of b) ≤ text_room
listing_fits b =
    by_dec (dec_lt longest_input (length b))
    (λ h. rw (← listed_long b h) (refusal_fits 8))
    (λ h. rw (← listed_short b (omega arith)) (text_fits b (parse b) refl (omega arith)))

-- what is shown of a text that fits is the text
pub listing_shown : (b l m : List ℕ) (n : ℕ) → length l ≡ text_room → m ≡ shown l (listing_of b) → n ≡ shown_length l (listing_of b) → take n m ≡ listing_of b
unfolding shown shown_length
listing_shown b l m n e p q =
    let h : length (listing_of b) ≤ length l = omega (arith, e, listing_fits b) in
    rw (p, q, le-leb (length (listing_of b)) (length l) h) (part_sets l 0 (listing_of b) (omega (arith, h)))
