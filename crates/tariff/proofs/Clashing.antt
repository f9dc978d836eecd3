-- Clashes: the same both ways, none in another order where there is none in one, and none only where each day and each time of a day type has one entry of a rank.
-- Assumes nothing.
use Prim.Native.Nat.{ℕ}
use mathlib.Core.Path.{◌≡◌, refl, sym, ap, ◌∙◌, ap₂}
use mathlib.Core.Bool.{Bool, true, false, ◌&&◌, ◌||◌, false≢true}
use mathlib.Core.Logic.{◌⊎◌, ⊎_elim}
use mathlib.Core.List.Memᴰ
use mathlib.Core.List.{List, [], ◌∷◌, Memᴰ, Permᴰ}
use native.Mathlib.Omega.{arith}
use lib.Dec.{eqb}
use Rattle.tariff.specs.declared.Today.{Today}
use Rattle.tariff.specs.Table.{Entry, is_time, is_default, minute_of, any_of, exception, weekdays, default}
use Rattle.tariff.specs.Judge.{same_time, same_date, same_weekday, clash, clash_in}
use Rattle.tariff.specs.Rate.{dated, of_week, covers}
use Rattle.tariff.proofs.Lists.{or_no, any_in, perm_any}

-- ---- both ways

eqb_sym : (a b : ℕ) → eqb a b ≡ eqb b a
eqb_sym a b = grind arith

turn_and : (p q : Bool) → (p && q) ≡ (q && p)
turn_and p q = grind arith

time_sym : (a b : Entry) → same_time a b ≡ same_time b a
time_sym a b = grind arith

date_sym : (a b : Entry) → same_date a b ≡ same_date b a
date_sym a b = rw (eqb_sym a.y b.y, eqb_sym a.z b.z, eqb_sym a.x b.x) (grind arith)

week_sym : (a b : Entry) → same_weekday a b ≡ same_weekday b a
week_sym a b = grind arith

pub clash_sym : (a b : Entry) → clash a b ≡ clash b a
unfolding clash
clash_sym a b = rw (time_sym a b, date_sym a b, week_sym a b, turn_and (is_default a) (is_default b))

-- ---- any order

shuffle : (c u v s : Bool) → ((c || u) || (v || s)) ≡ ((c || v) || (u || s))
shuffle c u v s = grind arith

swapped : (l : List Entry) (a b a' b' : Entry) → a ≡ b' → b ≡ a' → clash_in (a ∷ b ∷ l) ≡ clash_in (a' ∷ b' ∷ l)
unfolding clash_in any_of
swapped l a b a' b' p q =
    let turned : clash_in (a ∷ b ∷ l) ≡ clash_in (b ∷ a ∷ l) =
    shuffle (clash_in l) (any_of (clash b) l) (any_of (clash a) l) (clash a b)
    ∙ ap (λ (w : Bool). (clash_in l || any_of (clash a) l) || (any_of (clash b) l || w)) (clash_sym a b) in
    turned ∙ ap₂ (λ (x y : Entry). clash_in (x ∷ y ∷ l)) q p

pub perm_clash : {es fs : List Entry} → Permᴰ es fs → clash_in es ≡ clash_in fs
unfolding clash_in any_of
perm_clash Permᴰ.nil = refl
perm_clash (Permᴰ.cons {b = b} p d) = rw (p, perm_clash d, perm_any (clash b) d)
perm_clash (Permᴰ.swap {l = l} p q) = swapped l _ _ _ _ p q
perm_clash (Permᴰ.trans c d) = perm_clash c ∙ perm_clash d

-- ---- where none clash, two that would are one

pub clash_free : (es : List Entry) → clash_in es ≡ false → (a b : Entry) → Memᴰ a es → Memᴰ b es → clash a b ≡ true → a ≡ b
unfolding clash_in
clash_free [] h a b m n c = absurd (Memᴰ.not-nil m)
clash_free (x ∷ xs) h a b m n c =
    let none = or_no (clash_in xs) (any_of (clash x) xs) h in
    ⊎_elim
    (λ p. ⊎_elim
    (λ q. p ∙ sym q)
    (λ o. absurd (false≢true (sym none.1 ∙ any_in (clash x) xs b o (rw p at c))))
    (Memᴰ.cases_cons n))
    (λ o. ⊎_elim
    (λ q. absurd (false≢true (sym none.1 ∙ any_in (clash x) xs a o (rw q at (sym (clash_sym a b) ∙ c)))))
    (λ u. clash_free xs none.0 a b o u c)
    (Memᴰ.cases_cons n))
    (Memᴰ.cases_cons m)

-- ---- what clashes: two times, and two entries of one rank that cover a day

pub times_clash : (a b : Entry) → is_time a ≡ true → is_time b ≡ true → a.daytype ≡ b.daytype → minute_of a ≡ minute_of b → clash a b ≡ true
unfolding clash
times_clash a b p q t m = grind arith

-- the kinds that cover days
pub covers_kind : (k : Today) (e : Entry) → covers k e ≡ true → (e.kind ≡ exception) ⊎ ((e.kind ≡ weekdays) ⊎ (e.kind ≡ default))
unfolding covers
covers_kind k e h = grind arith

covers_date : (k : Today) (e : Entry) → covers k e ≡ true → e.kind ≡ exception → dated k e ≡ true
unfolding covers
covers_date k e h two = grind arith

covers_week : (k : Today) (e : Entry) → covers k e ≡ true → e.kind ≡ weekdays → of_week k e ≡ true
unfolding covers
covers_week k e h three = grind arith

-- ---- two entries of one rank that cover a day

dates_clash : (k : Today) (a b : Entry) → dated k a ≡ true → dated k b ≡ true → same_date a b ≡ true
dates_clash k a b p q = grind arith

weeks_clash : (k : Today) (a b : Entry) → of_week k a ≡ true → of_week k b ≡ true → same_weekday a b ≡ true
weeks_clash k a b p q = grind arith

pub cover_clash : (k : Today) (a b : Entry) → covers k a ≡ true → covers k b ≡ true → a.kind ≡ b.kind → clash a b ≡ true
unfolding clash
cover_clash k a b p q s =
    ⊎_elim
    (λ u. let date = dates_clash k a b (covers_date k a p u) (covers_date k b q (sym s ∙ u)) in rw date (grind arith))
    (⊎_elim
    (λ u. let week = weeks_clash k a b (covers_week k a p u) (covers_week k b q (sym s ∙ u)) in rw week (grind arith))
    (λ u. grind arith))
    (covers_kind k a p)
