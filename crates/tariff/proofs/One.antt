-- The entry that rules a day and the switching time in force are members of the table, are chosen as `Rules` and `InForce` say, and are the only ones.
-- Assumes nothing.
use Prim.Native.Nat.{ℕ, suc, ◌+◌, ◌/◌, ◌<◌, ◌≤◌}
use mathlib.Core.Path.{◌≡◌, refl, sym, ap, ◌∙◌}
use mathlib.Core.Bool.{Bool, true, false, not, ◌&&◌, ◌||◌, false≢true}
use mathlib.Core.Logic.{⊎_elim}
use mathlib.Core.List.Memᴰ
use mathlib.Core.List.{List, [], ◌∷◌, Memᴰ}
use native.Mathlib.Omega.{arith}
use lib.Dec.{eqb, ltb, leb}
use borrow.Author.Tests.{eqb-true, le-leb}
use Rattle.calendar.specs.Clock.{seconds_of_day}
use Rattle.registers.specs.Energy.{rate_count}
use Rattle.laws.proofs.Bools.{and_left, both, both_of, or_split, or_some}
use Rattle.laws.proofs.Split.{by_test}
use Rattle.tariff.specs.declared.Today.{Today}
use Rattle.tariff.specs.Table.{Entry, is_time, is_exception, is_default, minute_of, any_of, all_of, count_of, default, most_times, most_exceptions}
use Rattle.tariff.specs.Judge.{entry_ok, uses, opens, served, clash_in, sound}
use Rattle.tariff.specs.Rate.{today_of, minute_at, dated, of_week, covers, higher, ruled, applies, mark_of, later, latest, rate_in}
use Rattle.tariff.specs.Saved.{Rules, InForce, Says}
use Rattle.tariff.proofs.Lists.{Found, any_of_lem, all_in}
use Rattle.tariff.proofs.Clashing.{clash_free, cover_clash, times_clash}

-- ---- the entry that rules

module _ (k : Today) where
  abbrev wins : Entry → Entry → Bool
  wins e best = covers k e && ltb e.kind best.kind

  higher_yes : (e best : Entry) → wins e best ≡ true → higher k e best ≡ e
  unfolding higher
  higher_yes e best h = rw h

  higher_no : (e best : Entry) → wins e best ≡ false → higher k e best ≡ best
  unfolding higher
  higher_no e best h = rw h

  -- no lower than what was best, nor than an entry that covers the day
  higher_keeps : (e best : Entry) → (higher k e best).kind ≤ best.kind
  unfolding higher
  higher_keeps e best = grind arith

  higher_takes : (e best : Entry) → covers k e ≡ true → (higher k e best).kind ≤ e.kind
  unfolding higher
  higher_takes e best c = grind arith

  pub ruled_least : (es : List Entry) (f : Entry) → Memᴰ f es → covers k f ≡ true → (ruled k es).kind ≤ f.kind
  unfolding ruled
  ruled_least [] f m c = absurd (Memᴰ.not-nil m)
  ruled_least (x ∷ xs) f m c =
      ⊎_elim
      (λ q. rw q (higher_takes x (ruled k xs) (rw q at c)))
      (λ n. omega (arith, higher_keeps x (ruled k xs), ruled_least xs f n c))
      (Memᴰ.cases_cons m)

  pub record Ruled (es : List Entry) (e : Entry) : Type 0 where
    pub stands : Memᴰ e es
    pub here : covers k e ≡ true

  pub ruled_in : (es : List Entry) → (ruled k es).kind < suc default → Ruled es (ruled k es)
  unfolding ruled
  ruled_in [] l = absurd (omega arith)
  ruled_in (x ∷ xs) l =
      by_test (wins x (ruled k xs))
      (λ h. record { stands = Memᴰ.head (higher_yes x (ruled k xs) h); here = rw (higher_yes x (ruled k xs) h) (and_left (covers k x) (ltb x.kind (ruled k xs).kind) h) })
      (λ h.
      let same = higher_no x (ruled k xs) h in
      let g = ruled_in xs (rw same at l) in
      record { stands = Memᴰ.cast same (Memᴰ.tail g.stands); here = rw same g.here })

-- ---- the switching time in force

module _ (daytype minute : ℕ) where
  abbrev comes : Entry → Entry → Bool
  comes e best = applies daytype minute e && ltb (mark_of best) (mark_of e)

  later_yes : (e best : Entry) → comes e best ≡ true → later daytype minute e best ≡ e
  unfolding later
  later_yes e best h = rw h

  later_no : (e best : Entry) → comes e best ≡ false → later daytype minute e best ≡ best
  unfolding later
  later_no e best h = rw h

  later_keeps : (e best : Entry) → mark_of best ≤ mark_of (later daytype minute e best)
  unfolding later
  later_keeps e best = grind arith

  later_takes : (e best : Entry) → applies daytype minute e ≡ true → mark_of e ≤ mark_of (later daytype minute e best)
  unfolding later
  later_takes e best c = grind arith

  pub latest_most : (es : List Entry) (f : Entry) → Memᴰ f es → applies daytype minute f ≡ true → mark_of f ≤ mark_of (latest daytype minute es)
  unfolding latest
  latest_most [] f m c = absurd (Memᴰ.not-nil m)
  latest_most (x ∷ xs) f m c =
      ⊎_elim
      (λ q. rw q (later_takes x (latest daytype minute xs) (rw q at c)))
      (λ n. omega (arith, later_keeps x (latest daytype minute xs), latest_most xs f n c))
      (Memᴰ.cases_cons m)

  pub record Latest (es : List Entry) (e : Entry) : Type 0 where
    pub stands : Memᴰ e es
    pub due : applies daytype minute e ≡ true

  pub latest_in : (es : List Entry) → 0 < mark_of (latest daytype minute es) → Latest es (latest daytype minute es)
  unfolding latest
  latest_in [] l = absurd (omega arith)
  latest_in (x ∷ xs) l =
      by_test (comes x (latest daytype minute xs))
      (λ h. record { stands = Memᴰ.head (later_yes x (latest daytype minute xs) h); due = rw (later_yes x (latest daytype minute xs) h) (and_left (applies daytype minute x) (ltb (mark_of (latest daytype minute xs)) (mark_of x)) h) })
      (λ h.
      let same = later_no x (latest daytype minute xs) h in
      let g = latest_in xs (rw same at l) in
      record { stands = Memᴰ.cast same (Memᴰ.tail g.stands); due = rw same g.due })

  -- what an entry in force is
  pub is_switch : (e : Entry) → applies daytype minute e ≡ true → (is_time e ≡ true) × ((e.daytype ≡ daytype) × (minute_of e ≤ minute))
  unfolding applies
  is_switch e h = grind arith

  mark_of_lem : (e : Entry) → is_time e ≡ true → mark_of e ≡ minute_of e + 1
  mark_of_lem e h = rw h

-- ---- ranges of a switching time

pub time_range : (e : Entry) → entry_ok e ≡ true → is_time e ≡ true → (1 ≤ e.z) × (e.z ≤ rate_count)
unfolding entry_ok
time_range e h t = grind arith

-- ---- an accepted table

module _ (es : List Entry) (s : sound es ≡ true) (free : clash_in es ≡ false) (t : ℕ) where
  abbrev k : Today
  k = today_of (t / seconds_of_day)

  abbrev ruler : Entry
  ruler = ruled k es

  abbrev switch : Entry
  switch = latest ruler.daytype (minute_at t) es

  tests : (all_of entry_ok es ≡ true) × ((any_of is_default es ≡ true) × (all_of (served es) es ≡ true))
  unfolding sound
  tests =
      let times = leb (count_of is_time es) most_times in
      let exceptions = leb (count_of is_exception es) most_exceptions in
      let a = both (((all_of entry_ok es && times) && exceptions) && any_of is_default es) (all_of (served es) es) s in
      let b = both ((all_of entry_ok es && times) && exceptions) (any_of is_default es) a.0 in
      let c = both (all_of entry_ok es && times) exceptions b.0 in
      (and_left (all_of entry_ok es) times c.0, (b.1, a.1))

  fallback : Found is_default es
  fallback = any_of_lem is_default es tests.1.0

  ruler_low : ruler.kind < suc default
  unfolding covers
  ruler_low =
      let f = fallback.entry in
      let four : f.kind ≡ default = eqb-true f.kind default fallback.passes in
      omega (arith, ruled_least k es f fallback.stands (or_some (dated k f || of_week k f) (is_default f) fallback.passes))

  ruling : Ruled k es ruler
  ruling = ruled_in k es ruler_low

  pub rules : Rules es t ruler
  rules = record { stands = ruling.stands; here = ruling.here; highest = λ f m c. ruled_least k es f m c }

  uses_ruler : uses ruler ≡ true
  unfolding covers
  uses_ruler = let here = ruling.here in grind arith

  has_midnight : any_of (opens ruler.daytype) es ≡ true
  unfolding served
  has_midnight =
      or_split (not (uses ruler)) (any_of (opens ruler.daytype) es)
      (λ p. absurd (false≢true (rw uses_ruler at p)))
      (λ p. p)
      (all_in (served es) es tests.1.1 ruler ruling.stands)

  midnight : Found (opens ruler.daytype) es
  midnight = any_of_lem (opens ruler.daytype) es has_midnight

  opening : applies ruler.daytype (minute_at t) midnight.entry ≡ true
  unfolding opens applies
  opening =
      let f = midnight.entry in
      let a = both (is_time f && eqb f.daytype ruler.daytype) (eqb (minute_of f) 0) midnight.passes in
      both_of (is_time f && eqb f.daytype ruler.daytype) (leb (minute_of f) (minute_at t)) a.0 (le-leb (minute_of f) (minute_at t) (omega (arith, eqb-true (minute_of f) 0 a.1)))

  switch_some : 0 < mark_of switch
  switch_some =
      let m = mark_of_lem ruler.daytype (minute_at t) midnight.entry (is_switch ruler.daytype (minute_at t) midnight.entry opening).0 in
      omega (arith, m, latest_most ruler.daytype (minute_at t) es midnight.entry midnight.stands opening)

  switching : Latest ruler.daytype (minute_at t) es switch
  switching = latest_in ruler.daytype (minute_at t) es switch_some

  is_time_lem : is_time switch ≡ true
  is_time_lem = (is_switch ruler.daytype (minute_at t) switch switching.due).0

  pub in_force : InForce es t ruler.daytype switch
  in_force = record {
    stands = switching.stands;
    due = switching.due;
    last = λ f m c.
        let mine = mark_of_lem ruler.daytype (minute_at t) switch is_time_lem in
        let yours = mark_of_lem ruler.daytype (minute_at t) f (is_switch ruler.daytype (minute_at t) f c).0 in
        omega (arith, mine, yours, latest_most ruler.daytype (minute_at t) es f m c);
  }

  pub says : Says es t (rate_in es t)
  unfolding rate_in
  says = record { ruler = ruler; rules = rules; switch = switch; force = in_force; rate = refl }

  pub in_range_lem : (1 ≤ rate_in es t) × (rate_in es t ≤ rate_count)
  unfolding rate_in
  in_range_lem = time_range switch (all_in entry_ok es tests.0 switch switching.stands) is_time_lem

  -- ---- and no other

  one_ruler : (e : Entry) → Rules es t e → e ≡ ruler
  one_ruler e r =
      let same : e.kind ≡ ruler.kind = omega (arith, r.highest ruler rules.stands rules.here, rules.highest e r.stands r.here) in
      clash_free es free e ruler r.stands rules.stands (cover_clash k e ruler r.here rules.here same)

  one_switch : (e : Entry) → InForce es t ruler.daytype e → e ≡ switch
  one_switch e f =
      let mine = is_switch ruler.daytype (minute_at t) e f.due in
      let yours = is_switch ruler.daytype (minute_at t) switch switching.due in
      let same : minute_of e ≡ minute_of switch = omega (arith, f.last switch switching.stands switching.due, in_force.last e f.stands f.due) in
      clash_free es free e switch f.stands switching.stands (times_clash e switch mine.0 yours.0 (mine.1.0 ∙ sym yours.1.0) same)

  pub only : (r : ℕ) → Says es t r → r ≡ rate_in es t
  unfolding rate_in
  only r y =
      let same = one_ruler y.ruler y.rules in
      let force : InForce es t ruler.daytype y.switch = rw same at y.force in
      y.rate ∙ ap (λ (e : Entry). e.z) (one_switch y.switch force)
