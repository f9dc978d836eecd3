-- What demand 3 says of the life, beside what is computed of it.
-- Assumes nothing.
use Prim.Native.Nat.{ℕ, ◌+◌, ◌/◌, ◌<◌, ◌≤◌}
use mathlib.Core.Path.{◌≡◌, refl, sym, ap, ◌∙◌, subst}
use mathlib.Core.Logic.{◌↔◌, ⊎_elim}
use mathlib.Core.Bool.{true}
use mathlib.Core.List.Memᴰ
use mathlib.Core.List.{List, [], ◌∷◌, Memᴰ}
use native.Mathlib.Decide.{dec_lt}
use native.Mathlib.Omega.{arith}
use lib.ListN.{length, get_or}
use Rattle.laws.specs.Tests.{sum_below}
use Rattle.laws.proofs.Bools.{iff_trans}
use Rattle.laws.proofs.Lists.{member_at, length_map}
use Rattle.laws.proofs.Split.{by_dec}
use Rattle.laws.proofs.Tests.{same_count}
use Rattle.quantity.specs.Units.{watt_hours}
use Rattle.calendar.specs.Clock.{ended_on}
use Rattle.calendar.proofs.Times.{ended_formula}
use Rattle.days.specs.Day.{Half, History, is_held, half_at, count}
use Rattle.days.specs.View.{Carries}
use Rattle.days.specs.Energy.{Unbroken}
use Rattle.ledger.specs.Asked.{missing_of}
use Rattle.rooms.specs.View.{view_of}
use Rattle.registers.specs.Energy.{added_of}
use Rattle.recorder.specs.Answer.{event_answer, wrong_power}
use Rattle.recorder.specs.SetUp.{set_up}
use Rattle.assurance.specs.Run.{blocks_in}
use Rattle.assurance.specs.Paper.{total_at, flags_of, history_of}
use Rattle.assurance.specs.Written.{add_after, add_at, mark_at, mark_from, units_with, due, written, blank_tape, written_all}
use Rattle.assurance.specs.Meaning.{counted_before}
use Rattle.assurance.specs.Delivered.{Drawn, Holds, DayHeld, HalfTold, held_on, past, counted}
use Rattle.assurance.proofs.Demands.{demand_3}
use Rattle.example.specs.Example.{identifier, meter, lent, calls, block, late, ledger, held, IsDay, Worked}
use Rattle.example.proofs.Computed as computed

-- ---- the blocks delivered are the run's

three : length (blocks_in (set_up meter lent).after calls) ≡ 3
three = sym (length_map length (blocks_in (set_up meter lent).after calls)) ∙ ap length computed.bytes

-- one of the two
either : (P : List ℕ → Type 0) (b : List ℕ) → Memᴰ b late → P (block 2) → P (block 0) → P b
either P b i u v =
    ⊎_elim (λ e. subst P (sym e) u)
    (λ j. ⊎_elim (λ e. subst P (sym e) v) (λ k. absurd (Memᴰ.not-nil k)) (Memᴰ.cases_cons j))
    (Memᴰ.cases_cons i)

drawn : Drawn meter lent calls late
drawn b i =
    let sent = blocks_in (set_up meter lent).after calls in
    either (λ c. Memᴰ c sent) b i (member_at sent 2 [] (omega (arith, three))) (member_at sent 0 [] (omega (arith, three)))

pub holds : Holds meter lent calls ledger identifier 0 3 late
holds = demand_3 meter lent calls ledger identifier 0 3 late computed.begins (λ q past h. refl) computed.well drawn

-- ---- what they tell: of the three days what had ended at 00:10 on the third

time_2 : (view_of (block 2)).time ≡ 173400
time_2 = ap (λ (l : List ℕ). get_or l 0 0) computed.third_read

days_2 : (view_of (block 2)).days ≡ 3
days_2 = ap (λ (l : List ℕ). get_or l 1 0) computed.third_read

time_0 : (view_of (block 0)).time ≡ 4200
time_0 = ap (λ (l : List ℕ). get_or l 0 0) computed.first_read

carries_2 : (d : ℕ) → d ≤ 2 → Carries (view_of (block 2)) d
carries_2 d l = rw (time_2, days_2) (omega arith, omega arith)

earlier : (d : ℕ) → ended_on 4200 d ≤ ended_on 173400 d
earlier d = omega (arith, ended_formula 4200 d, ended_formula 173400 d)

told_is : (d : ℕ) → d ≤ 2 → (j : ℕ) → HalfTold meter lent calls ledger identifier 0 3 late d j ↔ (j < ended_on 173400 d)
told_is d l j = (
  λ t. either (λ b. j < ended_on (view_of b).time d → j < ended_on 173400 d) t.0 t.1
      (λ m. rw time_2 at m)
      (λ m. let n : j < ended_on 4200 d = rw time_0 at m in omega (arith, earlier d))
      t.3,
  λ m. (block 2, Memᴰ.head refl, carries_2 d l, rw time_2 m),
)

-- ---- the days

module _ (d k : ℕ) (l : d ≤ 2) (e : ended_on 173400 d ≡ k) (z : 0 + d ≡ d) where
  day : DayHeld meter lent calls ledger identifier 0 3 late d (held_on held d) (missing_of held d)
  day = rw z at (holds.day d (omega arith))

  half_hours : count (held_on held d) ≡ k
  half_hours = same_count (count (held_on held d)) k (λ j. rw e at (iff_trans (day.half j) (told_is d l j)))

  is_held_holds : is_held (held_on held d) ≡ true
  is_held_holds = day.day.1 (block 2, Memᴰ.head refl, carries_2 d l)

-- ---- the history, computed from the paper

abbrev h : History
h = past meter lent calls

opens_paper : Unit {0}
unfolding history_of total_at flags_of add_after add_at mark_at mark_from units_with due written blank_tape written_all added_of event_answer wrong_power counted_before ended_on
opens_paper = tt

starts : h.start 0 ∷ h.start 1 ∷ h.start 2 ∷ [] ≡ 0 ∷ 120 ∷ 120 ∷ []
unfolding opens_paper
starts = refl

flags : h.flags 0 ∷ h.flags 1 ∷ [] ≡ 128 ∷ 128 ∷ []
unfolding opens_paper
flags = refl

values : (h.half 0 0).value ∷ (h.half 0 1).value ∷ (h.half 0 2).value ∷ (h.half 0 47).value ∷ (h.half 1 0).value ∷ [] ≡ 50 ∷ 50 ∷ 120 ∷ 120 ∷ 120 ∷ []
unfolding opens_paper
values = refl

energy : counted meter lent calls 0 96 ≡ (watt_hours 1200).0
unfolding opens_paper
energy = refl

ended : ended_on 173400 0 ∷ ended_on 173400 1 ∷ ended_on 173400 2 ∷ [] ≡ 48 ∷ 48 ∷ 0 ∷ []
unfolding opens_paper
ended = refl

-- ---- all of it

-- the i-th number of a list that is known
nth : (a b : List ℕ) → a ≡ b → (i : ℕ) → get_or a i 0 ≡ get_or b i 0
nth a b e i = ap (λ (l : List ℕ). get_or l i 0) e

whole : (d start : ℕ) (l : d ≤ 2) → ended_on 173400 d ≡ 48 → 0 + d ≡ d → h.start d ≡ start → h.flags d ≡ 128 → IsDay d 48 start 128
whole d start l e z a f =
    let k = half_hours d 48 l e z in
    record { half_hours = k; begins = (day d 48 l e z).start (is_held_holds d 48 l e z) ∙ a; flagged = (day d 48 l e z).flags k ∙ f }

none : ended_on 173400 2 ≡ 0
none = nth _ _ ended 2

value_is : (d j v : ℕ) (l : d ≤ 2) → ended_on 173400 d ≡ 48 → 0 + d ≡ d → j < 48 → (h.half d j).value ≡ v → (half_at (held_on held d) j).value ≡ v
value_is d j v l e z m a = ap (λ (y : Half). y.value) ((day d 48 l e z).value j (rw (half_hours d 48 l e z) m)) ∙ a

-- of the third day all is missing
missing_2 : missing_of held 2 ≡ record { answer = 0; first = 0; count = 48 }
missing_2 =
    let t = day 2 0 (omega arith) none refl in
    let m = missing_of held 2 in
    let untold : (j : ℕ) → HalfTold meter lent calls ledger identifier 0 3 late 2 j → ⊥ = λ j q. let no : j < 0 = rw none at ((told_is 2 (omega arith) j).0 q) in omega arith in
    let low : (m.first ≤ 0) × (0 < m.first + m.count) = (t.lack 0).1 (omega arith, untold 0) in
    let high : (m.first ≤ 47) × (47 < m.first + m.count) = (t.lack 47).1 (omega arith, untold 47) in
    let first : m.first ≡ 0 = omega arith in
    let many : m.count ≡ 48 = by_dec (dec_lt 48 (m.first + m.count)) (λ q. absurd (omega (arith, ((t.lack 48).0 (omega arith, q)).0))) (λ q. omega arith) in
    λ i. record { answer = t.missing i; first = first i; count = many i }

unbroken : Unbroken (held_on held) 0 96
unbroken p lo hi =
    by_dec (dec_lt p 48)
    (λ q. let z : p / 48 ≡ 0 = omega arith in rw (z, half_hours 0 48 (omega arith) (nth _ _ ended 0) refl) (omega arith))
    (λ q. let o : p / 48 ≡ 1 = omega arith in rw (o, half_hours 1 48 (omega arith) (nth _ _ ended 1) refl) (omega arith))

all_held : sum_below (λ i. count (held_on held (0 + i))) 3 ≡ 96
unfolding sum_below
all_held =
    rw (
      half_hours 0 48 (omega arith) (nth _ _ ended 0) refl,
      half_hours 1 48 (omega arith) (nth _ _ ended 1) refl,
      half_hours 2 0 (omega arith) none refl,
    )

pub worked : Worked
worked = record {
  answers = computed.answers;
  bytes = computed.bytes;
  outage = computed.outage;
  in_order = computed.in_order;
  swapped = computed.swapped;
  newly = holds.newly ∙ all_held;
  first = whole 0 0 (omega arith) (nth _ _ ended 0) refl (nth _ _ starts 0) (nth _ _ flags 0);
  second = whole 1 120 (omega arith) (nth _ _ ended 1) refl (nth _ _ starts 1) (nth _ _ flags 1);
  third =
      let t = day 2 0 (omega arith) none refl in
      let k = half_hours 2 0 (omega arith) none refl in
      record { half_hours = k; begins = t.start (is_held_holds 2 0 (omega arith) none refl) ∙ nth _ _ starts 2; flagged = t.part (omega arith) };
  values = λ i.
      value_is 0 0 50 (omega arith) (nth _ _ ended 0) refl (omega arith) (nth _ _ values 0) i
      ∷ value_is 0 1 50 (omega arith) (nth _ _ ended 0) refl (omega arith) (nth _ _ values 1) i
      ∷ value_is 0 2 120 (omega arith) (nth _ _ ended 0) refl (omega arith) (nth _ _ values 2) i
      ∷ value_is 0 47 120 (omega arith) (nth _ _ ended 0) refl (omega arith) (nth _ _ values 3) i
      ∷ value_is 1 0 120 (omega arith) (nth _ _ ended 1) refl (omega arith) (nth _ _ values 4) i ∷ [];
  missing = missing_2;
  energy = energy;
  advanced = let e = holds.energy 0 96 unbroken in omega (arith, energy, e.0, e.1);
}
