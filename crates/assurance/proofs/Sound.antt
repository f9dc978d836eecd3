-- A read of a run's recorder is never refused for what it would send: every field is in range, and each day leads to the next.
-- Assumes nothing.
use Prim.Native.Nat.{ℕ, zero, suc, ◌+◌, ◌-◌, ◌*◌, ◌/◌, ◌%◌, ◌^◌, ◌<◌, ◌≤◌}
use mathlib.Core.Path.{◌≡◌, refl, sym, ◌∙◌}
use mathlib.Core.Bool.{true, not, ◌||◌}
use mathlib.Core.List.{List}
use native.Mathlib.Nat.{mod-lt}
use native.Mathlib.Decide.{ℕ_discrete}
use native.Mathlib.Omega.{arith}
use lib.Dec.{eqb}
use lib.ListN.{length, get_or}
use borrow.Author.Tests.{lt-ltb, le-leb, eq-eqb, ne_eqb}
use Rattle.laws.specs.Tests.{all_true}
use Rattle.laws.proofs.Bits.{packed_few}
use Rattle.laws.proofs.Bools.{both}
use Rattle.laws.proofs.Split.{by_dec}
use Rattle.laws.proofs.Table.{length_table, table_at}
use Rattle.laws.proofs.Tests.{all_true_of, all_of}
use Rattle.quantity.specs.Units.{unit_of, kwh_of_unit, total_round, reading_round, value_round, milliwatt_hours, kilowatt_hours, reading_at, value_at, kwh_of}
use Rattle.calendar.specs.Clock.{ended_at, ended_on}
use Rattle.profile.specs.Profile.{end_reading, values_from}
use Rattle.profile.proofs.Laws.{Readings, reading_before, sum_agree, sum_of_readings}
use Rattle.format.specs.Numbers.{binary, num_at, good_at}
use Rattle.format.specs.Fields.{digits, ok_value, ok_values}
use Rattle.format.specs.Identifier.{ident_ok}
use Rattle.block.specs.declared.Header.{Header}
use Rattle.format.proofs.Numbers.{good_at_lem, num_lt}
use Rattle.block.specs.Layout.{most_days, is_identifier, identifier, low_five_clear, total_fields, rate_fields}
use Rattle.block.specs.Header.{totals_of, rates_of}
use Rattle.block.proofs.Checking.{ident_ok_lem}
use Rattle.judgement.specs.declared.Source.{Source}
use Rattle.judgement.specs.Source.{room_of, taken_of, shape_tests, shaped}
use Rattle.judgement.specs.Days.{DayRecord, days_from}
use Rattle.judgement.specs.Given.{value_fits, day_tests, day_fits, filled, joined, head_fits, days_tests, days_fit, writable}
use Rattle.judgement.proofs.Head.{six_is, totals_are, rate_fits, rates_all, head_is, writable_is}
use Rattle.judgement.proofs.Places.{rate_at_lem}
use Rattle.judgement.proofs.Writable.{taken_filled}
use Rattle.store.specs.Store.{Store}
use Rattle.registers.specs.Demand.{count_round}
use Rattle.recorder.specs.declared.SetUp.{SetUp}
use Rattle.recorder.specs.Recorder.{Mem}
use Rattle.recorder.specs.Cause.{most_units}
use Rattle.recorder.proofs.Answers.{days_few}
use Rattle.assurance.specs.Paper.{Counts, Paper, now, today, total_at, units_of, flags_of, history_of}
use Rattle.assurance.specs.Sent.{stored_days, header_due, day_due}
use Rattle.assurance.proofs.Kept.{Given, ValuesKept, MarksKept, Kept, cap_of, reached, of_day}
use Rattle.assurance.proofs.Flags.{flags_few, flags_low}
use Rattle.assurance.proofs.Marking.{largest_le}
use Rattle.assurance.proofs.Sending.{ended_reached, ring_of, stored, room_is, taken_is, day_due_lem}

-- ---- a day leads to the next

module _ (s : SetUp) (c : Counts) (up : (h : ℕ) → total_at s c h ≤ total_at s c (suc h)) (slow : (h : ℕ) → units_of s c h ≤ most_units) (d : ℕ) where
  abbrev reading : ℕ → ℕ
  reading j = reading_at (total_at s c (48 * d + suc j))

  abbrev first : ℕ
  first = reading_at (total_at s c (48 * d))

  units_at : (h : ℕ) → total_at s c (suc h) / unit_of ≡ total_at s c h / unit_of + units_of s c h
  unfolding units_of
  units_at h = omega (arith, up h)

  next_of : (a b n : ℕ) → b ≡ a + n → b % reading_round ≡ (a % reading_round + n) % reading_round
  next_of a b n e = omega arith

  before_of_lem : (j : ℕ) → reading_before first reading j ≡ reading_at (total_at s c (48 * d + j))
  unfolding reading_before
  before_of_lem zero = let e : 48 * d + 0 ≡ 48 * d = omega arith in rw e
  before_of_lem (suc j) = refl

  steps : Readings first reading (λ j. units_of s c (48 * d + j)) 48
  steps = record {
    small = λ j l. omega (arith, slow (48 * d + j));
    next = λ j l.
        let e : 48 * d + suc j ≡ suc (48 * d + j) = omega arith in
        rw (before_of_lem j, e) (next_of (total_at s c (48 * d + j) / unit_of) (total_at s c (suc (48 * d + j)) / unit_of) (units_of s c (48 * d + j)) (units_at (48 * d + j)));
  }

  low_of : (n : ℕ) → n % reading_round % value_round ≡ n % value_round
  low_of n = omega arith

  -- the start and the advances of a whole day, as sent, are the next day's start
  pub leads_on : (x : DayRecord) → x.start ≡ first → ((j : ℕ) → j < 48 → x.value j ≡ value_at (total_at s c (48 * d + suc j)))
      → end_reading x.start x.value ≡ reading_at (total_at s c (48 * suc d))
  unfolding end_reading
  leads_on x a v =
      let e : 48 * d + 48 ≡ 48 * suc d = omega arith in
      rw (a, sum_agree first x.value (λ j. reading j % value_round) 48 (λ j l. v j l ∙ sym (low_of (total_at s c (48 * d + suc j) / unit_of))))
      (sum_of_readings first reading (λ j. units_of s c (48 * d + j)) 48 steps ∙ rw (before_of_lem 48, e) (omega arith))

-- ---- the header

ident_fits : (id : List ℕ) → ident_ok id 0 ≡ true → ok_value identifier (num_at binary id 0 12) ≡ true
ident_fits id e =
    let a = both (good_at binary id 0 12) (is_identifier (num_at binary id 0 12)) (ident_ok_lem id 0 ∙ e) in
    rw (lt-ltb (num_at binary id 0 12) (256 ^ 12) (num_lt binary id 0 12 (good_at_lem binary id 0 12 a.0))) a.1

small : (n : ℕ) → n < 10 ^ 6 → true ≡ ok_value (digits 6) n
small n l = sym (lt-ltb n (10 ^ 6) l) ∙ six_is n

never_counted : (date resets : ℕ) → (date ≡ 0 → resets ≡ 0) → (not (eqb date 0) || eqb (resets % count_round) 0) ≡ true
never_counted date resets e =
    by_dec (ℕ_discrete date 0)
    (λ z. rw (eq-eqb date 0 z, e z))
    (λ z. rw (ne_eqb date 0 z))

module _ (s : SetUp) (z : Given s) (p : Paper) (x : Mem) (k : Kept s p x) where
  abbrev h : Header
  h = header_due s p

  abbrev c : Counts
  c = p.tape.counts

  kwh_few : (n : ℕ) → n % total_round / kwh_of_unit < 10 ^ 6
  kwh_few n = omega arith

  eight : length h.rates ≡ 8
  unfolding header_due
  eight = length_table 8 (λ i. kwh_of (milliwatt_hours (c.rate i % total_round)))

  totals_fit : ok_values total_fields (totals_of h) ≡ true
  unfolding header_due
  totals_fit =
      let d = k.at.demand in
      let peak = largest_le (units_of s c) p.tape.demands.since (now p - p.tape.demands.since) k.at.energy.slow in
      sym (totals_are h true true true true d.date
      (small h.kwh.0 (kwh_few (total_at s c (suc (now p))))) (small h.current.0 (omega arith)) (small h.previous.0 d.previous_few) (small h.cumulative.0 (omega arith)))
      ∙ lt-ltb (p.tape.demands.resets % count_round) count_round (omega arith)

  rates_fit : ok_values rate_fields (rates_of h) ≡ true
  unfolding header_due
  rates_fit =
      sym (rates_all h.rates true eight
      (sym (all_of (rate_fits h.rates) 8 (λ i l.
      rw (rate_at_lem h.rates i, table_at 8 (λ i. kwh_of (milliwatt_hours (c.rate i % total_round))) i (kilowatt_hours 0) l)
      (sym (small (c.rate i % total_round / kwh_of_unit) (kwh_few (c.rate i))))))))

  pub head_fits_lem : (n : ℕ) → n ≤ most_days → head_fits h n ≡ true
  unfolding header_due
  head_fits_lem n few =
      sym (head_is h n true true true few k.at.demand.date eight (sym (ident_fits p.identifier k.name.right)) (sym totals_fit) (sym rates_fit))
      ∙ rw (lt-ltb p.time 3155760000 k.century) (never_counted p.tape.demands.date p.tape.demands.resets k.at.demand.never)

-- ---- the days

module _ (s : SetUp) (p : Paper) (d k r : ℕ) (x : Store) (few : k ≤ 48) (v : ValuesKept s p.tape.counts d k r x.values x.starts)
    (m : MarksKept p.tape.marks d k r x.marks) (f : get_or x.marks (r * 3 + 2) 0 ≡ flags_of p.tape.flags d) where
  room_fits : all_true (day_tests x.values x.starts x.marks r k) ≡ true
  unfolding low_five_clear value_fits values_from
  room_fits =
      let t = p.tape in
      all_true_of (day_tests x.values x.starts x.marks r k) (
        lt-ltb (get_or x.starts r 0) reading_round (rw v.start (mod-lt (total_at s t.counts (48 * d) / unit_of) {m = reading_round} (omega arith))),
        (
          lt-ltb (get_or x.marks (r * 3 + 2) 0) 256 (rw f (flags_few t.flags d)),
          (
            eq-eqb (get_or x.marks (r * 3 + 2) 0 % 32) 0 (rw f (flags_low t.flags d)),
            (
              lt-ltb (get_or x.marks (r * 3) 0) 281474976710656 (rw m.reverse (packed_few k (of_day t.marks.reverse d) few)),
              (
                lt-ltb (get_or x.marks (r * 3 + 1) 0) 281474976710656 (rw m.level2 (packed_few k (of_day t.marks.level2 d) few)),
                (
                  all_of (value_fits x.values r) k
                      (λ j l. lt-ltb (get_or x.values (r * 48 + j) 0) value_round (rw (v.value j l) (mod-lt (total_at s t.counts (48 * d + suc j) / unit_of) {m = value_round} (omega arith)))),
                  tt,
                ),
              ),
            ),
          ),
        ),
      )

-- a day back from today is over, and the one before it in the block is the next day
is_over : (t i : ℕ) → (i ≡ 0 → ⊥) → i ≤ t / 86400 → ended_on t (t / 86400 - i) ≡ 48
is_over t i ne l = omega (arith, ended_reached t (t / 86400 - i))

one_newer : (t i : ℕ) → (i ≡ 0 → ⊥) → i ≤ t → suc (t - i) ≡ t - (i - 1)
one_newer t i ne l = omega arith

module _ (s : SetUp) (z : Given s) (p : Paper) (x : Mem) (k : Kept s p x) (n : ℕ) (few : n ≤ stored_days s p) where
  abbrev src : Source
  src = ring_of s p

  abbrev days : ℕ → DayRecord
  days = days_from src x.store.values x.store.starts x.store.marks

  fits_day : (i : ℕ) → i < n → day_fits src x.store.values x.store.starts x.store.marks i ≡ true
  unfolding day_fits
  fits_day i l =
      let d = today p - i in
      let g = k.at.store in
      let j = stored s z p x k i (omega arith) in
      rw (room_is s z p x k i (omega arith), taken_is s z p x k i (omega arith))
      (room_fits s p d (reached (now p) d) (d % cap_of s) x.store (omega arith) (g.values d j) (g.marks d j) (g.flags d j))

  -- day i of the paper, which is over
  over : (i : ℕ) → i < n → (i ≡ 0 → ⊥) → end_reading (days i).start (days i).value ≡ (days (i - 1)).start
  unfolding day_due history_of
  over i l ne =
      let a = day_due_lem s z p x k i (omega arith) in
      let b = day_due_lem s z p x k (i - 1) (omega arith) in
      let d = today p - i in
      let next : suc d ≡ today p - (i - 1) = one_newer (today p) i ne (omega arith) in
      let whole : ended_on p.time d ≡ 48 = is_over p.time i ne (omega arith) in
      leads_on s p.tape.counts k.at.energy.up k.at.energy.slow d (days i) a.start
      (λ j m. a.value j m ∙ rw (whole, lt-ltb j 48 m))
      ∙ rw next (sym b.start)

  joins_day : (i : ℕ) → i < n → joined days i ≡ true
  unfolding joined
  joins_day i l =
      by_dec (ℕ_discrete i 0)
      (λ e. rw (eq-eqb i 0 e))
      (λ e. rw (ne_eqb i 0 e, over i l e) (eq-eqb (days (i - 1)).start (days (i - 1)).start refl))

  taken_now : taken_of src 0 ≡ ended_at p.time
  unfolding taken_of
  taken_now = refl

  newest_filled : (eqb n 0 || filled (days 0) (ended_at p.time)) ≡ true
  newest_filled =
      by_dec (ℕ_discrete n 0)
      (λ e. rw (eq-eqb n 0 e))
      (λ e. rw (ne_eqb n 0 e, taken_now) (taken_filled x.store.values x.store.starts x.store.marks (room_of src 0) (ended_at p.time)))

  days_fit_lem : days_fit p.time n src x.store.values x.store.starts x.store.marks ≡ true
  unfolding days_fit
  days_fit_lem =
      all_true_of (days_tests p.time n src x.store.values x.store.starts x.store.marks) (
        le-leb n most_days (omega (arith, days_few s.class)),
        (
          le-leb n (today p + 1) (omega arith),
          (
            all_of (day_fits src x.store.values x.store.starts x.store.marks) n fits_day,
            (newest_filled, (all_of (joined days) n joins_day, tt)),
          ),
        ),
      )

  -- so the writer takes it
  pub can_write : writable (header_due s p) n src x.store.values x.store.starts x.store.marks ≡ true
  unfolding header_due
  can_write =
      sym (writable_is (header_due s p) n src x.store.values x.store.starts x.store.marks true true
      (sym (head_fits_lem s z p x k n (omega (arith, days_few s.class)))) (sym days_fit_lem))

  pub is_shaped : shaped src n (length x.store.values) (length x.store.starts) (length x.store.marks) ≡ true
  unfolding shaped
  is_shaped =
      let f = k.at.store.fits in
      all_true_of (shape_tests src n (length x.store.values) (length x.store.starts) (length x.store.marks)) (
        le-leb (cap_of s) most_days (omega (arith, f.most)),
        (
          eq-eqb _ _ f.values,
          (
            eq-eqb _ _ f.starts,
            (
              eq-eqb _ _ f.marks,
              (
                le-leb n (cap_of s) (omega arith),
                (
                  le-leb (today p % cap_of s) most_days (omega (arith, mod-lt (today p) z.some, f.most)),
                  (le-leb (cap_of s - 1) most_days (omega (arith, f.most)), (le-leb (ended_at p.time) 48 (omega arith), tt)),
                ),
              ),
            ),
          ),
        ),
      )
