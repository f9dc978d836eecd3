-- A life ends as its events say: the store is the last days of the history, and every register and mark has its meaning.
-- Assumes nothing.
use Prim.Native.Nat.{ℕ, zero, suc, ◌+◌, ◌-◌, ◌*◌, ◌/◌, ◌%◌, ◌<◌}
use mathlib.Core.Path.{◌≡◌, refl, sym, ap, ◌∙◌}
use mathlib.Core.Logic.{inl, inr}
use mathlib.Core.Bool.{Bool, true, false, cond}
use mathlib.Core.List.{List, [], ◌∷◌}
use native.Mathlib.Nat.{zero-add}
use native.Mathlib.Decide.{dec_lt, ℕ_discrete}
use native.Mathlib.Omega.{arith}
use lib.Dec.{ltb}
use lib.ListN.{get_or}
use borrow.Author.Tests.{lt-ltb, le-ltb, ne_eqb}
use Rattle.laws.specs.Tests.{sum_below}
use Rattle.laws.proofs.Bits.{bit_packed}
use Rattle.laws.proofs.Bools.{iff_trans}
use Rattle.laws.proofs.Round.{sum_round}
use Rattle.laws.proofs.Split.{by_dec}
use Rattle.laws.proofs.Tests.{sum_same}
use Rattle.quantity.specs.Units.{unit_of, total_round, reading_round, value_round, demand_round, reading_at, value_at}
use Rattle.profile.specs.Profile.{before_at, advance_at}
use Rattle.store.specs.Class.{days_of}
use Rattle.store.specs.Store.{Store}
use Rattle.registers.specs.Energy.{no_energy, rate_count}
use Rattle.registers.specs.Demand.{count_round}
use Rattle.recorder.specs.declared.SetUp.{SetUp}
use Rattle.recorder.specs.declared.Event.{Event}
use Rattle.recorder.specs.declared.Event.TheVariants.{Count, Clock, Off, On, Access, Meter, Reset, Rate, Reverse, Ppp, Adjust}
use Rattle.recorder.specs.Recorder.{Mem}
use Rattle.recorder.specs.SetUp.{set_up, made}
use Rattle.assurance.specs.Paper.{Counts, Paper, now, today, total_at, units_of, largest, history_of}
use Rattle.assurance.specs.Written.{due, written, blank_tape, blank_paper}
use Rattle.assurance.specs.Meaning.{energy_in, counted_in, counted_before, counted_at, Some}
use Rattle.assurance.specs.Life.{end, told, past, ended, DayStored, Ring, energy_at, units_in, since, resets, Means, Life}
use Rattle.assurance.proofs.Kept.{Given, Stored, Kept, cap_of, reached, of_day, cap_is}
use Rattle.assurance.proofs.Close.{advance_of_lem}
use Rattle.assurance.proofs.Counting.{largest_same}
use Rattle.assurance.proofs.Flags.{is_outage, is_meter, is_reset_lem}
use Rattle.assurance.proofs.Start.{given, made_kept}
use Rattle.assurance.proofs.Answer.{in_range_lem, answer_due}
use Rattle.assurance.proofs.Run.{kept}
use Rattle.assurance.proofs.Energy.{before_is, rates_are, all_before}
use Rattle.assurance.proofs.Registers.{Told, time_is, power_is, counter_is, rate_is_lem, identifier_is, register_is, resets_told}
use Rattle.assurance.proofs.Happening.{outage_exactly, meter_exactly, reset_exactly, reverse_exactly, level2_exactly}
use Rattle.assurance.proofs.Sending.{ended_reached, days_are, stored}

-- a refused event counts nothing
refused_none : (s : SetUp) (p : Paper) (e : Event) → (due s p e ≡ 0 → ⊥) → energy_in s p e ≡ 0
refused_none s p (Count c) n = rw (ne_eqb (due s p (Count c)) 0 n)
refused_none s p (Clock t) n = refl
refused_none s p Off n = refl
refused_none s p (On t) n = refl
refused_none s p Access n = refl
refused_none s p (Meter c) n = refl
refused_none s p Reset n = refl
refused_none s p (Rate k) n = refl
refused_none s p Reverse n = refl
refused_none s p (Ppp a b c) n = refl
refused_none s p (Adjust h) n = refl

-- nothing is counted in a half-hour in which no event was accepted
none_counted : (s : SetUp) (q : ℕ) (es : List Event) (p : Paper) → (Some s (λ p e. q ≡ now p) p es → ⊥) → counted_before s (suc q) p es ≡ counted_before s q p es
unfolding counted_before
none_counted s q [] p n = refl
none_counted s q (e ∷ es) p n =
    rw (none_counted s q es (written s p e) (λ h. n (inr h)))
    (ap (λ (w : ℕ). w + counted_before s q (written s p e) es)
    (by_dec (ℕ_discrete q (now p))
    (λ z. rw (refused_none s p e (λ d. n (inl (d, z)))) (none (ltb (now p) (suc q)) (ltb (now p) q)))
    (λ z. by_dec (dec_lt (now p) q)
    (λ l. rw (lt-ltb (now p) q l, lt-ltb (now p) (suc q) (omega arith)))
    (λ l. rw (le-ltb (now p) q (omega arith), le-ltb (now p) (suc q) (omega arith))))))
  where
    none : (a b : Bool) → ◌≡◌ {A = ℕ} (cond a 0 0) (cond b 0 0)
    none true true = refl
    none true false = refl
    none false true = refl
    none false false = refl

module _ (s : SetUp) (x : Store) (es : List Event) (accepted : (set_up s x).answer ≡ 0) where
  abbrev y : Mem
  y = end s x es

  abbrev p : Paper
  p = told s x es

  abbrev c : Counts
  c = p.tape.counts

  z : Given s
  unfolding set_up
  z = given s x accepted

  k : Kept s p y
  k = kept s x es accepted

  -- ---- the ring

  module _ (d : ℕ) (i : Stored s (now p) d) where
    has_cap : days_of y.recorder.identity.class ≡ cap_of s
    has_cap = cap_is s p.tape (now p) y k.at

    e : ended s x es d ≡ reached (now p) d
    e = ended_reached p.time d

    pub day_stored : DayStored s x es d
    unfolding history_of of_day
    day_stored =
        let g = k.at.store in
        record {
          start = rw has_cap (g.values d i).start;
          value = λ j l. rw has_cap ((g.values d i).value j (rw e at l));
          reverse = λ j l. rw (has_cap, e, (g.marks d i).reverse) (bit_packed (reached (now p) d) (of_day p.tape.marks.reverse d) j (rw e at l));
          level2 = λ j l. rw (has_cap, e, (g.marks d i).level2) (bit_packed (reached (now p) d) (of_day p.tape.marks.level2 d) j (rw e at l));
          flags = rw has_cap (g.flags d i);
        }

  pub ring : Ring s x es
  ring = record { days = days_are s z p y k; day = λ i l. day_stored (today p - i) (stored s z p y k i l) }

  -- ---- what it means

  -- the paper's totals are the start and what was counted before
  pub total_is : (q : ℕ) → total_at s c q ≡ energy_at s x es q
  unfolding total_at blank_tape
  total_is q = ap (λ (n : ℕ). s.total.0 + n) (before_is s z q es (blank_paper s) (made s) (made_kept s z) ∙ zero-add (counted_before s q (blank_paper s) es))

  units_are : (q : ℕ) → units_of s c q ≡ units_in s x es q
  unfolding units_of
  units_are q = rw (total_is (suc q), total_is q)

  total_told : y.recorder.energy.total.0 ≡ (s.total.0 + counted_in s (blank_paper s) es) % total_round
  total_told =
      k.at.energy.total
      ∙ ap (λ (n : ℕ). n % total_round)
      (total_is (suc (now p)) ∙ ap (λ (n : ℕ). s.total.0 + n) (all_before s (suc (now p)) (blank_paper s) es (omega arith)))

  rates_told : (s.total.0 + sum_below (λ i. (get_or y.recorder.energy.rates i no_energy).0) 8) % total_round ≡ y.recorder.energy.total.0
  unfolding blank_tape sum_below
  rates_told =
      ap (λ (n : ℕ). (s.total.0 + n) % total_round)
      (sum_same (λ i. (get_or y.recorder.energy.rates i no_energy).0) (λ i. c.rate i % total_round) 8 k.at.energy.rates)
      ∙ sum_round total_round c.rate 8 s.total.0
      ∙ ap (λ (n : ℕ). (s.total.0 + n) % total_round) (rates_are s z es (blank_paper s) (made s) (made_kept s z) ∙ zero-add (counted_in s (blank_paper s) es))
      ∙ sym total_told

  cleared : Told (units_in s x es) (blank_tape s).demands p.tape.demands (resets s x es)
  cleared = resets_told s (units_in s x es) es (blank_paper s) units_are

  current_told : y.recorder.demand.current.0 ≡ 2 * largest (units_in s x es) (since s x es) (now p - since s x es)
  unfolding blank_tape
  current_told =
      k.at.demand.current
      ∙ ap (λ (q : ℕ). 2 * largest (units_of s c) q (now p - q)) cleared.since
      ∙ ap (λ (n : ℕ). 2 * n)
      (largest_same (units_of s c) (units_in s x es) (since s x es) (now p - since s x es) (λ q _ _. units_are q))

  rate_told : (i : ℕ) → i < rate_count → (get_or y.recorder.energy.rates i no_energy).0 ≡ counted_at s (suc i) 1 (blank_paper s) es % total_round
  unfolding blank_tape
  rate_told i l =
      k.at.energy.rates i l
      ∙ ap (λ (n : ℕ). n % total_round) (register_is s z i es (blank_paper s) (made s) (made_kept s z) ∙ zero-add (counted_at s (suc i) 1 (blank_paper s) es))

  module _ (d : ℕ) where
    start_told : (past s x es).start d ≡ reading_at (total_at s c (48 * d))
    unfolding history_of
    start_told = refl

    value_told : (j : ℕ) → ((past s x es).half d j).value ≡ value_at (total_at s c (48 * d + suc j))
    unfolding history_of
    value_told j = refl

    before_told : (j : ℕ) → before_at ((past s x es).start d) (λ i. ((past s x es).half d i).value) j ≡ value_at (total_at s c (48 * d + j))
    unfolding before_at
    before_told zero =
        let e : 48 * d + 0 ≡ 48 * d = omega arith in
        rw e (ap (λ (n : ℕ). n % value_round) start_told ∙ low (total_at s c (48 * d) / unit_of))
      where
        low : (n : ℕ) → n % reading_round % value_round ≡ n % value_round
        low n = omega arith
    before_told (suc j) = value_told j

    advance_told : (j : ℕ) → advance_at ((past s x es).start d) (λ i. ((past s x es).half d i).value) j ≡ units_of s c (48 * d + j)
    unfolding advance_at units_of
    advance_told j =
        let next : 48 * d + suc j ≡ suc (48 * d + j) = omega arith in
        advance_of_lem _ _ (total_at s c (48 * d + suc j) / unit_of) (total_at s c (48 * d + j) / unit_of) (value_told j) (before_told j)
        (rw next (omega (arith, k.at.energy.up (48 * d + j)))) (rw next (k.at.energy.slow (48 * d + j)))
        ∙ rw next

  pub means : Means s x es
  unfolding history_of blank_tape
  means = record {
    time = k.time ∙ time_is s es (blank_paper s);
    power = k.on ∙ power_is s es (blank_paper s);
    counter = k.last ∙ counter_is s es (blank_paper s);
    active = k.rate ∙ rate_is_lem s es (blank_paper s);
    identifier = k.name.is ∙ identifier_is s es (blank_paper s);
    same_meter_holds = λ q past h. ap (λ (id : List ℕ). get_or id q 0) k.name.is ∙ k.name.meter q past h;
    total = total_told;
    rate = rate_told;
    rates = rates_told;
    current = current_told;
    previous = k.at.demand.previous ∙ cleared.previous;
    cumulative = k.at.demand.cumulative ∙ ap (λ (n : ℕ). n % demand_round) (cleared.cumulative ∙ zero-add _);
    date = k.at.demand.reset ∙ cleared.date;
    count = k.at.demand.count ∙ ap (λ (n : ℕ). n % count_round) (cleared.resets ∙ zero-add _);
    start = λ d. let e : 48 * d + 0 ≡ 48 * d = omega arith in rw e (start_told d ∙ ap reading_at (total_is (48 * d)));
    value = λ d j. value_told d j ∙ ap value_at (total_is (48 * d + suc j));
    few = λ q. omega (arith, units_are q, k.at.energy.slow q);
    advance = λ d j. advance_told d j ∙ units_are (48 * d + j);
    reverse = λ d j. reverse_exactly s es (48 * d + j);
    level2 = λ d j. level2_exactly s es (48 * d + j);
    passed = λ q n. rw (none_counted s q es (blank_paper s) n) (omega arith);
    outage = λ d. iff_trans (is_outage p.tape.flags d) (outage_exactly s es d);
    meter = λ d. iff_trans (is_meter p.tape.flags d) (meter_exactly s es d);
    reset = λ d. iff_trans (is_reset_lem p.tape.flags d) (reset_exactly s es d);
  }

  pub life : Life s x es
  life = record { range = in_range_lem s z p y k; answers = answer_due s z p y k; ring = ring; means = means }
