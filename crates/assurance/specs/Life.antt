-- A life: an accepted set-up, whatever store was lent, and any list of events, refused ones among them. Where it ends, the store is the last days of its
-- history, and every register and every mark means what the events say (docs/RULES.md, "Quantities", "Events").
use Rattle.std.specs.Prelude.{ℕ, suc, ◌+◌, ◌-◌, ◌*◌, ◌/◌, ◌%◌, ◌<◌, ◌≤◌, ◌≡◌, ◌↔◌, true, List, length, get_or}
use Rattle.laws.specs.Bits.{bit_at}
use Rattle.laws.specs.Tests.{sum_below}
use Rattle.quantity.specs.Units.{total_round, demand_round, reading_at, value_at, units_from}
use Rattle.calendar.specs.Clock.{seconds_of_half, halves_of_day, ended_on}
use Rattle.format.specs.Identifier.{SameMeter}
use Rattle.profile.specs.Profile.{advance_at}
use Rattle.days.specs.Day.{History}
use Rattle.store.specs.Store.{Store}
use Rattle.registers.specs.Energy.{no_energy, rate_count}
use Rattle.registers.specs.Demand.{count_round}
use Rattle.recorder.specs.declared.SetUp.{SetUp}
use Rattle.recorder.specs.declared.Event.{Event}
use Rattle.recorder.specs.Recorder.{Mem}
use Rattle.recorder.specs.Range.{in_range}
use Rattle.recorder.specs.Effect.{power_lost, meter_changed, demand_cleared}
use Rattle.recorder.specs.Answer.{most_units, answer_of}
use Rattle.recorder.specs.Step.{run}
use Rattle.recorder.specs.SetUp.{set_up}
use Rattle.recorder.specs.Stored.{start_of, value_of, reverse_word, level2_word, flags_word}
use Rattle.assurance.specs.Paper.{Paper, now, today, largest, history_of}
use Rattle.assurance.specs.Written.{due, blank_paper, paper}
use Rattle.assurance.specs.Meaning.{counted_in, counted_before, counted_at, time_set, power_set, counter_set, rate_set, identifier_set, last_set, reset_halves, found, last_or, sum_of, days_named, Some, Outage, MeterOn, ResetOn, ReverseIn, Level2In}
use Rattle.assurance.specs.Sent.{stored_days}

module _ (s : SetUp) (x : Store) (es : List Event) where
  -- the recorder and its store where the life ends, the paper, and the history on it
  abbrev pub end : Mem
  end = run (set_up s x).after es

  abbrev pub told : Paper
  told = paper s es

  abbrev pub past : History
  past = history_of s told.tape

  -- ---- the ring is the paper: the days stored, and what the store has of day d

  abbrev pub ended : ℕ → ℕ
  ended d = ended_on told.time d

  pub record DayStored (d : ℕ) : Type 0 where
    pub start : start_of end d ≡ past.start d
    pub value : (j : ℕ) → j < ended d → value_of end d j ≡ (past.half d j).value
    pub reverse : (j : ℕ) → j < ended d → bit_at (ended d) (reverse_word end d) j ≡ (past.half d j).reverse
    pub level2 : (j : ℕ) → j < ended d → bit_at (ended d) (level2_word end d) j ≡ (past.half d j).level2
    pub flags : flags_word end d ≡ past.flags d

  pub record Ring : Type 0 where
    pub days : end.recorder.clock.days ≡ stored_days s told
    pub day : (i : ℕ) → i < stored_days s told → DayStored (today told - i)

  -- ---- what it means: the total, not reduced, as half-hour q began, and the units of half-hour q

  abbrev pub energy_at : ℕ → ℕ
  energy_at q = s.total.0 + counted_before s q (blank_paper s) es

  abbrev pub units_in : ℕ → ℕ
  units_in q = units_from (energy_at q) (energy_at (suc q))

  -- the half-hours of the accepted Resets, and the largest demand that each found; the half-hour of the last, or of set-up
  abbrev pub resets : List ℕ
  resets = reset_halves s (blank_paper s) es

  abbrev pub peaks : List ℕ
  peaks = found units_in (s.time / seconds_of_half) resets

  abbrev pub since : ℕ
  since = last_or (s.time / seconds_of_half) resets

  -- such an event was accepted
  abbrev pub Happened : (Paper → Event → Type 0) → Type 0
  Happened H = Some s H (blank_paper s) es

  abbrev pub half_of : ℕ → ℕ → ℕ
  half_of d j = halves_of_day * d + j

  -- a bit of a day's flags
  abbrev pub Flagged : ℕ → ℕ → Type 0
  Flagged flag d = past.flags d / flag % 2 ≡ 1

  pub record Means : Type 0 where
    -- the present: the time of the last accepted Clock or On, or set-up's; power as the last accepted Off or On left it, on at first;
    -- the counter's value of the last accepted Count or Meter, or set-up's; the rate of the last accepted Rate, or 1;
    -- set-up's identifier, with the PPP of each accepted Ppp in its place, and so of one meter for life
    pub time : end.recorder.clock.time ≡ last_set s time_set s.time (blank_paper s) es
    pub power : end.recorder.clock.on ≡ last_set s power_set true (blank_paper s) es
    pub counter : end.recorder.energy.last ≡ last_set s counter_set s.counter (blank_paper s) es
    pub active : end.recorder.energy.rate ≡ last_set s rate_set 1 (blank_paper s) es
    pub identifier : end.recorder.identity.identifier ≡ last_set s identifier_set s.identifier (blank_paper s) es
    pub same_meter_holds : SameMeter end.recorder.identity.identifier s.identifier
    -- the registers
    pub total : end.recorder.energy.total.0 ≡ (s.total.0 + counted_in s (blank_paper s) es) % total_round
    -- each rate register: the energy of the Counts accepted while its rate was active; all eight together, with the start total, are the total
    pub rate : (i : ℕ) → i < rate_count → (get_or end.recorder.energy.rates i no_energy).0 ≡ counted_at s (suc i) 1 (blank_paper s) es % total_round
    pub rates : (s.total.0 + sum_below (λ i. (get_or end.recorder.energy.rates i no_energy).0) rate_count) % total_round ≡ end.recorder.energy.total.0
    pub current : end.recorder.demand.current.0 ≡ 2 * largest units_in since (now told - since)
    -- what the last Reset found, or 0; what all of them found; the day of the last; how many they were
    pub previous : end.recorder.demand.previous.0 ≡ last_or 0 peaks
    pub cumulative : end.recorder.demand.cumulative.0 ≡ sum_of peaks % demand_round
    pub date : end.recorder.demand.reset ≡ last_or 0 (days_named resets)
    pub count : end.recorder.demand.count ≡ length resets % count_round
    -- the half-hours
    pub start : (d : ℕ) → past.start d ≡ reading_at (energy_at (half_of d 0))
    pub value : (d j : ℕ) → (past.half d j).value ≡ value_at (energy_at (half_of d (suc j)))
    pub few : (q : ℕ) → units_in q ≤ most_units
    pub advance : (d j : ℕ) → advance_at (past.start d) (λ i. (past.half d i).value) j ≡ units_in (half_of d j)
    pub reverse : (d j : ℕ) → ((past.half d j).reverse ≡ true) ↔ Happened (ReverseIn (half_of d j))
    pub level2 : (d j : ℕ) → ((past.half d j).level2 ≡ true) ↔ Happened (Level2In (half_of d j))
    -- one in which no event was accepted, as those passed over: no advance (and no marks, by the two above)
    pub passed : (q : ℕ) → (Happened (λ p e. q ≡ now p) → ⊥) → units_in q ≡ 0
    -- the days
    pub outage : (d : ℕ) → Flagged power_lost d ↔ Happened (Outage d)
    pub meter : (d : ℕ) → Flagged meter_changed d ↔ Happened (MeterOn d)
    pub reset : (d : ℕ) → Flagged demand_cleared d ↔ Happened (ResetOn d)

  pub record Life : Type 0 where
    -- in range, so each answer is 1, 6, 13, 2 or 3 exactly where the paper says, and never 4 or 5
    pub range : in_range end.recorder ≡ true
    pub answers : (e : Event) → answer_of end e ≡ due s told e
    pub ring : Ring
    pub means : Means
