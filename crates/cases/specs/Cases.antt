-- The starred cases of the table "Reckoned by hand" of docs/RULES.md, its outage of three days, weights that are no whole watt-hours, the daily flags, the marks, PPP, and answers 1, 6 and 2; then the days of the classes, the
-- characters of an identifier and the ranges of a recorder's fields (docs/RULES.md, "Set-up"), and the order of the answers to set-up and events (docs/RULES.md, "Checked in this
-- order"), by inputs that two checks refuse. For each what the definitions give, and what is due.
use Rattle.std.specs.Prelude.{ℕ, ◌-◌, ◌*◌, true, List, [], ◌∷◌, ◌++◌, map, get_or, replicate, set}
use Rattle.calendar.specs.Calendar.{real_date}
use Rattle.calendar.specs.Clock.{halves_of_day, ended_on}
use Rattle.laws.specs.Bits.{bit}
use Rattle.quantity.specs.Units.{milliwatt_hours, watt_hours, units, centi_kilowatts, reading_of, kwh_of, demand_of}
use Rattle.registers.specs.Energy.{pulses_of, running_from, no_energy}
use Rattle.registers.specs.declared.Shift.TheVariants.{Ahead}
use Rattle.store.specs.declared.Class.{Class}
use Rattle.store.specs.declared.Class.TheVariants.{A, B, C, D, Blank}
use Rattle.store.specs.Class.{complete_days, days_of, day_words}
use Rattle.store.specs.Store.{Store, store}
use Rattle.recorder.specs.declared.Recorder.{Recorder}
use Rattle.recorder.specs.declared.Event.{Event}
use Rattle.recorder.specs.declared.Event.TheVariants.{Count, Clock, Off, On, Access, Meter, Reset, Rate, Reverse, Ppp, Adjust}
use Rattle.recorder.specs.Recorder.{Mem, with, with_clock, with_energy, with_demand, with_running}
use Rattle.recorder.specs.Answer.{answer_of}
use Rattle.recorder.specs.Step.{step, run}
use Rattle.recorder.specs.Effect.{rate_is}
use Rattle.recorder.specs.SetUp.{given, blank, set_up}
use Rattle.recorder.specs.Stored.{value_of, reverse_word, level2_word, flags_word, advanced}

-- a row of the table
pub record Case : Type 0 where
  pub given : List ℕ
  pub due : List ℕ

-- ABCX24000017, and with a small letter as M ABCx24000017
abbrev pub ident : List ℕ
ident = 65 ∷ 66 ∷ 67 ∷ 88 ∷ 50 ∷ 52 ∷ 48 ∷ 48 ∷ 48 ∷ 48 ∷ 49 ∷ 55 ∷ []

abbrev pub small : List ℕ
small = 65 ∷ 66 ∷ 67 ∷ 120 ∷ 50 ∷ 52 ∷ 48 ∷ 48 ∷ 48 ∷ 48 ∷ 49 ∷ 55 ∷ []

-- a store of zeros: so many values, starts and words of marks; that of a class; that of class a, and one value less
abbrev pub lent : ℕ → ℕ → ℕ → Store
lent values starts marks = store (replicate values 0) (replicate starts 0) (replicate marks 0)

abbrev pub lent_for : Class → Store
lent_for c = lent (days_of c * halves_of_day) (days_of c) (days_of c * day_words)

abbrev pub full : Store
full = lent_for A

abbrev pub short : Store
short = lent (days_of A * halves_of_day - 1) (days_of A) (days_of A * day_words)

-- class a, set up at a time with this total, counter value and weight, lent a store of zeros: total and weight in watt-hours, and in thousandths of one
abbrev pub meter : ℕ → ℕ → ℕ → ℕ → Mem
meter time total last weight = (set_up (given ident A (watt_hours weight) time (watt_hours total) last) full).after

abbrev pub fine : ℕ → ℕ → ℕ → ℕ → Mem
fine time total last weight = (set_up (given ident A (milliwatt_hours weight) time (milliwatt_hours total) last) full).after

-- the same with demands and a reset count
abbrev pub demands : ℕ → ℕ → ℕ → Mem
demands current cumulative count =
    let x = meter 0 0 0 1 in
    with x
    (with_demand
    (record { current = centi_kilowatts current; previous = centi_kilowatts 0; cumulative = centi_kilowatts cumulative; reset = 1; count = count })
    x.recorder)

abbrev pub total : Mem → ℕ
total x = x.recorder.energy.total.0

abbrev pub reading : Mem → ℕ
reading x = (reading_of x.recorder.energy.total).0

-- the kWh register, and that of rate 1
abbrev pub registers : Mem → List ℕ
registers x = (kwh_of x.recorder.energy.total).0 ∷ (kwh_of (get_or x.recorder.energy.rates 0 no_energy)).0 ∷ []

abbrev pub next : Mem → Event → Mem
next x e = (step x e).after

-- the answer to a set-up: identifier, class, weight, start time, start total, and the store; in thousandths, here and below
abbrev pub begins : List ℕ → Class → ℕ → ℕ → ℕ → Store → ℕ
begins id class weight time total x = (set_up (given id class (milliwatt_hours weight) time (milliwatt_hours total) 0) x).answer

-- set-up with each of some characters at a place of the identifier: PPP is 0 to 2, M 3, YY 4 and 5, XXXXXX 6 to 11. The characters are the ends of 0-9, of A-Z and of a-z with
-- their neighbours: / 0 9 : @ A Z [ ` a z {
abbrev pub ends : List ℕ
ends = 47 ∷ 48 ∷ 57 ∷ 58 ∷ 64 ∷ 65 ∷ 90 ∷ 91 ∷ 96 ∷ 97 ∷ 122 ∷ 123 ∷ []

abbrev pub ends_at : ℕ → List ℕ
ends_at place = map (λ (c : ℕ). begins (set ident place c) A 1 0 0 full) ends

-- events Ppp with each of them as the first, the second and the third character
abbrev pub ppp_first : List Event
ppp_first = map (λ (c : ℕ). Ppp c 66 67) ends

abbrev pub ppp_second : List Event
ppp_second = map (λ (c : ℕ). Ppp 65 c 67) ends

abbrev pub ppp_third : List Event
ppp_third = map (λ (c : ℕ). Ppp 65 66 c) ends

-- the answer to Reverse by a recorder of class a, set up at 2000-01-22 00:00:00, that has one group of its fields as given: identifier and weight; time and days stored; total,
-- active rate and the rate registers; current, previous and cumulative demand, reset date (0 is never, d + 1 is day d) and count; the reading at the running half-hour's start
abbrev pub reverses : Recorder → ℕ
reverses r = answer_of (record { recorder = r; store = full }) Reverse

abbrev pub sound : Recorder
sound = (meter 1814400 0 0 1).recorder

abbrev pub named : List ℕ → ℕ → ℕ
named id weight =
    reverses
    (record {
      identity = record { identifier = id; class = A; weight = milliwatt_hours weight };
      clock = sound.clock;
      energy = sound.energy;
      demand = sound.demand;
      running = sound.running;
    })

abbrev pub timed : ℕ → ℕ → ℕ
timed time days = reverses (with_clock (record { time = time; on = true; days = days }) sound)

abbrev pub measured : ℕ → ℕ → ℕ → ℕ → ℕ
measured total rate place register =
    reverses
    (with_energy (record { total = milliwatt_hours total; last = 0; rate = rate; rates = set (replicate 8 no_energy) place (milliwatt_hours register) }) sound)

abbrev pub demanded : ℕ → ℕ → ℕ → ℕ → ℕ → ℕ
demanded current previous cumulative reset count =
    reverses
    (with_demand
    (record { current = centi_kilowatts current; previous = centi_kilowatts previous; cumulative = centi_kilowatts cumulative; reset = reset; count = count })
    sound)

abbrev pub based : ℕ → ℕ
based start = reverses (with_running (running_from (units start)) sound)

-- a recorder with a field out of range, its active rate 9; a recorder with another store
abbrev pub out_of_range : Mem → Mem
out_of_range x = with x (rate_is 9 x.recorder)

abbrev pub beside : Mem → Store → Mem
beside x s = record { recorder = x.recorder; store = s }

-- one event of each kind
abbrev pub kinds : List Event
kinds = Count 0 ∷ Clock 0 ∷ Off ∷ On 0 ∷ Access ∷ Meter 0 ∷ Reset ∷ Rate 1 ∷ Reverse ∷ Ppp 97 90 57 ∷ Adjust (Ahead 0) ∷ []

abbrev pub answers : Mem → List Event → List ℕ
answers x es = map (answer_of x) es

-- the identifier; and what an event in the first half-hour leaves once it has ended: words of Level 2 and reverse marks, flags, reset date and count
abbrev pub identifier : Mem → List ℕ
identifier x = x.recorder.identity.identifier

abbrev pub marked : Event → List ℕ
marked e =
    let x = run (meter 0 0 0 1) (e ∷ Clock 1800 ∷ []) in
    level2_word x 0 ∷ reverse_word x 0 ∷ flags_word x 0 ∷ x.recorder.demand.reset ∷ x.recorder.demand.count ∷ []

abbrev pub cases : List Case
cases =
    -- last 4294967290, c 5, 10 Wh a pulse: 11 pulses, 110 Wh
    record { given = pulses_of 4294967290 5 ∷ answer_of (meter 0 0 4294967290 10) (Count 5) ∷ total (next (meter 0 0 4294967290 10) (Count 5)) ∷ []; due = 11 ∷ 0 ∷ 110000 ∷ [] }
    -- c equal to last: accepted, 0 Wh
    ∷ record { given = answer_of (meter 0 7 77 10) (Count 77) ∷ total (next (meter 0 7 77 10) (Count 77)) ∷ []; due = 0 ∷ 7000 ∷ [] }
    -- total 0, 10 Wh a pulse, 9,999 / 10,000 pulses: accepted / 3
    ∷ record { given = answer_of (meter 0 0 0 10) (Count 9999) ∷ answer_of (meter 0 0 0 10) (Count 10000) ∷ []; due = 0 ∷ 3 ∷ [] }
    -- total 9 Wh, 1 Wh a pulse, 99,990 / 99,991 pulses: accepted / 3
    ∷ record { given = answer_of (meter 0 9 0 1) (Count 99990) ∷ answer_of (meter 0 9 0 1) (Count 99991) ∷ []; due = 0 ∷ 3 ∷ [] }
    -- total 999,999,995 Wh, 10 Wh more: reading 99999999 to 00000000, advance 1
    ∷ record {
      given = reading (meter 0 999999995 0 10) ∷ reading (next (meter 0 999999995 0 10) (Count 1))
          ∷ advanced (run (meter 0 999999995 0 10) (Count 1 ∷ Clock 1800 ∷ [])) 0 1 ∷ [];
      due = 99999999 ∷ 0 ∷ 1 ∷ [];
    }
    -- 00:29:59 to 00:30:00 closes the first half-hour
    ∷ record {
      given = ended_on 1799 0 ∷ ended_on 1800 0 ∷ value_of (run (meter 1799 123450 0 10) (Count 1 ∷ Clock 1800 ∷ [])) 0 0 ∷ [];
      due = 0 ∷ 1 ∷ 2346 ∷ [];
    }
    -- Clock to the same second / one earlier: accepted / 2
    ∷ record { given = answer_of (meter 1800 0 0 1) (Clock 1800) ∷ answer_of (meter 1800 0 0 1) (Clock 1799) ∷ []; due = 0 ∷ 2 ∷ [] }
    -- 240229 / 230229: real / unreal
    ∷ record { given = bit (real_date 24 2 29) ∷ bit (real_date 23 2 29) ∷ []; due = 1 ∷ 0 ∷ [] }
    -- advance 50: demand 000100
    ∷ record { given = (demand_of (units 50)).0 ∷ (run (meter 0 0 0 10) (Count 50 ∷ Clock 1800 ∷ [])).recorder.demand.current.0 ∷ []; due = 100 ∷ 100 ∷ [] }
    -- cumulative 999999, current 2, count 99, Reset: 000001, count 00
    ∷ record {
      given = answer_of (demands 2 999999 99) Reset ∷ (next (demands 2 999999 99) Reset).recorder.demand.cumulative.0
          ∷ (next (demands 2 999999 99) Reset).recorder.demand.count ∷ [];
      due = 0 ∷ 1 ∷ 0 ∷ [];
    }
    -- Off 23:50 on the 1st, On 00:10 on the 3rd: three days flagged 0x80
    ∷ record {
      given = flags_word (run (meter 85800 0 0 1) (Off ∷ On 173400 ∷ [])) 0 ∷ flags_word (run (meter 85800 0 0 1) (Off ∷ On 173400 ∷ [])) 1
          ∷ flags_word (run (meter 85800 0 0 1) (Off ∷ On 173400 ∷ [])) 2 ∷ flags_word (run (meter 85800 0 0 1) (Off ∷ On 173400 ∷ [])) 3 ∷ [];
      due = 128 ∷ 128 ∷ 128 ∷ 0 ∷ [];
    }
    -- 1.250 Wh a pulse, 800 pulses a kWh. 7 / 8 pulses: reading 0 / 1
    ∷ record { given = reading (next (fine 0 0 0 1250) (Count 7)) ∷ reading (next (fine 0 0 0 1250) (Count 8)) ∷ []; due = 0 ∷ 1 ∷ [] }
    -- 79,999 pulses, 99,998.750 Wh: 9,999 units; 80,000: 3
    ∷ record {
      given = answer_of (fine 0 0 0 1250) (Count 79999) ∷ reading (next (fine 0 0 0 1250) (Count 79999)) ∷ answer_of (fine 0 0 0 1250) (Count 80000) ∷ [];
      due = 0 ∷ 9999 ∷ 3 ∷ [];
    }
    -- 5 pulses, 00:30, 5 more, 01:00: 6.250 Wh stay in the total over the boundary, so that the values are 0 and 1
    ∷ record {
      given = value_of (run (fine 0 0 0 1250) (Count 5 ∷ Clock 1800 ∷ Count 10 ∷ Clock 3600 ∷ [])) 0 0
          ∷ value_of (run (fine 0 0 0 1250) (Count 5 ∷ Clock 1800 ∷ Count 10 ∷ Clock 3600 ∷ [])) 0 1
          ∷ total (run (fine 0 0 0 1250) (Count 5 ∷ Clock 1800 ∷ Count 10 ∷ Clock 3600 ∷ [])) ∷ [];
      due = 0 ∷ 1 ∷ 12500 ∷ [];
    }
    -- total 999,999,998.750 Wh, one pulse: total 0, reading 99999999 to 00000000, advance 1
    ∷ record {
      given = reading (fine 0 999999998750 0 1250) ∷ total (next (fine 0 999999998750 0 1250) (Count 1)) ∷ reading (next (fine 0 999999998750 0 1250) (Count 1))
          ∷ advanced (run (fine 0 999999998750 0 1250) (Count 1 ∷ Clock 1800 ∷ [])) 0 1 ∷ [];
      due = 99999999 ∷ 0 ∷ 0 ∷ 1 ∷ [];
    }
    -- 799 / 800 pulses: kWh register and that of rate 1 000000 / 000001
    ∷ record { given = registers (next (fine 0 0 0 1250) (Count 799)) ++ registers (next (fine 0 0 0 1250) (Count 800)); due = 0 ∷ 0 ∷ 1 ∷ 1 ∷ [] }
    -- the least weight, 0.001 Wh, total 9.999 Wh: 99,990,000 pulses, reading 9,999; one more: 3
    ∷ record {
      given = answer_of (fine 0 9999 0 1) (Count 99990000) ∷ reading (next (fine 0 9999 0 1) (Count 99990000)) ∷ answer_of (fine 0 9999 0 1) (Count 99990001) ∷ [];
      due = 0 ∷ 9999 ∷ 3 ∷ [];
    }
    -- the greatest, 100 Wh: 999 pulses, 9,990 units; 1,000, and as many as there can be: 3
    ∷ record {
      given = answer_of (fine 0 0 0 100000) (Count 999) ∷ reading (next (fine 0 0 0 100000) (Count 999)) ∷ answer_of (fine 0 0 0 100000) (Count 1000)
          ∷ answer_of (fine 0 0 0 100000) (Count 4294967295) ∷ [];
      due = 0 ∷ 9990 ∷ 3 ∷ 3 ∷ [];
    }
    -- the ends of demand 3's bound. From 0, one pulse of 9.999 Wh: advance 0, 9.999 Wh short; from 9.999 Wh, one of 0.001 Wh: advance 1, 9.999 Wh over
    ∷ record {
      given = advanced (run (fine 0 0 0 9999) (Count 1 ∷ Clock 1800 ∷ [])) 0 1 ∷ total (next (fine 0 0 0 9999) (Count 1))
          ∷ advanced (run (fine 0 9999 0 1) (Count 1 ∷ Clock 1800 ∷ [])) 0 1 ∷ total (next (fine 0 9999 0 1) (Count 1)) ∷ [];
      due = 0 ∷ 9999 ∷ 1 ∷ 10000 ∷ [];
    }
    -- Meter and Reset flag the day 0x40 and 0x20
    ∷ record { given = flags_word (next (meter 0 0 0 1) (Meter 7)) 0 ∷ flags_word (next (meter 0 0 0 1) Reset) 0 ∷ []; due = 64 ∷ 32 ∷ [] }
    -- Reverse in the first half-hour, Access in the second, the third passed over: of three marks each word has the latest in its lowest bit (docs/STORE.md)
    ∷ record {
      given = reverse_word (run (meter 0 0 0 1) (Reverse ∷ Clock 1800 ∷ Access ∷ Clock 5400 ∷ [])) 0
          ∷ level2_word (run (meter 0 0 0 1) (Reverse ∷ Clock 1800 ∷ Access ∷ Clock 5400 ∷ [])) 0 ∷ [];
      due = 4 ∷ 2 ∷ [];
    }
    -- while on, On is 1; while off, any other
    ∷ record { given = answers (meter 0 0 0 1) kinds; due = 0 ∷ 0 ∷ 0 ∷ 1 ∷ 0 ∷ 0 ∷ 0 ∷ 0 ∷ 0 ∷ 0 ∷ 0 ∷ [] }
    ∷ record { given = answers (next (meter 0 0 0 1) Off) kinds; due = 1 ∷ 1 ∷ 1 ∷ 0 ∷ 1 ∷ 1 ∷ 1 ∷ 1 ∷ 1 ∷ 1 ∷ 1 ∷ [] }
    -- rates 0 to 9
    ∷ record {
      given = answers (meter 0 0 0 1) (map Rate (0 ∷ 1 ∷ 2 ∷ 3 ∷ 4 ∷ 5 ∷ 6 ∷ 7 ∷ 8 ∷ 9 ∷ []));
      due = 6 ∷ 0 ∷ 0 ∷ 0 ∷ 0 ∷ 0 ∷ 0 ∷ 0 ∷ 0 ∷ 6 ∷ [];
    }
    -- Ppp with the characters / 0 9 : @ A Z [ ` a z { at each of its places
    ∷ record { given = answers (meter 0 0 0 1) ppp_first; due = 6 ∷ 0 ∷ 0 ∷ 6 ∷ 6 ∷ 0 ∷ 0 ∷ 6 ∷ 6 ∷ 0 ∷ 0 ∷ 6 ∷ [] }
    ∷ record { given = answers (meter 0 0 0 1) ppp_second; due = 6 ∷ 0 ∷ 0 ∷ 6 ∷ 6 ∷ 0 ∷ 0 ∷ 6 ∷ 6 ∷ 0 ∷ 0 ∷ 6 ∷ [] }
    ∷ record { given = answers (meter 0 0 0 1) ppp_third; due = 6 ∷ 0 ∷ 0 ∷ 6 ∷ 6 ∷ 0 ∷ 0 ∷ 6 ∷ 6 ∷ 0 ∷ 0 ∷ 6 ∷ [] }
    -- Ppp Z9z: Z9zX24000017; then refused for its third character, its second, its first: the same
    ∷ record { given = identifier (run (meter 0 0 0 1) (Ppp 90 57 122 ∷ [])); due = 90 ∷ 57 ∷ 122 ∷ 88 ∷ 50 ∷ 52 ∷ 48 ∷ 48 ∷ 48 ∷ 48 ∷ 49 ∷ 55 ∷ [] }
    ∷ record {
      given = identifier (run (meter 0 0 0 1) (Ppp 90 57 122 ∷ Ppp 97 98 45 ∷ Ppp 97 45 99 ∷ Ppp 45 98 99 ∷ []));
      due = 90 ∷ 57 ∷ 122 ∷ 88 ∷ 50 ∷ 52 ∷ 48 ∷ 48 ∷ 48 ∷ 48 ∷ 49 ∷ 55 ∷ [];
    }
    -- Ppp in the first half-hour marks Level 2 in it, also where that PPP stood already; no reverse mark, no flag, no reset
    ∷ record { given = marked (Ppp 90 57 122); due = 1 ∷ 0 ∷ 0 ∷ 0 ∷ 0 ∷ [] }
    ∷ record { given = marked (Ppp 65 66 67); due = 1 ∷ 0 ∷ 0 ∷ 0 ∷ 0 ∷ [] }
    -- Clock to the last second of 2099 and to the next
    ∷ record { given = answers (meter 5 0 0 1) (Clock 3155759999 ∷ Clock 3155760000 ∷ []); due = 0 ∷ 2 ∷ [] }
    -- while off at second 5, On to the same second, to the last of 2099 and to the next
    ∷ record { given = answers (next (meter 5 0 0 1) Off) (On 5 ∷ On 3155759999 ∷ On 3155760000 ∷ []); due = 0 ∷ 0 ∷ 2 ∷ [] }
    -- while off at second 5, 1 before 6, 2 and 3; and On to an earlier second, 2
    ∷ record { given = answers (next (meter 5 0 0 1) Off) (Rate 9 ∷ Ppp 97 45 99 ∷ Clock 4 ∷ Count 1000000 ∷ On 4 ∷ []); due = 1 ∷ 1 ∷ 1 ∷ 1 ∷ 2 ∷ [] }
    -- classes a, b, c, d: the complete days held, and with the current day the days in all
    ∷ record { given = map complete_days (A ∷ B ∷ C ∷ D ∷ []); due = 20 ∷ 100 ∷ 250 ∷ 450 ∷ [] }
    ∷ record { given = map days_of (A ∷ B ∷ C ∷ D ∷ []); due = 21 ∷ 101 ∷ 251 ∷ 451 ∷ [] }
    -- and the store's lengths, of each day 48 values, a start and 3 words of marks
    ∷ record {
      given = begins ident A 1 0 0 (lent 1008 21 63) ∷ begins ident B 1 0 0 (lent 4848 101 303) ∷ begins ident C 1 0 0 (lent 12048 251 753)
          ∷ begins ident D 1 0 0 (lent 21648 451 1353) ∷ [];
      due = 0 ∷ 0 ∷ 0 ∷ 0 ∷ [];
    }
    -- with no room for the current day
    ∷ record {
      given = begins ident A 1 0 0 (lent 960 20 60) ∷ begins ident B 1 0 0 (lent 4800 100 300) ∷ begins ident C 1 0 0 (lent 12000 250 750)
          ∷ begins ident D 1 0 0 (lent 21600 450 1350) ∷ [];
      due = replicate 4 4;
    }
    -- one less and one more of each
    ∷ record {
      given = map (begins ident A 1 0 0) (lent 1007 21 63 ∷ lent 1009 21 63 ∷ lent 1008 20 63 ∷ lent 1008 22 63 ∷ lent 1008 21 62 ∷ lent 1008 21 64 ∷ []);
      due = replicate 6 4;
    }
    -- the characters / 0 9 : @ A Z [ ` a z { at each place of the identifier: PPP, from A-Z, a-z and 0-9
    ∷ record { given = ends_at 0; due = 6 ∷ 0 ∷ 0 ∷ 6 ∷ 6 ∷ 0 ∷ 0 ∷ 6 ∷ 6 ∷ 0 ∷ 0 ∷ 6 ∷ [] }
    ∷ record { given = ends_at 1; due = 6 ∷ 0 ∷ 0 ∷ 6 ∷ 6 ∷ 0 ∷ 0 ∷ 6 ∷ 6 ∷ 0 ∷ 0 ∷ 6 ∷ [] }
    ∷ record { given = ends_at 2; due = 6 ∷ 0 ∷ 0 ∷ 6 ∷ 6 ∷ 0 ∷ 0 ∷ 6 ∷ 6 ∷ 0 ∷ 0 ∷ 6 ∷ [] }
    -- M, from A-Z
    ∷ record { given = ends_at 3; due = 6 ∷ 6 ∷ 6 ∷ 6 ∷ 6 ∷ 0 ∷ 0 ∷ 6 ∷ 6 ∷ 6 ∷ 6 ∷ 6 ∷ [] }
    -- YY, digits
    ∷ record { given = ends_at 4; due = 6 ∷ 0 ∷ 0 ∷ 6 ∷ 6 ∷ 6 ∷ 6 ∷ 6 ∷ 6 ∷ 6 ∷ 6 ∷ 6 ∷ [] }
    ∷ record { given = ends_at 5; due = 6 ∷ 0 ∷ 0 ∷ 6 ∷ 6 ∷ 6 ∷ 6 ∷ 6 ∷ 6 ∷ 6 ∷ 6 ∷ 6 ∷ [] }
    -- XXXXXX, from A-Z and 0-9
    ∷ record { given = ends_at 6; due = 6 ∷ 0 ∷ 0 ∷ 6 ∷ 6 ∷ 0 ∷ 0 ∷ 6 ∷ 6 ∷ 6 ∷ 6 ∷ 6 ∷ [] }
    ∷ record { given = ends_at 7; due = 6 ∷ 0 ∷ 0 ∷ 6 ∷ 6 ∷ 0 ∷ 0 ∷ 6 ∷ 6 ∷ 6 ∷ 6 ∷ 6 ∷ [] }
    ∷ record { given = ends_at 8; due = 6 ∷ 0 ∷ 0 ∷ 6 ∷ 6 ∷ 0 ∷ 0 ∷ 6 ∷ 6 ∷ 6 ∷ 6 ∷ 6 ∷ [] }
    ∷ record { given = ends_at 9; due = 6 ∷ 0 ∷ 0 ∷ 6 ∷ 6 ∷ 0 ∷ 0 ∷ 6 ∷ 6 ∷ 6 ∷ 6 ∷ 6 ∷ [] }
    ∷ record { given = ends_at 10; due = 6 ∷ 0 ∷ 0 ∷ 6 ∷ 6 ∷ 0 ∷ 0 ∷ 6 ∷ 6 ∷ 6 ∷ 6 ∷ 6 ∷ [] }
    ∷ record { given = ends_at 11; due = 6 ∷ 0 ∷ 0 ∷ 6 ∷ 6 ∷ 0 ∷ 0 ∷ 6 ∷ 6 ∷ 6 ∷ 6 ∷ 6 ∷ [] }
    -- set-up values at their ends: weight 0, 1, 100,000, 100,001
    ∷ record { given = begins ident A 0 0 0 full ∷ begins ident A 1 0 0 full ∷ begins ident A 100000 0 0 full ∷ begins ident A 100001 0 0 full ∷ []; due = 6 ∷ 0 ∷ 0 ∷ 6 ∷ [] }
    -- start time: the last second of 2099 and the next
    ∷ record { given = begins ident A 1 3155759999 0 full ∷ begins ident A 1 3155760000 0 full ∷ []; due = 0 ∷ 6 ∷ [] }
    -- start total 999,999,999,999 and 1,000,000,000,000
    ∷ record { given = begins ident A 1 0 999999999999 full ∷ begins ident A 1 0 1000000000000 full ∷ []; due = 0 ∷ 6 ∷ [] }
    -- a small letter as M; no real class, with the store of no days
    ∷ record { given = begins small A 1 0 0 full ∷ begins ident Blank 1 0 0 (lent 0 0 0) ∷ []; due = 6 ∷ 6 ∷ [] }
    -- set-up, 6 before 4: each of these with a store of another length; and with that alone
    ∷ record {
      given = begins small A 1 0 0 short ∷ begins ident Blank 1 0 0 short ∷ begins ident A 0 0 0 short ∷ begins ident A 100001 0 0 short
          ∷ begins ident A 1 3155760000 0 short ∷ begins ident A 1 0 1000000000000 short ∷ begins ident A 1 0 0 short ∷ [];
      due = 6 ∷ 6 ∷ 6 ∷ 6 ∷ 6 ∷ 6 ∷ 4 ∷ [];
    }
    -- a recorder's fields at the ends of their ranges, and past them. A small letter as M; weight 0, 1, 100,000, 100,001
    ∷ record { given = named small 1 ∷ named ident 0 ∷ named ident 1 ∷ named ident 100000 ∷ named ident 100001 ∷ []; due = 5 ∷ 5 ∷ 0 ∷ 0 ∷ 5 ∷ [] }
    -- time: the last second of 2099 and the next
    ∷ record { given = timed 3155759999 1 ∷ timed 3155760000 1 ∷ []; due = 0 ∷ 5 ∷ [] }
    -- days stored, on 2000-01-22: 0, 1, 21, 22; and 2 in the last second of 2000-01-01, in the next
    ∷ record { given = timed 1814400 0 ∷ timed 1814400 1 ∷ timed 1814400 21 ∷ timed 1814400 22 ∷ timed 86399 2 ∷ timed 86400 2 ∷ []; due = 5 ∷ 0 ∷ 0 ∷ 5 ∷ 5 ∷ 0 ∷ [] }
    -- total 999,999,999,999 and 1,000,000,000,000; active rate 0, 1, 8, 9
    ∷ record {
      given = measured 999999999999 1 0 0 ∷ measured 1000000000000 1 0 0 ∷ measured 0 0 0 0 ∷ measured 0 1 0 0 ∷ measured 0 8 0 0 ∷ measured 0 9 0 0 ∷ [];
      due = 0 ∷ 5 ∷ 5 ∷ 0 ∷ 0 ∷ 5 ∷ [];
    }
    -- each of the eight rate registers 999,999,999,999; and 1,000,000,000,000
    ∷ record { given = map (λ (place : ℕ). measured 0 1 place 999999999999) (0 ∷ 1 ∷ 2 ∷ 3 ∷ 4 ∷ 5 ∷ 6 ∷ 7 ∷ []); due = replicate 8 0 }
    ∷ record { given = map (λ (place : ℕ). measured 0 1 place 1000000000000) (0 ∷ 1 ∷ 2 ∷ 3 ∷ 4 ∷ 5 ∷ 6 ∷ 7 ∷ []); due = replicate 8 5 }
    -- current, previous and cumulative demand 999,999, reset date 2099-12-31, reset count 99; and one more of each by itself
    ∷ record {
      given = demanded 999999 999999 999999 36525 99 ∷ demanded 1000000 0 0 0 0 ∷ demanded 0 1000000 0 0 0 ∷ demanded 0 0 1000000 0 0
          ∷ demanded 0 0 0 36526 0 ∷ demanded 0 0 0 0 100 ∷ [];
      due = 0 ∷ 5 ∷ 5 ∷ 5 ∷ 5 ∷ 5 ∷ [];
    }
    -- reading at the running half-hour's start 99,999,999 and 100,000,000
    ∷ record { given = based 99999999 ∷ based 100000000 ∷ []; due = 0 ∷ 5 ∷ [] }
    -- each kind of event. No real class, 5 before 4: the blank recorder with a store of class a, of no class, of no days
    ∷ record { given = answers (record { recorder = blank; store = full }) kinds; due = replicate 11 5 }
    ∷ record { given = answers (record { recorder = blank; store = short }) kinds; due = replicate 11 5 }
    ∷ record { given = answers (record { recorder = blank; store = lent 0 0 0 }) kinds; due = replicate 11 5 }
    -- 4 before 5: a store of another length, and a field out of range too
    ∷ record { given = answers (beside (meter 0 0 0 1) short) kinds; due = replicate 11 4 }
    ∷ record { given = answers (beside (out_of_range (meter 0 0 0 1)) short) kinds; due = replicate 11 4 }
    -- 5 before 1: a field out of range, while on, where On would be 1, and while off, where any other would
    ∷ record { given = answers (out_of_range (meter 0 0 0 1)) kinds; due = replicate 11 5 }
    ∷ record { given = answers (out_of_range (next (meter 0 0 0 1) Off)) kinds; due = replicate 11 5 }
    ∷ []
