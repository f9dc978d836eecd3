-- Lives with switching tables (docs/TARIFF.md, "In the outstation") and of both phase kinds (docs/RULES.md, "Phases"), and the order of the answers to set-up, events and loads (docs/ANSWERS.md), by inputs that two checks refuse. For each what the
-- definitions give, and what is due.
use Rattle.std.specs.Prelude.{ℕ, ◌-◌, true, false, List, [], ◌∷◌, ◌++◌, map, replicate}
use Rattle.laws.specs.Bits.{bit}
use Rattle.quantity.specs.declared.MilliwattHours.{MilliwattHours}
use Rattle.quantity.specs.Units.{watt_hours}
use Rattle.registers.specs.declared.Shift.TheVariants.{Ahead, Back}
use Rattle.store.specs.declared.Class.{Class}
use Rattle.store.specs.declared.Class.TheVariants.{A, Blank}
use Rattle.store.specs.Store.{Store}
use Rattle.recorder.specs.declared.Event.TheVariants.{Count, Clock, Off, On, Access, Rate, Adjust}
use Rattle.recorder.specs.Recorder.{Mem}
use Rattle.recorder.specs.SetUp.{given, blank}
use Rattle.recorder.specs.Stored.{flags_word}
use Rattle.tariff.specs.Table.{table_size}
use Rattle.tables.specs.Cases.{at, else, saved, least, worked}
use Rattle.outstation.specs.declared.Phase.TheVariants.{Single, Poly}
use Rattle.outstation.specs.Outstation.{Site, Done, Happening, of, load, single, answer_of, happens, run}
use Rattle.outstation.specs.SetUp.{set_up_site}
use Rattle.cases.specs.Cases.{Case, ident, full, short, meter, next, out_of_range, beside, kinds}

-- ---- tables: default 7, from 00:00 rate 7; two defaults; rate 9; zeros; a byte short, a byte long

abbrev pub seven : List ℕ
seven = saved (at 7 0 0 7 ++ else 7)

abbrev pub clashing : List ℕ
clashing = saved (least ++ else 1)

abbrev pub wrong : List ℕ
wrong = saved (at 1 0 0 9 ++ else 1)

abbrev pub zeros : List ℕ
zeros = saved []

abbrev pub cut : List ℕ
cut = least ++ replicate (table_size - 11) 0

abbrev pub long : List ℕ
long = least ++ replicate (table_size - 9) 0

-- ---- outstations

-- set-up of a class with a store and a room; class a and a store of its own, at a second
abbrev pub begun : Class → ℕ → Store → List ℕ → Done
begun class time x b = set_up_site (given ident class (watt_hours 1) time (watt_hours 0) 0) Poly x b

abbrev pub fresh : ℕ → Site
fresh time = (begun A time full zeros).after

-- a recorder with its store, and this table loaded: polyphase, and single phase
abbrev pub loaded : Mem → List ℕ → Site
loaded x b = record { mem = x; loaded = true; phase = Poly; table = b }

abbrev pub loaded_single : Mem → List ℕ → Site
loaded_single x b = record { mem = x; loaded = true; phase = Single; table = b }

abbrev pub rate : Site → ℕ
rate x = x.mem.recorder.energy.rate

abbrev pub registers : Site → List ℕ
registers x = map (λ (m : MilliwattHours). m.0) x.mem.recorder.energy.rates

-- marks of the running half-hour, and flags of the first day
abbrev pub marked : Site → List ℕ
marked x = bit x.mem.recorder.running.level2 ∷ bit x.mem.recorder.running.reverse ∷ flags_word x.mem 0 ∷ []

-- of what happens, one thing after another, each answer and the active rate after it
unfoldable pub told : Site → List Happening → List ℕ
told x [] = []
told x (h ∷ hs) = let d = happens x h in d.answer ∷ rate d.after ∷ told d.after hs

-- the answer that one outstation gives to each
abbrev pub answers : Site → List Happening → List ℕ
answers x hs = map (answer_of x) hs

-- an event of each kind, the eighth Rate 1; loads to be taken, with a clash, with a value out of range; and these with Rates, for 6, 14 and 15
abbrev pub events : List Happening
events = map of kinds

abbrev pub loads : List Happening
loads = load worked ∷ load clashing ∷ load wrong ∷ []

abbrev pub refusable : List Happening
refusable = loads ++ (of (Rate 1) ∷ of (Rate 9) ∷ [])

-- ---- lives

-- 2024-02-28 06:59:00, a Wednesday: Rate 5, 10 Wh, Rate 2; the load; Rate 9, 2 and 1 refused; 3 Wh; 06:59:59, 07:00:00, 7 Wh
abbrev pub wednesday : Site
wednesday = fresh 762418740

abbrev pub morning : List Happening
morning =
    of (Rate 5) ∷ of (Count 10) ∷ of (Rate 2) ∷ load worked ∷ of (Rate 9) ∷ of (Rate 2) ∷ of (Rate 1) ∷ of (Count 13)
    ∷ of (Clock 762418799) ∷ of (Clock 762418800) ∷ of (Count 20) ∷ []

-- 2024-03-01 23:50:00, a Friday: power lost; a load and Rates while it is; Saturday 00:10:00; another table; loads refused with 14 and 6
abbrev pub friday : Site
friday = loaded (meter 762652200 0 0 1) worked

abbrev pub night : List Happening
night = of Off ∷ load seven ∷ of (Rate 9) ∷ of (Rate 1) ∷ of (On 762653400) ∷ load seven ∷ load clashing ∷ load wrong ∷ []

abbrev pub lives : List Case
lives =
    record { given = told wednesday morning; due = 0 ∷ 5 ∷ 0 ∷ 5 ∷ 0 ∷ 2 ∷ 0 ∷ 1 ∷ 6 ∷ 1 ∷ 15 ∷ 1 ∷ 15 ∷ 1 ∷ 0 ∷ 1 ∷ 0 ∷ 1 ∷ 0 ∷ 2 ∷ 0 ∷ 2 ∷ [] }
    -- 3, 7 and 10 Wh in the registers of rates 1, 2 and 5
    ∷ record { given = registers (run wednesday morning); due = 3000 ∷ 7000 ∷ 0 ∷ 0 ∷ 10000 ∷ 0 ∷ 0 ∷ 0 ∷ [] }
    ∷ record { given = told friday night; due = 0 ∷ 1 ∷ 1 ∷ 1 ∷ 1 ∷ 1 ∷ 1 ∷ 1 ∷ 0 ∷ 3 ∷ 0 ∷ 7 ∷ 14 ∷ 7 ∷ 6 ∷ 7 ∷ [] }
    -- the room has the last table that was taken
    ∷ record { given = (run friday night).table; due = seven }
    ∷ []

abbrev pub rooms : List Case
rooms =
    -- a load marks and flags nothing, where Access marks
    record { given = marked (run (fresh 0) (load worked ∷ [])) ++ marked (run (fresh 0) (of Access ∷ [])); due = 0 ∷ 0 ∷ 0 ∷ 1 ∷ 0 ∷ 0 ∷ [] }
    -- loaded at 11:59:59 on 25 December 2027; the next second
    ∷ record { given = told (fresh 883051199) (load worked ∷ of (Clock 883051200) ∷ []); due = 0 ∷ 4 ∷ 0 ∷ 1 ∷ [] }
    -- a room that names no rate, of zeros and with rate 9: the clock goes on, and the rate stays
    ∷ record { given = told (loaded (meter 0 0 0 1) zeros) (of (Clock 1) ∷ []) ++ told (loaded (meter 0 0 0 1) wrong) (of (Clock 1) ∷ []); due = 0 ∷ 1 ∷ 0 ∷ 1 ∷ [] }
    -- set-up over a table: none loaded, rate 1, a room of zeros
    ∷ record { given = let x = (begun A 0 full worked).after in bit x.loaded ∷ rate x ∷ x.table; due = 0 ∷ 1 ∷ zeros }
    ∷ []

-- ---- adjustments over a switching time

-- 07:15:00, and a table with rate 1 from 00:00 and rate 2 from 07:10: back to 07:09:59 and on again; -901; back to 07:00:00, a second more, zero
abbrev pub ten : List ℕ
ten = saved (at 1 0 0 1 ++ at 1 7 10 2 ++ else 1)

abbrev pub minutes : List Happening
minutes =
    load ten ∷ of (Adjust (Back 301)) ∷ of (Adjust (Ahead 301)) ∷ of (Adjust (Back 901)) ∷ of (Adjust (Back 900)) ∷ of (Adjust (Back 1)) ∷ of (Adjust (Ahead 0)) ∷ []

abbrev pub adjustments : List Case
adjustments = record { given = told (fresh 26100) minutes; due = 0 ∷ 2 ∷ 0 ∷ 1 ∷ 0 ∷ 2 ∷ 6 ∷ 2 ∷ 0 ∷ 1 ∷ 13 ∷ 1 ∷ 0 ∷ 1 ∷ [] } ∷ []

-- ---- the order of the answers

abbrev pub order : List Case
order =
    -- none loaded: while on, On is 1; a table is judged
    record { given = answers (fresh 0) (events ++ loads); due = 0 ∷ 0 ∷ 0 ∷ 1 ∷ 0 ∷ 0 ∷ 0 ∷ 0 ∷ 0 ∷ 0 ∷ 0 ∷ 0 ∷ 14 ∷ 6 ∷ [] }
    -- a table of 439 or 441 bytes; none at all
    ∷ record { given = answers (fresh 0) (load cut ∷ load long ∷ load [] ∷ []); due = 6 ∷ 6 ∷ 6 ∷ [] }
    -- one loaded: Rate is 15, and 6 before 15
    ∷ record { given = answers (loaded (meter 0 0 0 1) seven) (events ++ loads); due = 0 ∷ 0 ∷ 0 ∷ 1 ∷ 0 ∷ 0 ∷ 0 ∷ 15 ∷ 0 ∷ 0 ∷ 0 ∷ 0 ∷ 14 ∷ 6 ∷ [] }
    ∷ record { given = answers (loaded (meter 0 0 0 1) seven) (of (Rate 0) ∷ of (Rate 8) ∷ of (Rate 9) ∷ []); due = 6 ∷ 15 ∷ 6 ∷ [] }
    -- while off, 1 before 6, 14 and 15
    ∷ record { given = answers (loaded (next (meter 0 0 0 1) Off) seven) refusable; due = replicate 5 1 }
    -- a field out of range, 5 before 1, 6, 14 and 15: while on, and while off
    ∷ record { given = answers (loaded (out_of_range (meter 0 0 0 1)) seven) (refusable ++ events); due = replicate 16 5 }
    ∷ record { given = answers (loaded (out_of_range (next (meter 0 0 0 1) Off)) seven) refusable; due = replicate 5 5 }
    -- 4 before 5: a store of another length; a room of another length
    ∷ record { given = answers (loaded (beside (out_of_range (meter 0 0 0 1)) short) seven) (refusable ++ events); due = replicate 16 4 }
    ∷ record { given = answers (loaded (out_of_range (meter 0 0 0 1)) cut) (refusable ++ events); due = replicate 16 4 }
    -- no real class, 5 before 4: with a room of another length, and with a room and a store of their own
    ∷ record { given = answers (loaded (record { recorder = blank; store = short }) cut) (refusable ++ events); due = replicate 16 5 }
    ∷ record { given = answers (loaded (record { recorder = blank; store = full }) seven) (refusable ++ events); due = replicate 16 5 }
    -- set-up: a room of 439, 440 and 441 bytes, a store of another length; and 6 before 4
    ∷ record { given = (begun A 0 full cut).answer ∷ (begun A 0 full seven).answer ∷ (begun A 0 full long).answer ∷ (begun A 0 short seven).answer ∷ []; due = 4 ∷ 0 ∷ 4 ∷ 4 ∷ [] }
    ∷ record { given = (begun Blank 0 full cut).answer ∷ (begun Blank 0 short seven).answer ∷ (begun Blank 0 short []).answer ∷ []; due = 6 ∷ 6 ∷ 6 ∷ [] }
    ∷ []

-- ---- phase kinds

-- of single phase from set-up on
abbrev pub alone : ℕ → Site
alone time = (set_up_site (given ident A (watt_hours 1) time (watt_hours 0) 0) Single full zeros).after

abbrev pub rates : List ℕ → List Happening
rates ns = map (λ (n : ℕ). of (Rate n)) ns

-- the least table and a day type 2 that is not used: from 00:00 rate 4, rate 5; and with two defaults
abbrev pub fourth : List ℕ
fourth = saved (least ++ at 2 0 0 4)

abbrev pub fifth : List ℕ
fifth = saved (least ++ at 2 0 0 5)

abbrev pub fifth_clashing : List ℕ
fifth_clashing = saved (least ++ at 2 0 0 5 ++ else 1)

-- a recorder with rate 5 active
abbrev pub fifth_active : Mem
fifth_active = next (meter 0 0 0 1) (Rate 5)

-- rate 7, 50 Wh; single phase; 10 Wh more
abbrev pub conversion : List Happening
conversion = of (Rate 7) ∷ of (Count 50) ∷ single ∷ of (Count 60) ∷ []

-- Wednesday 06:59:00: a table of rate 7 refuses it; one of rates 1 to 4 does not, and then the first is refused, and Rates 5 and 3
abbrev pub mended : List Happening
mended = load seven ∷ single ∷ load worked ∷ single ∷ load seven ∷ of (Rate 5) ∷ of (Rate 3) ∷ []

abbrev pub phases : List Case
phases =
    record { given = answers (alone 0) (rates (4 ∷ 5 ∷ 8 ∷ 9 ∷ 0 ∷ [])) ++ answers (fresh 0) (rates (8 ∷ [])); due = 0 ∷ 6 ∷ 6 ∷ 6 ∷ 6 ∷ 0 ∷ [] }
    ∷ record { given = told (fresh 0) conversion; due = 0 ∷ 7 ∷ 0 ∷ 7 ∷ 0 ∷ 1 ∷ 0 ∷ 1 ∷ [] }
    -- nothing moved between the registers, and the total is all of them
    ∷ record { given = registers (run (fresh 0) conversion); due = 10000 ∷ 0 ∷ 0 ∷ 0 ∷ 0 ∷ 0 ∷ 50000 ∷ 0 ∷ [] }
    ∷ record { given = (run (fresh 0) conversion).mem.recorder.energy.total.0 ∷ []; due = 60000 ∷ [] }
    -- from each active rate
    ∷ record { given = map (λ (n : ℕ). rate (run (fresh 0) (of (Rate n) ∷ single ∷ []))) (1 ∷ 2 ∷ 3 ∷ 4 ∷ 5 ∷ 6 ∷ 7 ∷ 8 ∷ []); due = 1 ∷ 2 ∷ 3 ∷ 4 ∷ 1 ∷ 1 ∷ 1 ∷ 1 ∷ [] }
    -- it marks and flags nothing; twice is as once; while off it is 1
    ∷ record { given = marked (run (fresh 0) (single ∷ [])) ++ told (fresh 0) (single ∷ single ∷ of Off ∷ single ∷ []); due = 0 ∷ 0 ∷ 0 ∷ 0 ∷ 1 ∷ 0 ∷ 1 ∷ 0 ∷ 1 ∷ 1 ∷ 1 ∷ [] }
    ∷ []

abbrev pub phases_loaded : List Case
phases_loaded =
    record { given = told (fresh 762418740) mended; due = 0 ∷ 7 ∷ 6 ∷ 7 ∷ 0 ∷ 1 ∷ 0 ∷ 1 ∷ 6 ∷ 1 ∷ 6 ∷ 1 ∷ 15 ∷ 1 ∷ [] }
    -- a table's rate above the fourth, also of a day type that is not used: 6, and before 14
    ∷ record { given = answers (alone 0) (load fourth ∷ load fifth ∷ load fifth_clashing ∷ load clashing ∷ []) ++ answers (fresh 0) (load fifth ∷ load fifth_clashing ∷ []); due = 0 ∷ 6 ∷ 6 ∷ 14 ∷ 0 ∷ 14 ∷ [] }
    -- loaded, it refuses single phase; in a room of which nothing is loaded it does not, nor does a damaged byte that names no rate
    ∷ record {
      given =
          map (λ (x : Site). answer_of x single)
          (loaded (meter 0 0 0 1) fifth ∷ record { mem = meter 0 0 0 1; loaded = false; phase = Poly; table = fifth } ∷ loaded (meter 0 0 0 1) wrong ∷ []);
      due = 6 ∷ 0 ∷ 0 ∷ [];
    }
    -- a room of single phase that names rate 7: the clock goes on, and the rate stays
    ∷ record { given = told (loaded_single (meter 0 0 0 1) seven) (of (Clock 1) ∷ single ∷ []); due = 0 ∷ 1 ∷ 6 ∷ 1 ∷ [] }
    -- rate 5 active on single phase: 5 before 1 and 6, after 4; on polyphase it is no fault
    ∷ record { given = answers (loaded_single fifth_active seven) (single ∷ refusable ++ events); due = replicate 17 5 }
    ∷ record { given = answers (loaded_single (next fifth_active Off) seven) (single ∷ refusable); due = replicate 6 5 }
    ∷ record { given = answers (loaded_single (beside fifth_active short) seven) (single ∷ refusable ++ events); due = replicate 17 4 }
    ∷ record { given = answers (loaded_single fifth_active cut) (single ∷ refusable ++ events); due = replicate 17 4 }
    ∷ record { given = answers (loaded fifth_active seven) (of Access ∷ single ∷ []); due = 0 ∷ 6 ∷ [] }
    -- the order of its answers: 5 without a class, 4, 5, 1, 6
    ∷ record {
      given =
          map (λ (x : Site). answer_of x single)
          (loaded (record { recorder = blank; store = short }) cut ∷ loaded (beside (out_of_range (meter 0 0 0 1)) short) seven ∷ loaded (out_of_range (meter 0 0 0 1)) cut
          ∷ loaded (out_of_range (next (meter 0 0 0 1) Off)) seven ∷ loaded (next (meter 0 0 0 1) Off) seven ∷ []);
      due = 5 ∷ 4 ∷ 4 ∷ 5 ∷ 1 ∷ [];
    }
    ∷ []
