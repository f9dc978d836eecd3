-- A block's bytes written out, and what a reader makes of them (docs/RULES.md, "The block"): the outputs of two reads, byte by byte; blocks that are consistent, and others that
-- are so but for one thing; and the most days of a block and of a ledger. Each number is that of docs/RULES.md, none is taken from the definitions.
use Rattle.std.specs.Prelude.{ℕ, zero, suc, ◌+◌, true, List, [], ◌∷◌, ◌++◌, map, replicate, set, take, drop}
use Rattle.std.proofs.lemmas.List.Edits.{sets}
use Rattle.quantity.specs.Units.{watt_hours, centi_kilowatts, units}
use Rattle.registers.specs.Energy.{energy_from, running_from}
use Rattle.registers.specs.Demand.{no_demand}
use Rattle.store.specs.declared.Class.TheVariants.{A}
use Rattle.store.specs.Store.{store}
use Rattle.block.specs.Layout.{most_days}
use Rattle.ledger.specs.Judged.{longest_window}
use Rattle.recorder.specs.Recorder.{Mem}
use Rattle.cases.specs.Cases.{Case, ident, full}
use Rattle.readout.specs.Read.{read_of}
use Rattle.orders.specs.Orders.{told, parses}

-- digits as characters: 0 is 48, 9 is 57
abbrev pub figures : List ℕ → List ℕ
figures ds = map (λ (d : ℕ). 48 + d) ds

-- some digits so many times
abbrev pub copies : ℕ → List ℕ → List ℕ
copies zero ds = []
copies (suc n) ds = ds ++ copies n ds

-- what a read of so many days leaves in an output of so many bytes, each of them 255 before
abbrev pub output : Mem → ℕ → ℕ → List ℕ
output x asked bytes = (read_of asked x (replicate bytes 255)).out

-- ---- a header

-- at 2001-02-03 04:05:06, which is day 366 + 31 + 2 = 399, second 399 * 86,400 + 4 * 3,600 + 5 * 60 + 6. Each register has a number of its own, none whole kWh. The last reset was
-- on 2000-02-29, day 31 + 28 = 59, stored as 60
abbrev pub various : Mem
various =
    record {
      recorder = record {
        identity = record { identifier = ident; class = A; weight = watt_hours 10 };
        clock = record { time = 34488306; on = true; days = 1 };
        energy = record {
          total = watt_hours 123456789;
          last = 5;
          rate = 4;
          rates =
              watt_hours 101202999 ∷ watt_hours 202303998 ∷ watt_hours 303404997 ∷ watt_hours 404505996
              ∷ watt_hours 505606995 ∷ watt_hours 606707994 ∷ watt_hours 707808993 ∷ watt_hours 808909992 ∷ [];
        };
        demand = record { current = centi_kilowatts 1234; previous = centi_kilowatts 56789; cumulative = centi_kilowatts 987654; reset = 60; count = 7 };
        running = running_from (units 12345678);
      };
      store = full;
    }

-- its 112 bytes
abbrev pub header : List ℕ
header =
    -- length 00 00 00 6C, version 1
    (0 ∷ 0 ∷ 0 ∷ 108 ∷ 1 ∷ [])
    -- identifier ABCX24000017
    ++ ((65 ∷ 66 ∷ 67 ∷ 88 ∷ 50 ∷ 52 ∷ 48 ∷ 48 ∷ 48 ∷ 48 ∷ 49 ∷ 55 ∷ [])
    ++ figures (
    -- time of reading 010203040506
    0 ∷ 1 ∷ 0 ∷ 2 ∷ 0 ∷ 3 ∷ 0 ∷ 4 ∷ 0 ∷ 5 ∷ 0 ∷ 6
    -- kWh register
    ∷ 1 ∷ 2 ∷ 3 ∷ 4 ∷ 5 ∷ 6
    -- current, previous, cumulative demand
    ∷ 0 ∷ 0 ∷ 1 ∷ 2 ∷ 3 ∷ 4
    ∷ 0 ∷ 5 ∷ 6 ∷ 7 ∷ 8 ∷ 9
    ∷ 9 ∷ 8 ∷ 7 ∷ 6 ∷ 5 ∷ 4
    -- last reset date 000229, reset count
    ∷ 0 ∷ 0 ∷ 0 ∷ 2 ∷ 2 ∷ 9
    ∷ 0 ∷ 7
    -- eight rate registers
    ∷ 1 ∷ 0 ∷ 1 ∷ 2 ∷ 0 ∷ 2
    ∷ 2 ∷ 0 ∷ 2 ∷ 3 ∷ 0 ∷ 3
    ∷ 3 ∷ 0 ∷ 3 ∷ 4 ∷ 0 ∷ 4
    ∷ 4 ∷ 0 ∷ 4 ∷ 5 ∷ 0 ∷ 5
    ∷ 5 ∷ 0 ∷ 5 ∷ 6 ∷ 0 ∷ 6
    ∷ 6 ∷ 0 ∷ 6 ∷ 7 ∷ 0 ∷ 7
    ∷ 7 ∷ 0 ∷ 7 ∷ 8 ∷ 0 ∷ 8
    ∷ 8 ∷ 0 ∷ 8 ∷ 9 ∷ 0 ∷ 9
    -- number of days
    ∷ 0 ∷ 0 ∷ 0 ∷ []))

-- ---- a day record

-- class a at 01:10:00 on 2024-02-29, which is day 24 * 365 + 6 + 31 + 28 = 8,825, second 8,825 * 86,400 + 4,200, with both marks on the running half-hour. The day's room is 8,825
-- modulo 21, which is 5; it has a start, two half-hours' values and what an older day left there, their marks, the first half-hour in reverse, the second Level 2, and a flag
abbrev pub two_ended : Mem
two_ended =
    record {
      recorder = record {
        identity = record { identifier = ident; class = A; weight = watt_hours 10 };
        clock = record { time = 762484200; on = true; days = 1 };
        energy = energy_from (watt_hours 4712309) 0 1;
        demand = no_demand;
        running = record { base = units 471230; reverse = true; level2 = true };
      };
      store = store
          (sets full.values 240 (1150 ∷ 1230 ∷ replicate 46 7777))
          (set full.starts 5 471100)
          (sets full.marks 15 (2 ∷ 1 ∷ 64 ∷ []));
    }

-- its day's 219 bytes
abbrev pub day_record : List ℕ
day_record =
    -- date 240229
    figures (2 ∷ 4 ∷ 0 ∷ 2 ∷ 2 ∷ 9 ∷ [])
    -- start reading
    ++ (figures (0 ∷ 0 ∷ 4 ∷ 7 ∷ 1 ∷ 1 ∷ 0 ∷ 0 ∷ [])
    -- daily flags 0x40
    ++ ((64 ∷ [])
    -- values: two ended, 46 that repeat the second
    ++ (figures (1 ∷ 1 ∷ 5 ∷ 0 ∷ 1 ∷ 2 ∷ 3 ∷ 0 ∷ copies 46 (1 ∷ 2 ∷ 3 ∷ 0 ∷ []))
    -- reverse marks: the first half-hour; Level 2 marks: the second
    ++ (128 ∷ 0 ∷ 0 ∷ 0 ∷ 0 ∷ 0
    ∷ 64 ∷ 0 ∷ 0 ∷ 0 ∷ 0 ∷ 0 ∷ []))))

-- ---- blocks for the reader: ABCX24000017, read at 01:10:00 on 240229, when two half-hours of the day had ended; registers of zeros

-- the header after length and version: identifier, time of reading, zeros, number of days 000 to 009; then the days
abbrev pub headed : ℕ → List ℕ → List ℕ
headed number days =
    ident ++ (figures (2 ∷ 4 ∷ 0 ∷ 2 ∷ 2 ∷ 9 ∷ 0 ∷ 1 ∷ 1 ∷ 0 ∷ 0 ∷ 0 ∷ []) ++ (figures (replicate 80 0 ++ (0 ∷ 0 ∷ number ∷ [])) ++ days))

-- one day: 331 bytes, length 327 as 1 * 256 + 71; two days: 550 bytes, length 546 as 2 * 256 + 34
abbrev pub one : ℕ → List ℕ → List ℕ
one number day = 0 ∷ 0 ∷ 1 ∷ 71 ∷ 1 ∷ headed number day

abbrev pub two : ℕ → List ℕ → List ℕ → List ℕ
two number newer older = 0 ∷ 0 ∷ 2 ∷ 34 ∷ 1 ∷ headed number (newer ++ older)

-- a day of 2024: month and day, start reading, values, and the first byte of its reverse and of its Level 2 marks, in which 64 is the second half-hour and 32 the third
abbrev pub day : List ℕ → List ℕ → List ℕ → ℕ → ℕ → List ℕ
day date start values reverse level2 =
    figures (2 ∷ 4 ∷ (date ++ start))
    ++ (0 ∷ (figures values ++ (reverse ∷ 0 ∷ 0 ∷ 0 ∷ 0 ∷ 0 ∷ level2 ∷ 0 ∷ 0 ∷ 0 ∷ 0 ∷ 0 ∷ [])))

-- three dates, three values
abbrev pub d27 : List ℕ
d27 = 0 ∷ 2 ∷ 2 ∷ 7 ∷ []

abbrev pub d28 : List ℕ
d28 = 0 ∷ 2 ∷ 2 ∷ 8 ∷ []

abbrev pub d29 : List ℕ
d29 = 0 ∷ 2 ∷ 2 ∷ 9 ∷ []

abbrev pub v0040 : List ℕ
v0040 = 0 ∷ 0 ∷ 4 ∷ 0 ∷ []

abbrev pub v1150 : List ℕ
v1150 = 1 ∷ 1 ∷ 5 ∷ 0 ∷ []

abbrev pub v1230 : List ℕ
v1230 = 1 ∷ 2 ∷ 3 ∷ 0 ∷ []

-- the newer day: start 0047110 and a last digit; values 1150, 1230 and 46 more
abbrev pub newer : List ℕ → ℕ → List ℕ → ℕ → ℕ → List ℕ
newer date last more reverse level2 = day date (0 ∷ 0 ∷ 4 ∷ 7 ∷ 1 ∷ 1 ∷ 0 ∷ last ∷ []) (v1150 ++ (v1230 ++ more)) reverse level2

-- these 46 as they should be, each 1230; 1150 as the first of them; as the last
abbrev pub right : List ℕ
right = copies 46 v1230

abbrev pub third : List ℕ
third = v1150 ++ copies 45 v1230

abbrev pub final : List ℕ
final = copies 45 v1230 ++ v1150

-- the older day: start 00469990, values 0040 and 47 times 1100, so that its advances are 50, 1060 and zeros, and its end is 00471100
abbrev pub older : List ℕ → List ℕ
older date = day date (0 ∷ 0 ∷ 4 ∷ 6 ∷ 9 ∷ 9 ∷ 9 ∷ 0 ∷ []) (v0040 ++ copies 47 (1 ∷ 1 ∷ 0 ∷ 0 ∷ [])) 0 0

-- ---- the rows

-- what a read leaves in the output
abbrev pub sent : List Case
sent =
    -- of no day, into 114 bytes: the block, and the two bytes past it as they were
    record { given = output various 0 114; due = header ++ (255 ∷ 255 ∷ []) }
    -- of one day: length 00 00 01 47 and version; from the number of days, 001, on
    ∷ record {
      given = take 5 (output two_ended 1 331) ++ drop 109 (output two_ended 1 331);
      due = 0 ∷ 0 ∷ 1 ∷ 71 ∷ 1 ∷ 48 ∷ 48 ∷ 49 ∷ day_record;
    }
    ∷ []

-- the reader, on a block of one day
abbrev pub of_one : List Case
of_one =
    -- the listing's example; and with both marks on the second half-hour, which had ended
    record { given = told (parses (one 1 (newer d29 0 right 0 0)) ∷ parses (one 1 (newer d29 0 right 64 64)) ∷ []); due = 0 ∷ 1 ∷ 0 ∷ 1 ∷ [] }
    -- a value that should repeat the last ended one is 1150: the third, the last
    ∷ record { given = told (parses (one 1 (newer d29 0 third 0 0)) ∷ parses (one 1 (newer d29 0 final 0 0)) ∷ []); due = 10 ∷ 0 ∷ 10 ∷ 0 ∷ [] }
    -- a mark on the third half-hour, which had not ended: reverse, Level 2
    ∷ record { given = told (parses (one 1 (newer d29 0 right 32 0)) ∷ parses (one 1 (newer d29 0 right 0 32)) ∷ []); due = 10 ∷ 0 ∷ 10 ∷ 0 ∷ [] }
    -- the number of days 000, 002
    ∷ record { given = told (parses (one 0 (newer d29 0 right 0 0)) ∷ parses (one 2 (newer d29 0 right 0 0)) ∷ []); due = 10 ∷ 0 ∷ 10 ∷ 0 ∷ [] }
    -- another day than that of reading
    ∷ record { given = told (parses (one 1 (newer d28 0 right 0 0)) ∷ []); due = 10 ∷ 0 ∷ [] }
    ∷ []

-- on a block of two days
abbrev pub of_two : List Case
of_two =
    -- that join
    record { given = told (parses (two 2 (newer d29 0 right 0 0) (older d28)) ∷ []); due = 0 ∷ 2 ∷ [] }
    -- that join where the reading runs round: start 99999990 and advance 50, start 00000040
    ∷ record {
      given = told
          (parses
          (two 2 (day d29 (0 ∷ 0 ∷ 0 ∷ 0 ∷ 0 ∷ 0 ∷ 4 ∷ 0 ∷ []) (copies 48 v0040) 0 0) (day d28 (9 ∷ 9 ∷ 9 ∷ 9 ∷ 9 ∷ 9 ∷ 9 ∷ 0 ∷ []) (copies 48 v0040) 0 0))
          ∷ []);
      due = 0 ∷ 2 ∷ [];
    }
    -- the newer day's start is one more than the older day's end
    ∷ record { given = told (parses (two 2 (newer d29 1 right 0 0) (older d28)) ∷ []); due = 10 ∷ 0 ∷ [] }
    -- the older day is two days before the newer one; is the same day
    ∷ record { given = told (parses (two 2 (newer d29 0 right 0 0) (older d27)) ∷ parses (two 2 (newer d29 0 right 0 0) (older d29)) ∷ []); due = 10 ∷ 0 ∷ 10 ∷ 0 ∷ [] }
    -- the number of days 001, 003
    ∷ record { given = told (parses (two 1 (newer d29 0 right 0 0) (older d28)) ∷ parses (two 3 (newer d29 0 right 0 0) (older d28)) ∷ []); due = 10 ∷ 0 ∷ 10 ∷ 0 ∷ [] }
    ∷ []

-- the most days
abbrev pub most : List Case
most =
    -- of a block, of a ledger
    record { given = most_days ∷ longest_window ∷ []; due = 451 ∷ 451 ∷ [] }
    -- bytes of which all are zero after length and version: as many as 451 days have, 98,881, where the identifier is wrong; as many as 452 have, 99,100
    ∷ record {
      given = told (parses (0 ∷ 1 ∷ 130 ∷ 61 ∷ 1 ∷ replicate 98876 0) ∷ parses (0 ∷ 1 ∷ 131 ∷ 24 ∷ 1 ∷ replicate 99095 0) ∷ []);
      due = 9 ∷ 5 ∷ 8 ∷ 0 ∷ [];
    }
    ∷ []

-- all of them
abbrev pub bytes : List Case
bytes = sent ++ (of_one ++ (of_two ++ most))
