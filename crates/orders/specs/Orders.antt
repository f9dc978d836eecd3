-- The order of the answers to a read, of the writer, of the reader, and of a ledger that is opened, filed in and asked (docs/RULES.md, "Checked in this order"); the crate
-- `recorder` has that of set-up and events (Cases). Each row's inputs are refused by two checks or more, so that it shows which of them comes first, or by one alone, or is done.
use Rattle.std.specs.Prelude.{ℕ, ◌/◌, ◌%◌, List, [], ◌∷◌, ◌++◌, replicate, set, take}
use Rattle.format.specs.Numbers.{binary, num_at}
use Rattle.answers.specs.Answer.{Answer}
use Rattle.block.specs.Answers.{answer_of}
use Rattle.block.specs.Layout.{render_block}
use Rattle.block.specs.Parse.{parse}
use Rattle.writer.specs.Send.{write_of}
use Rattle.ledger.specs.Open.{open_of}
use Rattle.ledger.specs.Asked.{summary_of, missing_of}
use Rattle.filing.specs.File.{file_of}
use Rattle.store.specs.Store.{Store, store}
use Rattle.registers.specs.declared.Demand.{Demand}
use Rattle.recorder.specs.declared.Event.TheVariants.{Off}
use Rattle.recorder.specs.Recorder.{Mem, with, with_demand}
use Rattle.recorder.specs.SetUp.{blank}
use Rattle.cases.specs.Cases.{Case, ident, small, full, short, meter, next, out_of_range, beside}
use Rattle.readout.specs.Read.{header_sent, read_of}

-- the numbers of answers, each with what it carries
abbrev pub told : List Answer → List ℕ
told [] = []
told (a ∷ rest) = a.number ∷ a.carried ∷ told rest

-- ---- recorders: class a, set up at 2000-01-01 00:00:00, one day stored

abbrev pub good : Mem
good = meter 0 0 0 1

-- a stored day out of range: a low bit in its flags
abbrev pub bad_day : Mem → Mem
bad_day x = beside x (store full.values full.starts (set full.marks 2 1))

-- the same though the block would be right: 49 bits as its reverse marks, of which none is sent, since no half-hour has ended
abbrev pub bad_mark : Mem → Mem
bad_mark x = beside x (store full.values full.starts (set full.marks 0 281474976710656))

-- a reset count of 1 without a reset date: both in range, but no block that the reader takes
abbrev pub one_reset : Demand → Demand
one_reset d = record { current = d.current; previous = d.previous; cumulative = d.cumulative; reset = 0; count = 1 }

abbrev pub bad_block : Mem → Mem
bad_block x = with x (with_demand (one_reset x.recorder.demand) x.recorder)

abbrev pub off : Mem → Mem
off x = next x Off

-- no real class, with a store
abbrev pub no_class : Store → Mem
no_class s = record { recorder = blank; store = s }

-- a read of so many days into an output of so many bytes
abbrev pub reads : Mem → ℕ → ℕ → Answer
reads x asked bytes = (read_of asked x (replicate bytes 0)).answer

-- the writer from a recorder's header and one day, of so many values and this start, into an output of so many bytes
abbrev pub writes : Mem → ℕ → ℕ → ℕ → Answer
writes x values start bytes = (write_of (header_sent x.recorder) 1 (replicate values 0) (start ∷ []) (replicate 3 0) (replicate bytes 0)).answer

-- ---- blocks, read at 2000-01-01 00:00:00, when no half-hour of the day had ended

-- the header's fields: identifier, time of reading, zeros, reset count, zeros, number of days. The reset date is 000000, so a reset count of 1 is not consistent
abbrev pub header : List ℕ → ℕ → ℕ → List ℕ
header id count days = num_at binary id 0 12 ∷ 101000000 ∷ 0 ∷ 0 ∷ 0 ∷ 0 ∷ 0 ∷ count ∷ (replicate 8 0 ++ (days ∷ []))

-- no day: 112 bytes
abbrev pub bare : List ℕ → ℕ → List ℕ
bare id count = render_block 0 (header id count 0)

-- one day: 331 bytes, with this start, of at most four digits
abbrev pub one_day : List ℕ → ℕ → ℕ → List ℕ
one_day id count start = render_block 1 (header id count 1 ++ (101 ∷ start ∷ 0 ∷ (replicate 48 start ++ (0 ∷ 0 ∷ []))))

-- with another byte at an offset: 3 is the length's last, 4 the version; fields begin at 5 (identifier), 17 (time), 29 (kWh register), 35 (current demand),
-- 109 (number of days), 126 (a day's flags), 315 (its last value). A colon, 58, is no digit
abbrev pub byte_at : ℕ → ℕ → List ℕ → List ℕ
byte_at offset byte b = set b offset byte

abbrev pub colon_at : ℕ → List ℕ → List ℕ
colon_at offset b = byte_at offset 58 b

-- another meter: ABCX24000018; and at each place another character than ABCX24000017 has, which may stand there: a in PPP, Y as M, 9 in YY, Z in XXXXXX
abbrev pub other : List ℕ
other = set ident 11 56

abbrev pub unlike : ℕ → ℕ → List ℕ
unlike place character = set ident place character

abbrev pub parses : List ℕ → Answer
parses b = answer_of (parse b)

-- ---- ledgers from 2000-01-01 on

-- identifier, first day 0, day count, and what follows
abbrev pub ledger : ℕ → List ℕ → List ℕ
ledger days rooms = ident ++ (0 ∷ 0 ∷ days / 256 ∷ days % 256 ∷ rooms)

-- rooms of 114 bytes: an absent day; a day held with its start, 7, and no half-hour; a state of 50, which is out of range
abbrev pub absent_room : List ℕ
absent_room = replicate 114 0

abbrev pub held_room : List ℕ
held_room = 1 ∷ 0 ∷ 0 ∷ 0 ∷ 0 ∷ 7 ∷ replicate 108 0

abbrev pub bad_room : List ℕ
bad_room = 50 ∷ replicate 113 0

-- opening so many bytes for an identifier, a first day and so many days
abbrev pub opens : ℕ → List ℕ → ℕ → ℕ → ℕ
opens bytes id first days = (open_of (replicate bytes 0) id first days).answer

abbrev pub files : List ℕ → List ℕ → Answer
files l b = (file_of l b).answer

-- the summary of a day and what is missing of it
abbrev pub asks : List ℕ → ℕ → List ℕ
asks l d = (summary_of l d).answer ∷ (missing_of l d).answer ∷ []

-- ---- the rows

-- a read
abbrev pub reading : List Case
reading =
    -- done: of no day, of one, of 999, where one is stored
    record { given = told (reads good 0 112 ∷ reads good 1 331 ∷ reads good 999 331 ∷ []); due = 0 ∷ 112 ∷ 0 ∷ 331 ∷ 0 ∷ 331 ∷ [] }
    -- no real class, 5 before 4, 1 and 6: a store of class a, of no class; the blank recorder is off, and 1,000 days are asked
    ∷ record { given = told (reads (no_class full) 1000 0 ∷ reads (no_class short) 1000 0 ∷ []); due = 5 ∷ 0 ∷ 5 ∷ 0 ∷ [] }
    -- 4 before 5: a store of another length; and a field out of range
    ∷ record { given = told (reads (beside good short) 0 112 ∷ reads (beside (out_of_range good) short) 0 112 ∷ []); due = 4 ∷ 0 ∷ 4 ∷ 0 ∷ [] }
    -- 5 before 1: a field out of range; and off
    ∷ record { given = told (reads (out_of_range good) 0 112 ∷ reads (out_of_range (off good)) 0 112 ∷ []); due = 5 ∷ 0 ∷ 5 ∷ 0 ∷ [] }
    -- 1 before 6: off; and 1,000 days asked
    ∷ record { given = told (reads (off good) 0 112 ∷ reads (off good) 1000 112 ∷ []); due = 1 ∷ 0 ∷ 1 ∷ 0 ∷ [] }
    -- 6 before the 5 of what is to be sent: 1,000 days asked; and a stored day out of range; and a block that the reader would refuse
    ∷ record { given = told (reads good 1000 331 ∷ reads (bad_day good) 1000 331 ∷ reads (bad_block good) 1000 331 ∷ []); due = 6 ∷ 0 ∷ 6 ∷ 0 ∷ 6 ∷ 0 ∷ [] }
    -- 1 before that 5: off; and a stored day out of range; and a block that the reader would refuse
    ∷ record { given = told (reads (off (bad_day good)) 1 331 ∷ reads (off (bad_block good)) 0 112 ∷ []); due = 1 ∷ 0 ∷ 1 ∷ 0 ∷ [] }
    -- that 5 before 7: a stored day out of range; and a byte too few
    ∷ record { given = told (reads (bad_day good) 1 331 ∷ reads (bad_day good) 1 330 ∷ []); due = 5 ∷ 0 ∷ 5 ∷ 0 ∷ [] }
    -- 5 for a stored day out of range, though the reader would take the block
    ∷ record { given = told (reads (bad_mark good) 1 331 ∷ []); due = 5 ∷ 0 ∷ [] }
    -- that 5 before 7: a block that the reader would refuse; and a byte too few
    ∷ record { given = told (reads (bad_block good) 0 112 ∷ reads (bad_block good) 0 111 ∷ []); due = 5 ∷ 0 ∷ 5 ∷ 0 ∷ [] }
    -- 7: a byte too few, of one day and of none
    ∷ record { given = told (reads good 1 330 ∷ reads good 0 111 ∷ []); due = 7 ∷ 331 ∷ 7 ∷ 112 ∷ [] }
    ∷ []

-- the writer from given fields
abbrev pub writing : List Case
writing =
    -- done; and 7: a byte too few
    record { given = told (writes good 48 0 331 ∷ writes good 48 0 330 ∷ []); due = 0 ∷ 331 ∷ 7 ∷ 331 ∷ [] }
    -- 5 before 7, a byte too few each time: a value too few; a start of nine digits; a block that the reader would refuse
    ∷ record { given = told (writes good 47 0 330 ∷ writes good 48 100000000 330 ∷ writes (bad_block good) 48 0 330 ∷ []); due = 5 ∷ 0 ∷ 5 ∷ 0 ∷ 5 ∷ 0 ∷ [] }
    ∷ []

-- the reader
abbrev pub parsing : List Case
parsing =
    -- done: no day
    record { given = told (parses (bare ident 0) ∷ []); due = 0 ∷ 0 ∷ [] }
    -- 8 before 9, a colon in the current demand each time: version 2; a length of one more; a byte less; a byte more
    ∷ record {
      given = told
          (parses (byte_at 4 2 (colon_at 40 (bare ident 0)))
          ∷ parses (byte_at 3 109 (colon_at 40 (bare ident 0)))
          ∷ parses (take 111 (colon_at 40 (bare ident 0)))
          ∷ parses (colon_at 40 (bare ident 0) ++ (48 ∷ []))
          ∷ []);
      due = 8 ∷ 0 ∷ 8 ∷ 0 ∷ 8 ∷ 0 ∷ 8 ∷ 0 ∷ [];
    }
    -- 9 at the first of two wrong fields: current demand and kWh register; a day's last value and its flags
    ∷ record { given = told (parses (colon_at 40 (colon_at 30 (bare ident 0))) ∷ parses (colon_at 318 (byte_at 126 1 (one_day ident 0 7))) ∷ []); due = 9 ∷ 29 ∷ 9 ∷ 126 ∷ [] }
    -- 9 before 10, a reset count without a date each time: a colon in the number of days; in a day's last value
    ∷ record { given = told (parses (colon_at 111 (bare ident 1)) ∷ parses (colon_at 318 (one_day ident 1 7)) ∷ []); due = 9 ∷ 109 ∷ 9 ∷ 315 ∷ [] }
    -- small letters in PPP, done; as M and in XXXXXX, 9 at the identifier
    ∷ record {
      given = told (parses (bare (unlike 0 97) 0) ∷ parses (bare (unlike 2 122) 0) ∷ parses (bare small 0) ∷ parses (bare (unlike 11 97) 0) ∷ []);
      due = 0 ∷ 0 ∷ 0 ∷ 0 ∷ 9 ∷ 5 ∷ 9 ∷ 5 ∷ [];
    }
    -- 10: that alone; 8 before 10: and version 2
    ∷ record { given = told (parses (bare ident 1) ∷ parses (byte_at 4 2 (bare ident 1)) ∷ []); due = 10 ∷ 0 ∷ 8 ∷ 0 ∷ [] }
    ∷ []

-- opening
abbrev pub opening : List Case
opening =
    -- done: the first day, the last; 4: a byte too few, a byte too many, the room of one for 451 days
    record { given = opens 130 ident 0 1 ∷ opens 130 ident 36524 1 ∷ opens 129 ident 0 1 ∷ opens 131 ident 0 1 ∷ opens 130 ident 0 451 ∷ []; due = 0 ∷ 0 ∷ 4 ∷ 4 ∷ 4 ∷ [] }
    -- done: small letters in PPP; 6: a hyphen in it
    ∷ record { given = opens 130 (unlike 0 97) 0 1 ∷ opens 130 (unlike 2 122) 0 1 ∷ opens 130 (unlike 1 45) 0 1 ∷ []; due = 0 ∷ 0 ∷ 6 ∷ [] }
    -- 6: a small letter as M; past 2099; two days, of which the second is
    ∷ record { given = opens 130 small 0 1 ∷ opens 130 ident 36525 1 ∷ opens 244 ident 36524 2 ∷ []; due = 6 ∷ 6 ∷ 6 ∷ [] }
    -- 451 days with the room of one: to the last day of 2099, 4; to the next, 6
    ∷ record { given = opens 130 ident 36074 451 ∷ opens 130 ident 36075 451 ∷ []; due = 4 ∷ 6 ∷ [] }
    -- 6 before 4, a byte too few each time: these; eleven characters; thirteen; no day; 452 days
    ∷ record {
      given = opens 129 small 0 1 ∷ opens 129 ident 36525 1 ∷ opens 129 (take 11 ident) 0 1 ∷ opens 129 (ident ++ (48 ∷ [])) 0 1
          ∷ opens 129 ident 0 0 ∷ opens 129 ident 0 452 ∷ [];
      due = replicate 6 6;
    }
    ∷ []

-- filing
abbrev pub filing : List Case
filing =
    -- done: a block of no day
    record { given = told (files (ledger 1 absent_room) (bare ident 0) ∷ []); due = 0 ∷ 0 ∷ [] }
    -- a block that differs from the ledger at one character: of PPP, done; of M, YY and XXXXXX, 11
    ∷ record {
      given = told
          (files (ledger 1 absent_room) (bare (unlike 0 97) 0)
          ∷ files (ledger 1 absent_room) (bare (unlike 1 97) 0)
          ∷ files (ledger 1 absent_room) (bare (unlike 2 97) 0)
          ∷ []);
      due = replicate 6 0;
    }
    ∷ record {
      given = told
          (files (ledger 1 absent_room) (bare (unlike 3 89) 0)
          ∷ files (ledger 1 absent_room) (bare (unlike 4 57) 0)
          ∷ files (ledger 1 absent_room) (bare (unlike 5 57) 0)
          ∷ files (ledger 1 absent_room) (bare (unlike 6 90) 0)
          ∷ files (ledger 1 absent_room) (bare (unlike 7 90) 0)
          ∷ files (ledger 1 absent_room) (bare (unlike 8 90) 0)
          ∷ files (ledger 1 absent_room) (bare (unlike 9 90) 0)
          ∷ files (ledger 1 absent_room) (bare (unlike 10 90) 0)
          ∷ files (ledger 1 absent_room) (bare (unlike 11 90) 0)
          ∷ []);
      due = 11 ∷ 0 ∷ 11 ∷ 0 ∷ 11 ∷ 0 ∷ 11 ∷ 0 ∷ 11 ∷ 0 ∷ 11 ∷ 0 ∷ 11 ∷ 0 ∷ 11 ∷ 0 ∷ 11 ∷ 0 ∷ [];
    }
    -- the ledger's own PPP: a small letter, done; a hyphen, 5
    ∷ record { given = told (files (byte_at 0 97 (ledger 1 absent_room)) (bare ident 0) ∷ files (byte_at 0 45 (ledger 1 absent_room)) (bare ident 0) ∷ []); due = 0 ∷ 0 ∷ 5 ∷ 0 ∷ [] }
    -- 9 before 11: a small letter as M, in a block of no other meter's and in another's
    ∷ record { given = told (files (ledger 1 absent_room) (bare small 0) ∷ files (ledger 1 absent_room) (bare (set small 11 56) 0) ∷ []); due = 9 ∷ 5 ∷ 9 ∷ 5 ∷ [] }
    -- under 16 bytes, 4 before 5 and 8: no byte; the day count cut, so that it reads as 0; no block either time
    ∷ record { given = told (files [] [] ∷ files (take 15 (ledger 1 [])) [] ∷ []); due = 4 ∷ 0 ∷ 4 ∷ 0 ∷ [] }
    -- a day count that isn't 1 to 451, 5 before 4 and 8: 0 and 452 days with the room of one; no block
    ∷ record { given = told (files (ledger 0 absent_room) [] ∷ files (ledger 452 absent_room) [] ∷ []); due = 5 ∷ 0 ∷ 5 ∷ 0 ∷ [] }
    -- too short for its count, 4 before 8: 2 and 451 days with the room of one; no block
    ∷ record { given = told (files (ledger 2 absent_room) [] ∷ files (ledger 451 absent_room) [] ∷ []); due = 4 ∷ 0 ∷ 4 ∷ 0 ∷ [] }
    -- 4 before 5 and 8: a state out of range, in a ledger a byte too short, a byte too long; no block
    ∷ record { given = told (files (take 129 (ledger 1 bad_room)) [] ∷ files (ledger 1 (bad_room ++ (0 ∷ []))) [] ∷ []); due = 4 ∷ 0 ∷ 4 ∷ 0 ∷ [] }
    -- 5 before 8: a state out of range; no block
    ∷ record { given = told (files (ledger 1 bad_room) [] ∷ []); due = 5 ∷ 0 ∷ [] }
    -- another meter's block, with a reset count without a date. 8 before 9, 10 and 11: version 2, and a colon in the current demand
    ∷ record { given = told (files (ledger 1 absent_room) (byte_at 4 2 (colon_at 40 (bare other 1))) ∷ []); due = 8 ∷ 0 ∷ [] }
    -- 9 before 10 and 11: the colon alone; 10 before 11: neither
    ∷ record { given = told (files (ledger 1 absent_room) (colon_at 40 (bare other 1)) ∷ files (ledger 1 absent_room) (bare other 1) ∷ []); due = 9 ∷ 35 ∷ 10 ∷ 0 ∷ [] }
    ∷ []

-- filing, where a day is held with a start of 7
abbrev pub comparing : List Case
comparing =
    -- 11 before 12: another meter's block, with a start of 8; 12: its own, with that start
    record { given = told (files (ledger 1 held_room) (one_day other 0 8) ∷ files (ledger 1 held_room) (one_day ident 0 8) ∷ []); due = 11 ∷ 0 ∷ 12 ∷ 0 ∷ [] }
    ∷ []

-- summary and missing of a day
abbrev pub asking : List Case
asking =
    -- done: day 0; 6: day 1, outside the window
    record { given = asks (ledger 1 held_room) 0 ++ asks (ledger 1 held_room) 1; due = 0 ∷ 0 ∷ 6 ∷ 6 ∷ [] }
    -- a day outside the window each time. Under 16 bytes, 4 before 5 and 6
    ∷ record { given = asks (take 15 (ledger 1 [])) 1; due = 4 ∷ 4 ∷ [] }
    -- a day count that isn't 1 to 451, 5 before 4 and 6: 0 and 452 days with the room of one
    ∷ record { given = asks (ledger 0 absent_room) 1 ++ asks (ledger 452 absent_room) 1000; due = replicate 4 5 }
    -- 4 before 5 and 6: a state out of range, in a ledger a byte too short; in one too short for its count
    ∷ record { given = asks (take 129 (ledger 1 bad_room)) 1 ++ asks (ledger 2 bad_room) 2; due = replicate 4 4 }
    -- 5 before 6: a state out of range
    ∷ record { given = asks (ledger 1 bad_room) 1; due = 5 ∷ 5 ∷ [] }
    ∷ []

-- all of them
abbrev pub orders : List Case
orders = reading ++ (writing ++ (parsing ++ (opening ++ (filing ++ (comparing ++ asking)))))
