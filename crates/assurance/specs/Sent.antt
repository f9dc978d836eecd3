-- What a read sends, by the paper alone (docs/RULES.md, "The block"): the registers run round, and the last days of the history, newest first.
-- In the current day a half-hour not yet ended repeats the last ended value, or the start reading's digits, and carries no mark.
use Rattle.std.specs.Prelude.{ℕ, suc, ◌+◌, ◌-◌, ◌/◌, ◌%◌, min, Bool, false, not, cond, List, ltb, eqb, length}
use Rattle.std.proofs.lemmas.List.Edits.{sets}
use Rattle.laws.specs.Bits.{pack_bits}
use Rattle.laws.specs.Table.{table}
use Rattle.quantity.specs.Units.{total_round, demand_round, milliwatt_hours, centi_kilowatts, kwh_of}
use Rattle.calendar.specs.Clock.{seconds_of_day, halves_of_day, ended_on}
use Rattle.profile.specs.Profile.{fill_after}
use Rattle.answers.specs.Answer.{Answer}
use Rattle.block.specs.declared.Header.{Header}
use Rattle.block.specs.Answers.{answer}
use Rattle.block.specs.Layout.{block_bytes, render_block}
use Rattle.judgement.specs.Days.{DayRecord}
use Rattle.judgement.specs.Given.{given}
use Rattle.writer.specs.Send.{Sent, sent}
use Rattle.days.specs.Day.{History}
use Rattle.store.specs.Class.{days_of}
use Rattle.registers.specs.Energy.{rate_count}
use Rattle.registers.specs.Demand.{count_round}
use Rattle.recorder.specs.declared.SetUp.{SetUp}
use Rattle.readout.specs.Read.{most_asked}
use Rattle.assurance.specs.Paper.{Paper, now, today, total_at, peak_of, history_of}

-- the days that the store has: all since set-up, at most those of the class
abbrev pub stored_days : SetUp → Paper → ℕ
stored_days s p = min (days_of s.class) (today p + 1 - s.time / seconds_of_day)

unfoldable pub header_due : SetUp → Paper → Header
header_due s p =
    let c = p.tape.counts in
    let d = p.tape.demands in
    record {
      identifier = p.identifier;
      time = p.time;
      kwh = kwh_of (milliwatt_hours (total_at s c (suc (now p)) % total_round));
      current = centi_kilowatts (peak_of s c d.since (now p));
      previous = centi_kilowatts d.previous;
      cumulative = centi_kilowatts (d.cumulative % demand_round);
      reset = d.date;
      count = d.resets % count_round;
      rates = table rate_count (λ i. kwh_of (milliwatt_hours (c.rate i % total_round)));
    }

-- the marks of the first k half-hours
abbrev pub first_marks : ℕ → (ℕ → Bool) → ℕ
first_marks k f = pack_bits halves_of_day (λ j. cond (ltb j k) (f j) false)

-- day d, of which k half-hours have ended
unfoldable pub day_due : History → ℕ → ℕ → DayRecord
day_due h k d =
    record {
      start = h.start d;
      flags = h.flags d;
      value = λ j. cond (ltb j k) (h.half d j).value (fill_after (h.start d) (λ i. (h.half d i).value) k);
      reverse = first_marks k (λ j. (h.half d j).reverse);
      level2 = first_marks k (λ j. (h.half d j).level2);
    }

-- the i-th day back from today
abbrev pub back_due : SetUp → Paper → ℕ → DayRecord
back_due s p i = day_due (history_of s p.tape) (ended_on p.time (today p - i)) (today p - i)

-- a read that asks for so many days: those sent, their fields, the block
abbrev pub days_due : SetUp → Paper → ℕ → ℕ
days_due s p asked = min asked (stored_days s p)

unfoldable pub fields_due : SetUp → Paper → ℕ → List ℕ
fields_due s p asked = given (header_due s p) (days_due s p asked) (back_due s p)

abbrev pub block_due : SetUp → Paper → ℕ → List ℕ
block_due s p asked = render_block (days_due s p asked) (fields_due s p asked)

-- its answer, into an output of so many bytes: 1 while off, 6 for too many days, 7 where the output is shorter than the block, and never 4 or 5
unfoldable pub read_due : SetUp → Paper → ℕ → ℕ → Answer
read_due s p asked bytes =
    let size = block_bytes (days_due s p asked) in
    cond (not p.on) (answer 1 0)
    (cond (ltb most_asked asked) (answer 6 0)
    (cond (ltb bytes size) (answer 7 size) (answer 0 size)))

-- and the output afterwards: the block at its beginning, every byte past it as it was; a refusal leaves all of it
unfoldable pub sent_due : SetUp → Paper → ℕ → List ℕ → Sent
sent_due s p asked out =
    let a = read_due s p asked (length out) in
    sent (cond (eqb a.number 0) (sets out 0 (block_due s p asked)) out) a
