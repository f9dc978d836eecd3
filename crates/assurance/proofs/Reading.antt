-- A read of a run's recorder: its answer is the one that is due by the paper, and its block is the paper's, and reads back as the paper's fields.
-- Assumes nothing.
use Prim.Native.Nat.{ℕ, ◌%◌}
use mathlib.Core.Path.{◌≡◌, ap, ◌∙◌}
use mathlib.Core.Bool.{not, cond}
use mathlib.Core.List.{List}
use native.Mathlib.Omega.{arith}
use lib.Dec.{ltb}
use lib.ListN.{length}
use lib.Seq.{sets}
use Rattle.laws.specs.Table.{table}
use Rattle.laws.proofs.Split.{by_test}
use Rattle.laws.proofs.Table.{length_table, table_same}
use Rattle.quantity.specs.Units.{total_round, milliwatt_hours, centi_kilowatts, kwh_of}
use Rattle.block.specs.Answers.{answer}
use Rattle.block.specs.Layout.{block_bytes}
use Rattle.block.specs.Parse.{fields, parse}
use Rattle.judgement.specs.Days.{DayRecord, days_from}
use Rattle.judgement.specs.Given.{given}
use Rattle.judgement.proofs.Writable.{written_reads}
use Rattle.writer.specs.Send.{sent, send_of}
use Rattle.writer.proofs.Sent.{send_shaped}
use Rattle.recorder.specs.declared.SetUp.{SetUp}
use Rattle.recorder.specs.Recorder.{Mem}
use Rattle.readout.specs.Read.{rate_sent, header_sent, source_sent, read_answer, read_of}
use Rattle.assurance.specs.Paper.{Paper, now}
use Rattle.assurance.specs.Sent.{header_due, back_due, days_due, fields_due, block_due, read_due, sent_due}
use Rattle.assurance.proofs.Kept.{Given, Kept, cap_is}
use Rattle.assurance.proofs.Answer.{in_range_lem, right_lengths_lem, some_class}
use Rattle.assurance.proofs.Sending.{ring_of, days_are, day_due_lem, given_same}
use Rattle.assurance.proofs.Sound.{can_write, is_shaped}

module _ (s : SetUp) (z : Given s) (p : Paper) (x : Mem) (k : Kept s p x) where
  -- ---- what is sent is the paper's

  rates_due_lem : table 8 (rate_sent x.recorder.energy.rates) ≡ table 8 (λ i. kwh_of (milliwatt_hours (p.tape.counts.rate i % total_round)))
  unfolding rate_sent
  rates_due_lem =
      table_same 8 (rate_sent x.recorder.energy.rates) (λ i. kwh_of (milliwatt_hours (p.tape.counts.rate i % total_round)))
      (λ i l. ap (λ (a : ℕ). kwh_of (milliwatt_hours a)) (k.at.energy.rates i l))

  header_due_lem : header_sent x.recorder ≡ header_due s p
  unfolding header_sent header_due
  header_due_lem = λ t. record {
    identifier = k.name.is t;
    time = k.time t;
    kwh = kwh_of (milliwatt_hours (k.at.energy.total t));
    current = centi_kilowatts (k.at.demand.current t);
    previous = centi_kilowatts (k.at.demand.previous t);
    cumulative = centi_kilowatts (k.at.demand.cumulative t);
    reset = k.at.demand.reset t;
    count = k.at.demand.count t;
    rates = rates_due_lem t;
  }

  source_due : source_sent x.recorder ≡ ring_of s p
  source_due = rw (cap_is s p.tape (now p) x k.at, k.time)

  module _ (asked : ℕ) where
    abbrev n : ℕ
    n = days_due s p asked

    abbrev days : ℕ → DayRecord
    days = days_from (ring_of s p) x.store.values x.store.starts x.store.marks

    fields_due_lem : given (header_due s p) n days ≡ fields_due s p asked
    unfolding fields_due
    fields_due_lem = given_same (header_due s p) n days (back_due s p) (λ i l. day_due_lem s z p x k i (omega arith))

    eight : length (header_due s p).rates ≡ 8
    unfolding header_due
    eight = length_table 8 (λ i. kwh_of (milliwatt_hours (p.tape.counts.rate i % total_round)))

    -- the block reads back as the fields
    pub block_reads : parse (block_due s p asked) ≡ fields n (fields_due s p asked)
    block_reads =
        rw (← fields_due_lem)
        (written_reads (header_due s p) n (ring_of s p) x.store.values x.store.starts x.store.marks eight (can_write s z p x k n (omega arith)))

    -- ---- the answer and the output

    own_answer : read_answer asked x.recorder (length x.store.values) (length x.store.starts) (length x.store.marks) ≡ cond (not p.on) 1 (cond (ltb 999 asked) 6 0)
    unfolding read_answer
    own_answer = rw (some_class s z p x k, right_lengths_lem s z p x k, in_range_lem s z p x k, k.on)

    abbrev size : ℕ
    size = block_bytes n

    send_is : (out : List ℕ) → send_of (header_due s p) n (ring_of s p) x.store.values x.store.starts x.store.marks out
        ≡ cond (ltb (length out) size) (sent out (answer 7 size)) (sent (sets out 0 (block_due s p asked)) (answer 0 size))
    send_is out =
        send_shaped (header_due s p) n (ring_of s p) x.store.values x.store.starts x.store.marks out (is_shaped s z p x k n (omega arith))
        ∙ rw (can_write s z p x k n (omega arith), fields_due_lem)

    pub read_is : (out : List ℕ) → read_of asked x out ≡ sent_due s p asked out
    unfolding read_of sent_due read_due
    read_is out =
        rw (own_answer, header_due_lem, source_due, days_are s z p x k, send_is out)
        (by_test p.on
        (λ t. by_test (ltb 999 asked)
        (λ u. rw (t, u))
        (λ u. by_test (ltb (length out) size) (λ v. rw (t, u, v)) (λ v. rw (t, u, v))))
        (λ t. rw t))
