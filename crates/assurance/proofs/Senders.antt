-- Every block of a run was sent by one of its reads, and has the time on the recorder's clock at that read, and the days that it asked for.
-- Assumes nothing.
use Prim.Native.Nat.{ℕ, min}
use mathlib.Core.Path.{◌≡◌, refl, ap, ◌∙◌}
use mathlib.Core.Logic.{◌↔◌, ⊎_elim}
use mathlib.Core.List.{List, [], ◌∷◌, ◌++◌, Memᴰ}
use lib.Dec.{eqb}
use lib.ListN.{length, take}
use borrow.Author.Tests.{eqb-true, eq-eqb, not-false}
use Rattle.laws.proofs.Bools.{both}
use Rattle.laws.proofs.Checks.{NoneFails, none_fails}
use Rattle.laws.proofs.Split.{by_test}
use Rattle.laws.proofs.Table.{table_at}
use Rattle.quantity.specs.Units.{kilowatt_hours}
use Rattle.format.specs.Numbers.{binary, num_at, good_at}
use Rattle.answers.specs.Answer.{Answer}
use Rattle.block.specs.Layout.{is_identifier}
use Rattle.block.specs.Parse.{fields, parse}
use Rattle.block.proofs.Checking.{ident_ok_lem}
use Rattle.judgement.specs.Days.{days_from}
use Rattle.judgement.specs.Given.{given}
use Rattle.judgement.proofs.Back.{header_back}
use Rattle.judgement.proofs.Places.{seconds_at}
use Rattle.judgement.proofs.Writable.{writable_time}
use Rattle.writer.specs.Send.{send_of}
use Rattle.writer.proofs.Sent.{sent_says, sent_bytes, sent_reads}
use Rattle.rooms.specs.View.{view_in, view_of}
use Rattle.filing.proofs.Offered.{view_parsed}
use Rattle.recorder.specs.declared.Recorder.{Recorder}
use Rattle.recorder.specs.Recorder.{Mem}
use Rattle.recorder.specs.Range.{in_range}
use Rattle.recorder.proofs.Ranges.{Ranges, ranges}
use Rattle.fields.specs.Views.{header_in}
use Rattle.fields.proofs.Laws.{header_read}
use Rattle.readout.proofs.Laws.{rates_eight}
use Rattle.readout.specs.Read.{rate_sent, header_sent, days_sent, source_sent, read_checks, read_answer, read_of}
use Rattle.assurance.specs.Run.{Call, happens, reads, left, run_all, block_of, blocks_in, ReadIn, Registers}

-- ---- what an accepted read sends has its time and its days

time_sent : (r : Recorder) → (header_sent r).time ≡ r.clock.time
unfolding header_sent
time_sent r = refl

module _ (asked : ℕ) (x : Mem) (out : List ℕ) (e : (read_of asked x out).answer.number ≡ 0) where
  abbrev r : Recorder
  r = x.recorder

  abbrev n : ℕ
  n = days_sent asked r

  abbrev v : List ℕ
  v = x.store.values

  abbrev s : List ℕ
  s = x.store.starts

  abbrev m : List ℕ
  m = x.store.marks

  own : read_answer asked r (length v) (length s) (length m) ≡ 0
  unfolding read_of
  own =
      by_test (eqb (read_answer asked r (length v) (length s) (length m)) 0)
      (λ t. eqb-true (read_answer asked r (length v) (length s) (length m)) 0 t)
      (λ t. rw t at e)

  is_sent : read_of asked x out ≡ send_of (header_sent r) n (source_sent r) v s m out
  unfolding read_of
  is_sent = rw (eq-eqb (read_answer asked r (length v) (length s) (length m)) 0 own)

  well : (send_of (header_sent r) n (source_sent r) v s m out).answer.number ≡ 0
  well = rw is_sent at e

  abbrev vs : List ℕ
  vs = given (header_sent r) n (days_from (source_sent r) v s m)

  block_parses : parse (block_of (read_of asked x out)) ≡ fields n vs
  block_parses =
      rw is_sent
      (ap (λ (a : Answer). parse (take a.carried (send_of (header_sent r) n (source_sent r) v s m out).out)) (sent_bytes (header_sent r) n (source_sent r) v s m out well)
      ∙ sent_reads (header_sent r) n (source_sent r) v s m out well (rates_eight r))

  pub time_read : (view_of (block_of (read_of asked x out))).time ≡ r.clock.time
  unfolding view_in
  time_read =
      rw (view_parsed (block_of (read_of asked x out)) n vs block_parses)
      (seconds_at (header_sent r) n (days_from (source_sent r) v s m) (rates_eight r)
      (writable_time (header_sent r) n (source_sent r) v s m (sent_says (header_sent r) n (source_sent r) v s m out well).1)
      ∙ time_sent r)

  pub days_read : (view_of (block_of (read_of asked x out))).days ≡ min asked r.clock.days
  unfolding view_in
  days_read = rw (view_parsed (block_of (read_of asked x out)) n vs block_parses)

  -- and the registers
  fine : NoneFails (read_checks asked r (length v) (length s) (length m))
  unfolding read_answer
  fine = none_fails (read_checks asked r (length v) (length s) (length m)) refl own

  in_range_lem : Ranges r
  in_range_lem = ranges r (not-false (in_range r) fine.1.1.0)

  header_told : length r.identity.identifier ≡ 12 → header_in (block_of (read_of asked x out)) ≡ header_sent r
  unfolding header_sent
  header_told twelve =
      let id = r.identity.identifier in
      let bytes = (both (good_at binary id 0 12) (is_identifier (num_at binary id 0 12)) (ident_ok_lem id 0 ∙ in_range_lem.identity.identifier)).0 in
      header_read (block_of (read_of asked x out)) n vs block_parses
      ∙ header_back (header_sent r) n (days_from (source_sent r) v s m) (rates_eight r) twelve bytes in_range_lem.clock.time in_range_lem.demand.reset

  pub registers_read : length r.identity.identifier ≡ 12 → Registers r (header_in (block_of (read_of asked x out)))
  unfolding header_sent rate_sent
  registers_read twelve =
      rw (header_told twelve)
      record {
        identifier = refl;
        time = refl;
        kwh = refl;
        current = refl;
        previous = refl;
        cumulative = refl;
        reset = refl;
        count = refl;
        rate = λ i l. rw (table_at 8 (rate_sent r.energy.rates) i (kilowatt_hours 0) l);
      }

-- ---- the read of a block

-- this call's own block, and one of a later call
first_sent : (n : ℕ) (out : List ℕ) (cs : List Call) (x : Mem) (b : List ℕ) → (read_of n x out).answer.number ≡ 0 → b ≡ block_of (read_of n x out) → ReadIn x (reads n out ∷ cs) b
unfolding run_all
first_sent n out cs x b a e = record {
  earlier = [];
  asked = n;
  out = out;
  later = cs;
  whole = refl;
  accepted = a;
  bytes = e;
}

later_sent : (c : Call) (cs : List Call) (x : Mem) (b : List ℕ) → ReadIn (left x c) cs b → ReadIn x (c ∷ cs) b
unfolding run_all
later_sent c cs x b r = record {
  earlier = c ∷ r.earlier;
  asked = r.asked;
  out = r.out;
  later = r.later;
  whole = ap (λ (l : List Call). c ∷ l) r.whole;
  accepted = r.accepted;
  bytes = r.bytes;
}

sender : (cs : List Call) (x : Mem) (b : List ℕ) → Memᴰ b (blocks_in x cs) → ReadIn x cs b
unfolding blocks_in
sender [] x b i = absurd (mathlib.Core.List.Memᴰ.not-nil i)
sender (happens e ∷ cs) x b i = later_sent (happens e) cs x b (sender cs (left x (happens e)) b i)
sender (reads n out ∷ cs) x b i =
    let rest : Memᴰ b (blocks_in (left x (reads n out)) cs) → ReadIn x (reads n out ∷ cs) b =
    λ j. later_sent (reads n out) cs x b (sender cs (left x (reads n out)) b j) in
    by_test (eqb (read_of n x out).answer.number 0)
    (λ t. ⊎_elim (λ e. first_sent n out cs x b (eqb-true (read_of n x out).answer.number 0 t) e) rest (mathlib.Core.List.Memᴰ.cases_cons (rw t at i)))
    (λ t. rest (rw t at i))

-- and what a read sent is among the blocks
among : (earlier later : List Call) (x : Mem) (asked : ℕ) (out b : List ℕ) → (read_of asked (run_all x earlier) out).answer.number ≡ 0
    → b ≡ block_of (read_of asked (run_all x earlier) out) → Memᴰ b (blocks_in x (earlier ++ (reads asked out ∷ later)))
unfolding blocks_in run_all
among [] later x asked out b a e = rw (eq-eqb (read_of asked x out).answer.number 0 a) (mathlib.Core.List.Memᴰ.head e)
among (happens h ∷ earlier) later x asked out b a e = among earlier later (left x (happens h)) asked out b a e
among (reads n o ∷ earlier) later x asked out b a e =
    let rest = among earlier later (left x (reads n o)) asked out b a e in
    by_test (eqb (read_of n x o).answer.number 0) (λ t. rw t (mathlib.Core.List.Memᴰ.tail rest)) (λ t. rw t rest)

pub senders : (x : Mem) (cs : List Call) (b : List ℕ) → Memᴰ b (blocks_in x cs) ↔ ReadIn x cs b
senders x cs b = (
  λ i. sender cs x b i,
  λ r. rw r.whole (among r.earlier r.later x r.asked r.out b r.accepted r.bytes),
)

-- whichever read sent it, a block says that read's time and has its days
pub says_read : (x : Mem) (cs : List Call) (b : List ℕ) (r : ReadIn x cs b)
    → ((view_of b).time ≡ (run_all x r.earlier).recorder.clock.time) × ((view_of b).days ≡ min r.asked (run_all x r.earlier).recorder.clock.days)
says_read x cs b r =
    let y = run_all x r.earlier in
    rw r.bytes (time_read r.asked y r.out r.accepted, days_read r.asked y r.out r.accepted)
