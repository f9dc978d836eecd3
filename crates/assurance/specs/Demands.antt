-- The three demands, and after them the complete days of a class, each as the statement that is proved of it (proofs/Demands.antt): over `set_up`, `step`, `read_of`,
-- `write_of`, `open_of`, `file_of`, `parse` and the others named below, the definitions that the contracts of the code cite, so that it holds of the code.
use Rattle.std.specs.Prelude.{ℕ, ◌≤◌, min, ◌≡◌, true, cond, ◌↔◌, eqb, length}
use mathlib.Core.List.{List, Memᴰ}
use Rattle.std.proofs.lemmas.List.Edits.{sets}
use Rattle.laws.specs.Checks.{first_failing}
use Rattle.format.specs.Identifier.{ident_length, SameMeter}
use Rattle.block.specs.declared.Header.{Header}
use Rattle.block.specs.Answers.{answer, answer_of}
use Rattle.block.specs.Layout.{render_block}
use Rattle.block.specs.Parse.{fields, parse, acceptable}
use Rattle.judgement.specs.declared.Source.{Source}
use Rattle.judgement.specs.Source.{lent}
use Rattle.judgement.specs.Days.{days_from}
use Rattle.judgement.specs.Given.{given}
use Rattle.writer.specs.Send.{sent, send_of, write_of}
use Rattle.writer.specs.Refusals.{block_carried, send_refusals, write_refusals}
use Rattle.fields.specs.Views.{header_in}
use Rattle.ledger.specs.Judged.{judged}
use Rattle.ledger.specs.Open.{open_checks, open_of}
use Rattle.ledger.specs.Asked.{asked_checks, no_summary, summary_of, no_missing, missing_of}
use Rattle.filing.specs.File.{file_checks, file_of}
use Rattle.rooms.specs.View.{view_of}
use Rattle.filing.specs.Differs.{no_difference, differs_of}
use Rattle.store.specs.Store.{Store}
use Rattle.registers.specs.Energy.{rate_count}
use Rattle.recorder.specs.declared.Event.{Event}
use Rattle.recorder.specs.declared.SetUp.{SetUp}
use Rattle.recorder.specs.Recorder.{Mem}
use Rattle.recorder.specs.Answer.{checks}
use Rattle.recorder.specs.Step.{step, run}
use Rattle.recorder.specs.SetUp.{set_up_checks, blank, set_up}
use Rattle.readout.specs.Read.{days_sent, read_of, read_done, read_back}
use Rattle.readout.specs.Refusals.{read_refusals}
use Rattle.assurance.specs.Written.{paper}
use Rattle.assurance.specs.Sent.{days_due, fields_due, block_due, sent_due}
use Rattle.assurance.specs.Run.{Call, run_all, events_of, block_of, blocks_in, ReadIn, Registers}
use Rattle.assurance.specs.Life.{Life}
use Rattle.assurance.specs.Causes.{Causes}
use Rattle.assurance.specs.ForC.{ForC}
use Rattle.assurance.specs.Again.{values_of, starts_of, words_of}
use Rattle.assurance.specs.Delivered.{Drawn, Holds}
use Rattle.assurance.specs.Complete.{AllComplete}

-- an answer that is not 0
abbrev pub Refused : ℕ → Type 0
Refused number = number ≡ 0 → ⊥

-- Demand 1: whatever is given, a refusal changes nothing, and is given only with cause. (That every call answers is its contract, which asks nothing.)
pub record Demand1 : Type 0 where
  -- a refusal hands back the recorder given, and store, ledger and output hold the bytes they held: set-up, events, reads, the writer (`write_of` is `send_of` of given
  -- days), opening, filing. A refused set-up gives the blank recorder; a read (`read_back`: `read_of` with the recorder) hands back the one that it was given, refused or not
  pub set_up_holds : (s : SetUp) (x : Store) → Refused (set_up s x).answer → (set_up s x).after ≡ record { recorder = blank; store = x }
  pub steps : (x : Mem) (e : Event) → Refused (step x e).answer → (step x e).after ≡ x
  pub reads : (asked : ℕ) (x : Mem) (out : List ℕ) → Refused (read_of asked x out).answer.number → (read_of asked x out).out ≡ out
  pub hands : (asked : ℕ) (x : Mem) (out : List ℕ) → let a = (read_of asked x out).answer in
      read_back asked x out ≡ read_done (record { recorder = x.recorder; answer = a.number; carried = a.carried }) (read_of asked x out).out
  pub sends : (h : Header) (n : ℕ) (from : Source) (v s m out : List ℕ) → Refused (send_of h n from v s m out).answer.number → (send_of h n from v s m out).out ≡ out
  pub opens : (l id : List ℕ) (first days : ℕ) → Refused (open_of l id first days).answer → (open_of l id first days).ledger ≡ l
  pub files : (l b : List ℕ) → Refused (file_of l b).answer.number → (file_of l b).ledger ≡ l
  -- a question that is refused tells nothing: a day's summary, what is missing of it, where a block differs (nor does that of a block that would be filed)
  pub summaries : (l : List ℕ) (day : ℕ) → Refused (summary_of l day).answer → summary_of l day ≡ no_summary (summary_of l day).answer
  pub missings : (l : List ℕ) (day : ℕ) → Refused (missing_of l day).answer → missing_of l day ≡ no_missing (missing_of l day).answer
  pub differs : (l b : List ℕ) → Refused (differs_of l b).number → differs_of l b ≡ no_difference (file_of l b).answer
  pub differs_none : (l b : List ℕ) → (file_of l b).answer.number ≡ 0 → differs_of l b ≡ no_difference (answer 0 0)
  -- the functions for C
  pub for_c : ForC
  -- the blank recorder is refused by every call with 5
  pub blank_step : (x : Store) (e : Event) → (step (record { recorder = blank; store = x }) e).answer ≡ 5
  pub blank_read : (asked : ℕ) (x : Store) (out : List ℕ) → (read_of asked (record { recorder = blank; store = x }) out).answer.number ≡ 5
  -- what an answer carries: of an event and a set-up nothing, of a read and the writer the block's bytes with 0 and 7, of a refused filing the offset with 9
  pub step_carries : (x : Mem) (e : Event) → (step x e).carried ≡ 0
  pub set_up_carries : (s : SetUp) (x : Store) → (set_up s x).carried ≡ 0
  pub read_carries : (asked : ℕ) (x : Mem) (out : List ℕ) → let a = (read_of asked x out).answer in a.carried ≡ block_carried a.number (days_sent asked x.recorder)
  pub send_carries : (h : Header) (n : ℕ) (from : Source) (v s m out : List ℕ) → let a = (send_of h n from v s m out).answer in a.carried ≡ block_carried a.number n
  pub file_carries : (l b : List ℕ) → let a = (file_of l b).answer in Refused a.number → a.carried ≡ cond (eqb a.number 9) (answer_of (parse b)).carried 0
  -- every call answers by the table (docs/ANSWERS.md): its answer is that of the first check that fails, in the table's order. (The reader's is `parse`.) A read and
  -- the writer refuse the block itself exactly where the rules say so: 5 where store days to be sent are out of range, or where the reader would refuse it
  pub set_up_answer_holds : (s : SetUp) (x : Store) → (set_up s x).answer ≡ first_failing (set_up_checks s (length x.values) (length x.starts) (length x.marks))
  pub step_answer_holds : (x : Mem) (e : Event)
      → (step x e).answer ≡ first_failing (checks x.recorder e (length x.store.values) (length x.store.starts) (length x.store.marks))
  pub read_answer_holds : (asked : ℕ) (x : Mem) (out : List ℕ) → (read_of asked x out).answer.number ≡ first_failing (read_refusals asked x (length out))
  pub write_answer : (h : Header) (n : ℕ) (v s m out : List ℕ) → length h.rates ≡ rate_count
      → (write_of h n v s m out).answer.number ≡ first_failing (write_refusals h n v s m (length out))
  pub send_answer : (h : Header) (n : ℕ) (from : Source) (v s m out : List ℕ) → length h.rates ≡ rate_count
      → (send_of h n from v s m out).answer.number ≡ first_failing (send_refusals h n from v s m (length out))
  pub refuses : (n : ℕ) (vs : List ℕ) → (acceptable n vs ≡ true) ↔ (parse (render_block n vs) ≡ fields n vs)
  pub open_answer_holds : (l id : List ℕ) (first days : ℕ) → (open_of l id first days).answer ≡ first_failing (open_checks l id first days)
  pub file_answer_holds : (l b : List ℕ) → (file_of l b).answer.number ≡ first_failing (file_checks l b)
  pub summary_answer : (l : List ℕ) (day : ℕ) → (summary_of l day).answer ≡ first_failing (asked_checks l day)
  pub missing_answer : (l : List ℕ) (day : ℕ) → (missing_of l day).answer ≡ first_failing (asked_checks l day)
  -- a block that the reader takes is refused by a good ledger for another meter and for what differs, and for nothing else. Where it
  -- differs is refused as filing is, but for 12, which it tells of
  pub causes : (l b : List ℕ) (n : ℕ) (vs : List ℕ) → judged l ≡ 0 → parse b ≡ fields n vs → Causes l b
  pub differs_answer : (l b : List ℕ) → let a = (file_of l b).answer.number in (differs_of l b).number ≡ cond (eqb a 12) 0 a
  pub differs_12 : (l b : List ℕ) → (((differs_of l b).number ≡ 0) × ((differs_of l b).carried ≡ 1)) ↔ ((file_of l b).answer.number ≡ 12)

-- Demand 2: values, event by event and at every point of every life, and the block both ways.
pub record Demand2 : Type 0 where
  -- the answers, the ring, the registers, marks and flags after any events
  pub life : (s : SetUp) (x : Store) (es : List Event) → (set_up s x).answer ≡ 0 → Life s x es
  -- reads among the events change nothing; each is answered as the paper says (what the accepted events wrote, with no store and nothing that runs round: Written),
  -- and sends the paper's block, which reads back as the history's fields
  pub calls : (x : Mem) (cs : List Call) → run_all x cs ≡ run x (events_of cs)
  pub read : (s : SetUp) (x : Store) (cs : List Call) (asked : ℕ) (out : List ℕ) → (set_up s x).answer ≡ 0
      → read_of asked (run_all (set_up s x).after cs) out ≡ sent_due s (paper s (events_of cs)) asked out
  pub parses : (s : SetUp) (x : Store) (es : List Event) (asked : ℕ) → (set_up s x).answer ≡ 0
      → parse (block_due s (paper s es) asked) ≡ fields (days_due s (paper s es) asked) (fields_due s (paper s es) asked)
  -- the blocks of a run are what its reads that are answered 0 sent, those and no others
  pub blocks : (x : Mem) (cs : List Call) (b : List ℕ) → Memᴰ b (blocks_in x cs) ↔ ReadIn x cs b
  -- and whichever read sent it, a block says the time on the recorder's clock at that read, and has the days asked for, or all that were stored
  pub says : (x : Mem) (cs : List Call) (b : List ℕ) (r : ReadIn x cs b) → let c = (run_all x r.earlier).recorder.clock in
      ((view_of b).time ≡ c.time) × ((view_of b).days ≡ min r.asked c.days)
  -- what a read sends has the recorder's registers, as `fields` gives its header
  pub header : (asked : ℕ) (x : Mem) (out : List ℕ) → length x.recorder.identity.identifier ≡ ident_length → (read_of asked x out).answer.number ≡ 0
      → Registers x.recorder (header_in (block_of (read_of asked x out)))
  -- a block written from given fields reads back as these
  pub writes : (h : Header) (n : ℕ) (v s m out : List ℕ) → length h.rates ≡ rate_count → (write_of h n v s m out).answer.number ≡ 0
      → parse (block_of (write_of h n v s m out)) ≡ fields n (given h n (days_from (lent n) v s m))
  -- (so does any block of acceptable fields: `refuses`, above); and one that is read, written again from its fields, is the same bytes
  pub again : (b : List ℕ) (n : ℕ) (vs : List ℕ) → parse b ≡ fields n vs → render_block n vs ≡ b
  -- by the writer itself: its header and days, as `fields` gives them, are answered 0 with the very same bytes, and no other byte of the output moves
  pub rewrites : (b : List ℕ) (n : ℕ) (vs out : List ℕ) → parse b ≡ fields n vs → length b ≤ length out
      → write_of (header_in b) n (values_of b n) (starts_of b n) (words_of b n) out ≡ sent (sets out 0 b) (answer 0 (length b))

-- Demand 3: for every accepted set-up, every run of events and reads, every fresh ledger of that meter (the last nine characters, whatever its PPP), and every list of
-- blocks of the run's reads, any left out, any repeated, in any order: filed one after another, they are held exactly as told, as it happened; the rest is missing; and so
-- on (Delivered, `Holds`).
abbrev pub Demand3 : Type 0
Demand3 =
    (s : SetUp) (x : Store) (cs : List Call) (l id : List ℕ) (first days : ℕ) (bs : List (List ℕ))
    → (set_up s x).answer ≡ 0 → SameMeter id s.identifier → (open_of l id first days).answer ≡ 0 → Drawn s x cs bs
    → Holds s x cs l id first days bs

-- The complete days of a class besides today: after any run of events and reads they are in the store whole, as many as there were since set-up, and a read that asks for
-- one day more than their number sends them all (Complete, `AllComplete`).
abbrev pub CompleteDays : Type 0
CompleteDays = (s : SetUp) (x : Store) (cs : List Call) → (set_up s x).answer ≡ 0 → AllComplete s x cs
