-- The three demands, and the complete days of a class.
-- Assumes nothing.
use Prim.Native.Nat.{ℕ}
use mathlib.Core.Path.{◌≡◌, refl, sym, ap, ◌∙◌}
use mathlib.Core.List.{List}
use lib.ListN.{length, take}
use Rattle.answers.specs.Answer.{Answer}
use Rattle.block.specs.declared.Header.{Header}
use Rattle.block.specs.Parse.{fields, parse}
use Rattle.block.proofs.Trip.{accepted_reads, parse_back, reads_accepted}
use Rattle.judgement.specs.Source.{lent}
use Rattle.judgement.specs.Days.{days_from}
use Rattle.judgement.specs.Given.{given}
use Rattle.writer.specs.Send.{write_of}
use Rattle.writer.proofs.Sent.{refused_keeps, sent_bytes, sent_reads}
use Rattle.writer.proofs.Refusals.{send_carries, send_answer, write_answer}
use Rattle.ledger.proofs.Answers.{open_answer_holds, open_leaves, opened_well, summary_answer, summary_empty, missing_answer, missing_empty}
use Rattle.filing.proofs.Answers.{by_checks, refused_same, refused_carries, differs_number, tells_nothing, no_difference_lem, differs_12}
use Rattle.lines.proofs.Laws.{listing_stays}
use Rattle.desk.proofs.ForC.{apart, header_gives, differs_gives, identifier_gives, summary_gives, halves_gives, missing_number_lem, flags_number_lem, window_number_lem, day_again, date_again}
use Rattle.store.specs.Store.{Store}
use Rattle.recorder.specs.declared.SetUp.{SetUp}
use Rattle.recorder.specs.declared.Event.{Event}
use Rattle.recorder.specs.Recorder.{Mem}
use Rattle.recorder.specs.Step.{run}
use Rattle.recorder.specs.SetUp.{set_up}
use Rattle.recorder.proofs.Kept.{refused, set_up_blank, blank_refused, step_answer_holds, set_up_answer_holds, step_carries, set_up_carries}
use Rattle.readout.specs.Read.{read_of}
use Rattle.readout.proofs.Laws.{handed_back}
use Rattle.readout.proofs.Refusals.{read_answer_holds, read_carries, read_refused, blank_read}
use Rattle.assurance.specs.Written.{paper}
use Rattle.assurance.specs.Sent.{days_due, fields_due, block_due, sent_due}
use Rattle.assurance.specs.Run.{Call, run_all, events_of, block_of}
use Rattle.assurance.specs.ForC.{ForC}
use Rattle.assurance.specs.Demands.{Demand1, Demand2, Demand3, CompleteDays}
use Rattle.assurance.proofs.Start.{given as given_of}
use Rattle.assurance.proofs.Run.{kept}
use Rattle.assurance.proofs.Life.{life}
use Rattle.assurance.proofs.Reading.{block_reads, read_is}
use Rattle.assurance.proofs.Blocks.{run_events}
use Rattle.assurance.proofs.Senders.{senders, registers_read, says_read}
use Rattle.assurance.proofs.Causes.{causes}
use Rattle.assurance.proofs.Again.{written_again}
use Rattle.assurance.proofs.Delivered.{holds}
use Rattle.assurance.proofs.Complete.{all_complete}

-- ---- demand 1

for_c : ForC
for_c = record {
  apart = apart;
  header = header_gives;
  differs = differs_gives;
  identifier = identifier_gives;
  summary = summary_gives;
  halves = halves_gives;
  listing = listing_stays;
  missing = missing_number_lem;
  flags = flags_number_lem;
  window = window_number_lem;
  day = day_again;
  date = date_again;
  ledger_length = λ l id first days e. (opened_well l id first days e).1;
}

pub demand_1 : Demand1
demand_1 = record {
  set_up_holds = set_up_blank;
  steps = refused;
  reads = read_refused;
  hands = λ asked x out. sym (handed_back asked x out (read_of asked x out).out (read_of asked x out).answer refl);
  sends = refused_keeps;
  opens = open_leaves;
  files = refused_same;
  summaries = summary_empty;
  missings = missing_empty;
  differs = tells_nothing;
  differs_none = no_difference_lem;
  for_c = for_c;
  blank_step = blank_refused;
  blank_read = blank_read;
  step_carries = step_carries;
  set_up_carries = set_up_carries;
  read_carries = read_carries;
  send_carries = send_carries;
  file_carries = refused_carries;
  set_up_answer_holds = set_up_answer_holds;
  step_answer_holds = step_answer_holds;
  read_answer_holds = read_answer_holds;
  write_answer = write_answer;
  send_answer = send_answer;
  refuses = λ n vs. (accepted_reads n vs, reads_accepted n vs);
  open_answer_holds = open_answer_holds;
  file_answer_holds = by_checks;
  summary_answer = summary_answer;
  missing_answer = missing_answer;
  causes = causes;
  differs_answer = differs_number;
  differs_12 = differs_12;
}

-- ---- demand 2

parses : (s : SetUp) (x : Store) (es : List Event) (asked : ℕ) → (set_up s x).answer ≡ 0
    → parse (block_due s (paper s es) asked) ≡ fields (days_due s (paper s es) asked) (fields_due s (paper s es) asked)
unfolding set_up
parses s x es asked e = block_reads s (given_of s x e) (paper s es) (run (set_up s x).after es) (kept s x es e) asked

reads : (s : SetUp) (x : Store) (cs : List Call) (asked : ℕ) (out : List ℕ) → (set_up s x).answer ≡ 0
    → read_of asked (run_all (set_up s x).after cs) out ≡ sent_due s (paper s (events_of cs)) asked out
unfolding set_up
reads s x cs asked out e =
    ap (λ (y : Mem). read_of asked y out) (run_events cs (set_up s x).after)
    ∙ read_is s (given_of s x e) (paper s (events_of cs)) (run (set_up s x).after (events_of cs)) (kept s x (events_of cs) e) asked out

writes : (h : Header) (n : ℕ) (v s m out : List ℕ) → length h.rates ≡ 8 → (write_of h n v s m out).answer.number ≡ 0
    → parse (block_of (write_of h n v s m out)) ≡ fields n (given h n (days_from (lent n) v s m))
writes h n v s m out eight e =
    ap (λ (a : Answer). parse (take a.carried (write_of h n v s m out).out)) (sent_bytes h n (lent n) v s m out e)
    ∙ sent_reads h n (lent n) v s m out e eight

pub demand_2 : Demand2
demand_2 = record {
  life = life;
  calls = λ x cs. run_events cs x;
  read = reads;
  parses = parses;
  blocks = senders;
  says = says_read;
  header = λ asked x out twelve e. registers_read asked x out e twelve;
  writes = writes;
  again = λ b n vs e. (parse_back b n vs e).0;
  rewrites = λ b n vs out e room. written_again b n vs e out room;
}

-- ---- demand 3

pub demand_3 : Demand3
demand_3 s x cs l id first days bs accepted of well drawn = holds s x cs accepted l id first days bs of well drawn

-- ---- the complete days

pub complete_days_lem : CompleteDays
complete_days_lem = all_complete
