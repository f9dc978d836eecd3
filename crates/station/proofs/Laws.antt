-- What each return says.
-- Assumes nothing.
use Prim.Native.Nat.{ℕ, ◌≤◌}
use mathlib.Core.Path.{◌≡◌, sym, ap, ◌∙◌}
use mathlib.Core.Bool.{Bool}
use lib.ListN.{length, set}
use lib.Seq.{set_out}
use mir.Val.{bool_byte}
use Rattle.laws.specs.Bits.{bit}
use Rattle.laws.proofs.Bits.{bit_from}
use mathlib.Core.List.{List}
use Rattle.std.specs.Prelude.{Result, Ok, Err}
use Rattle.std.specs.Result.{result_and, result_unwrap_or}
use Rattle.answers.specs.declared.Refusal.{Refusal}
use Rattle.answers.specs.Answer.{answered}
use Rattle.store.specs.Store.{store}
use Rattle.block.specs.declared.Header.{Header}
use Rattle.recorder.specs.declared.Recorder.{Recorder}
use Rattle.recorder.specs.Recorder.{mem}
use Rattle.recorder.specs.SetUp.{given as set_up_with}
use Rattle.outstation.specs.declared.Outstation.{Outstation}
use Rattle.outstation.specs.declared.Phase.{Phase}
use Rattle.outstation.specs.Outstation.{site, Happening, done, happens}
use Rattle.outstation.specs.SetUp.{set_up_site}
use Rattle.writer.specs.Send.{sent, write_of}
use Rattle.readout.specs.Read.{ReadDone, handed, read_done, read_back}
use Rattle.desk.specs.Given.{given}
use Rattle.desk.specs.Numbers.{one_number, number_of}
use Rattle.rows.specs.Rows.{recorder_from, header_from}
use Rattle.station.specs.Station.{left, phase_in, outstation_in, put_tells, put_outstation, left_in, set_up_in, happens_in, sent_as, read_in, write_in}

-- ---- an outstation handed back, its row written and its answer made one number

module _ (row v s m b v0 s0 m0 b0 : List ℕ) where
  pub set_up_left : (x : Recorder) → x ≡ recorder_from row → (p : Phase) → p ≡ phase_in row → (r : Result (Unit {0}) Refusal) (k : Outstation)
      → done r k v s m b ≡ set_up_site (set_up_with x.identity.identifier x.identity.class x.identity.weight x.clock.time x.energy.total x.energy.last) p (store v0 s0 m0) b0
      → left (number_of (answered (result_and r (Ok 0)))) (put_outstation row k) v s m b ≡ set_up_in row (store v0 s0 m0) b0
  unfolding set_up_in
  set_up_left x from p q (Ok u) k e = rw (← from, ← q) (ap (left_in row) e)
  set_up_left x from p q (Err r) k e = rw (← from, ← q) (ap (left_in row) e)

  pub happens_left : (o : Outstation) → o ≡ outstation_in row → (h : Happening) → (r : Result (Unit {0}) Refusal) (k : Outstation) → done r k v s m b ≡ happens (site o v0 s0 m0 b0) h
      → left (number_of (answered (result_and r (Ok 0)))) (put_outstation row k) v s m b ≡ happens_in row h (store v0 s0 m0) b0
  unfolding happens_in
  happens_left o from h (Ok u) k e = ap (left_in row) (e ∙ ap (λ (x : Outstation). happens (site x v0 s0 m0 b0) h) from)
  happens_left o from h (Err r) k e = ap (left_in row) (e ∙ ap (λ (x : Outstation). happens (site x v0 s0 m0 b0) h) from)

module _ (row : List ℕ) (at : ℕ) (b : Bool) where
  pub tells_put : (n : ℕ) → n ≡ bool_byte b → set row at n ≡ put_tells row at b
  tells_put n e = ap (set row at) (e ∙ bit_from b)

  pub none_put : length row ≤ at → row ≡ put_tells row at b
  none_put h = sym (set_out row at (bit b) h)

-- ---- an output, and its answer made one number

module _ (row v s m out after : List ℕ) (days n : ℕ) (a : Result ℕ Refusal) (one : n ≡ number_of (answered a)) where
  pub read_sent : (r : Recorder) → r ≡ recorder_from row → read_done (handed r (answered a)) after ≡ read_back days (mem r v s m) out → given after n ≡ read_in row days (store v s m) out
  unfolding read_back read_in
  read_sent r from e = rw (← from, one) (ap (λ (x : ReadDone). given x.out (one_number x.handed.answer x.handed.carried)) e)

  pub write_sent : (h : Header) → h ≡ header_from row → sent after (answered a) ≡ write_of h days v s m out → given after n ≡ write_in row days (store v s m) out
  unfolding write_in
  write_sent h from e = rw (← from, one) (ap sent_as e)
