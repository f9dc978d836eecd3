-- An outstation that is a row of numbers, its recorder's (`rows`) and behind them whether a switching table is loaded and whether it is single phase: what a set-up, what happens, a read and a write leave, with the answer as one
-- number, as the library for C gives it. They are those of the outstation, the read-out and the writer.
use Rattle.std.specs.Prelude.{ℕ, suc, Bool, true, false, cond, List, eqb, get_or, set}
use Rattle.laws.specs.Bits.{bit}
use Rattle.store.specs.Store.{Store, store}
use Rattle.recorder.specs.declared.SetUp.{SetUp}
use Rattle.recorder.specs.Recorder.{Mem}
use Rattle.recorder.specs.SetUp.{given as set_up_with}
use Rattle.outstation.specs.declared.Outstation.{Outstation}
use Rattle.outstation.specs.declared.Phase.{Phase}
use Rattle.outstation.specs.declared.Phase.TheVariants.{Single, Poly}
use Rattle.outstation.specs.Outstation.{Site, Happening, Done, happens}
use Rattle.outstation.specs.SetUp.{set_up_site}
use Rattle.writer.specs.Send.{Sent, write_of}
use Rattle.readout.specs.Read.{read_of}
use Rattle.desk.specs.Given.{Given, given}
use Rattle.desk.specs.Numbers.{one_number, number_of}
use Rattle.rows.specs.Rows.{put_row, recorder_numbers, recorder_row, recorder_from, header_from}

-- the answer as one number, the row, the store and the table's room
pub record Left : Type 0 where
  pub number : ℕ
  pub row : List ℕ
  pub store : Store
  pub table : List ℕ

abbrev pub left : ℕ → List ℕ → List ℕ → List ℕ → List ℕ → List ℕ → Left
left n row v s m b = record { number = n; row = row; store = store v s m; table = b }

-- the outstation that a row is, and its row written again
abbrev pub loaded_at : ℕ
loaded_at = recorder_numbers

abbrev pub single_at : ℕ
single_at = suc loaded_at

abbrev pub tells_in : List ℕ → ℕ → Bool
tells_in row at = eqb (get_or row at 0) 1

abbrev pub phase_in : List ℕ → Phase
phase_in row = cond (tells_in row single_at) Single Poly

abbrev pub outstation_in : List ℕ → Outstation
outstation_in row = record { recorder = recorder_from row; loaded = tells_in row loaded_at; phase = phase_in row }

abbrev pub is_single : Phase → Bool
is_single Single = true
is_single Poly = false

abbrev pub put_tells : List ℕ → ℕ → Bool → List ℕ
put_tells row at so = set row at (bit so)

abbrev pub put_outstation : List ℕ → Outstation → List ℕ
put_outstation row o = put_tells (put_tells (put_row row (recorder_row o.recorder)) loaded_at o.loaded) single_at (is_single o.phase)

-- the outstation that is handed back lies in the row again
abbrev pub left_in : List ℕ → Done → Left
left_in row d =
    let x = d.after in
    record {
      number = one_number d.answer d.carried;
      row = put_outstation row (record { recorder = x.mem.recorder; loaded = x.loaded; phase = x.phase });
      store = x.mem.store;
      table = x.table;
    }

-- a row's recorder beside a store, and its outstation
abbrev pub mem_in : List ℕ → Store → Mem
mem_in row x = record { recorder = recorder_from row; store = x }

abbrev pub site_in : List ℕ → Store → List ℕ → Site
site_in row x b = record { mem = mem_in row x; loaded = tells_in row loaded_at; phase = phase_in row; table = b }

-- what a row's recorder is set up with
abbrev pub set_up_from : List ℕ → SetUp
set_up_from row =
    let r = recorder_from row in
    set_up_with r.identity.identifier r.identity.class r.identity.weight r.clock.time r.energy.total r.energy.last

unfoldable pub set_up_in : List ℕ → Store → List ℕ → Left
set_up_in row x b = left_in row (set_up_site (set_up_from row) (phase_in row) x b)

unfoldable pub happens_in : List ℕ → Happening → Store → List ℕ → Left
happens_in row h x b = left_in row (happens (site_in row x b) h)

-- an output and the answer as one number
abbrev pub sent_as : Sent → Given
sent_as s = given s.out (number_of s.answer)

unfoldable pub read_in : List ℕ → ℕ → Store → List ℕ → Given
read_in row days x out = sent_as (read_of days (mem_in row x) out)

unfoldable pub write_in : List ℕ → ℕ → Store → List ℕ → Given
write_in row days x out = sent_as (write_of (header_from row) days x.values x.starts x.marks out)
