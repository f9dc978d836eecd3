-- A run: calls to one recorder from its set-up on, events and reads, each taking the recorder and the store that the last one left.
-- The blocks of a run are what its accepted reads sent (docs/RULES.md, "Answer numbers": the answer carries the block's bytes).
use Rattle.std.specs.Prelude.{ℕ, ◌/◌, ◌<◌, ◌≡◌, cond, List, [], ◌∷◌, ◌++◌, eqb, take, get_or}
use Rattle.quantity.specs.Units.{kwh_of_unit, kilowatt_hours}
use Rattle.block.specs.declared.Header.{Header}
use Rattle.registers.specs.Energy.{rate_count, no_energy}
use Rattle.recorder.specs.declared.Recorder.{Recorder}
use Rattle.writer.specs.Send.{Sent}
use Rattle.recorder.specs.declared.Event.{Event}
use Rattle.recorder.specs.Recorder.{Mem}
use Rattle.recorder.specs.Step.{step}
use Rattle.readout.specs.Read.{read_of, read_back}

-- an event; or a read that asks for so many days, lent an output
pub data Call : Type 0 where
  happens : Event → Call
  reads : ℕ → List ℕ → Call

-- the recorder and the store after a call
abbrev pub left : Mem → Call → Mem
left x (happens e) = (step x e).after
left x (reads n out) = record { recorder = (read_back n x out).handed.recorder; store = x.store }

unfoldable pub run_all : Mem → List Call → Mem
run_all x [] = x
run_all x (c ∷ cs) = run_all (left x c) cs

abbrev pub events_of : List Call → List Event
events_of [] = []
events_of (happens e ∷ cs) = e ∷ events_of cs
events_of (reads n out ∷ cs) = events_of cs

-- the block in an output
abbrev pub block_of : Sent → List ℕ
block_of s = take s.answer.carried s.out

abbrev pub sends : Mem → Call → List (List ℕ)
sends x (happens e) = []
sends x (reads n out) = cond (eqb (read_of n x out).answer.number 0) (block_of (read_of n x out) ∷ []) []

unfoldable pub blocks_in : Mem → List Call → List (List ℕ)
blocks_in x [] = []
blocks_in x (c ∷ cs) = sends x c ++ blocks_in (left x c) cs

-- the read that sent the bytes b: one of the calls, which asked so many days of the recorder as the earlier calls left it, and was answered 0
pub record ReadIn (x : Mem) (cs : List Call) (b : List ℕ) : Type 0 where
  pub earlier : List Call
  pub asked : ℕ
  pub out : List ℕ
  pub later : List Call
  pub whole : cs ≡ earlier ++ (reads asked out ∷ later)
  pub accepted : (read_of asked (run_all x earlier) out).answer.number ≡ 0
  pub bytes : b ≡ block_of (read_of asked (run_all x earlier) out)

-- a header h has a recorder's registers: energy in whole kWh, demands, reset date and count as they stand
pub record Registers (r : Recorder) (h : Header) : Type 0 where
  pub identifier : h.identifier ≡ r.identity.identifier
  pub time : h.time ≡ r.clock.time
  pub kwh : h.kwh.0 ≡ r.energy.total.0 / kwh_of_unit
  pub current : h.current.0 ≡ r.demand.current.0
  pub previous : h.previous.0 ≡ r.demand.previous.0
  pub cumulative : h.cumulative.0 ≡ r.demand.cumulative.0
  pub reset : h.reset ≡ r.demand.reset
  pub count : h.count ≡ r.demand.count
  pub rate : (i : ℕ) → i < rate_count → (get_or h.rates i (kilowatt_hours 0)).0 ≡ (get_or r.energy.rates i no_energy).0 / kwh_of_unit
