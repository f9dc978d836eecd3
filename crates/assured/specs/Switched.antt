-- The demands of an outstation whose rate a switching table may choose, of either phase kind: what happens to it, loads of any bytes and becoming single phase among that, and reads. It sends the blocks of a run of the recorder's own events, so
-- demands 2 and 3 hold of it in the same words: `Life`, `sent_due`, `Holds`.
use Rattle.std.specs.Prelude.{ℕ, ◌+◌, ◌%◌, ◌≡◌}
use mathlib.Core.List.{List, [], ◌∷◌, ◌++◌, Memᴰ}
use Rattle.laws.specs.Tests.{sum_below}
use Rattle.quantity.specs.Units.{total_round}
use Rattle.format.specs.Identifier.{SameMeter}
use Rattle.registers.specs.Energy.{rate_count}
use Rattle.store.specs.Store.{Store}
use Rattle.recorder.specs.declared.SetUp.{SetUp}
use Rattle.recorder.specs.declared.Event.{Event}
use Rattle.ledger.specs.Open.{open_of}
use Rattle.readout.specs.Read.{read_of}
use Rattle.outstation.specs.declared.Phase.{Phase}
use Rattle.outstation.specs.Outstation.{Site, with_mem, Happening, happens, run}
use Rattle.outstation.specs.SetUp.{not_begun, set_up_site}
use Rattle.outstation.specs.Lives.{told, told_all, register, SiteLife}
use Rattle.assurance.specs.Demands.{Refused}
use Rattle.assurance.specs.Written.{paper}
use Rattle.assurance.specs.Sent.{sent_due}
use Rattle.assurance.specs.Run as base
use Rattle.assurance.specs.Run.{Call, left, sends, events_of}
use Rattle.assurance.specs.Life.{Life}
use Rattle.assurance.specs.Delivered.{Holds}

-- something happens, or a read
pub data Asked : Type 0 where
  happening : Happening → Asked
  reading : ℕ → List ℕ → Asked

abbrev pub leaves : Site → Asked → Site
leaves x (happening h) = (happens x h).after
leaves x (reading n out) = with_mem x (left x.mem (base.reads n out))

unfoldable pub run_site : Site → List Asked → Site
run_site x [] = x
run_site x (c ∷ cs) = run_site (leaves x c) cs

abbrev pub sent : Site → Asked → List (List ℕ)
sent x (happening h) = []
sent x (reading n out) = sends x.mem (base.reads n out)

unfoldable pub blocks_of : Site → List Asked → List (List ℕ)
blocks_of x [] = []
blocks_of x (c ∷ cs) = sent x c ++ blocks_of (leaves x c) cs

-- the calls to the recorder that they amount to
unfoldable pub events : List Event → List Call → List Call
events [] cs = cs
events (e ∷ es) cs = base.happens e ∷ events es cs

unfoldable pub calls : Site → List Asked → List Call
calls x [] = []
calls x (happening h ∷ cs) = events (told x h) (calls (happens x h).after cs)
calls x (reading n out ∷ cs) = base.reads n out ∷ calls (leaves x (reading n out)) cs

-- Demand 1: a refusal hands back the outstation given, and store and table hold the bytes they held; a refused set-up gives the blank one, which is refused with 5
pub record Switched1 : Type 0 where
  pub set_up_holds : (s : SetUp) (p : Phase) (x : Store) (b : List ℕ) → Refused (set_up_site s p x b).answer → (set_up_site s p x b).after ≡ not_begun x b
  pub refused : (x : Site) (h : Happening) → Refused (happens x h).answer → (happens x h).after ≡ x
  pub blank_refused : (x : Store) (b : List ℕ) (h : Happening) → (happens (not_begun x b) h).answer ≡ 5

module _ (s : SetUp) (p : Phase) (x : Store) (b : List ℕ) where
  abbrev pub begins : Site
  begins = (set_up_site s p x b).after

  -- Demand 2: what a life says, of the recorder and the store where an outstation's ends (`SiteLife`, `simulated`); the total, which is the start total and all eight registers; and what each read sends
  pub record Switched2 (cs : List Asked) (hs : List Happening) : Type 0 where
    pub site : SiteLife s p x b hs
    pub life : Life s x (told_all begins hs)
    pub total : (s.total.0 + sum_below (register (run begins hs)) rate_count) % total_round ≡ (run begins hs).mem.recorder.energy.total.0
    pub read : (asked : ℕ) (out : List ℕ) → read_of asked (run_site begins cs).mem out ≡ sent_due s (paper s (events_of (calls begins cs))) asked out

  -- Demand 3: blocks of an outstation's reads, any left out, any repeated, in any order, filed in a fresh ledger of that meter
  abbrev pub Switched3 : Type 0
  Switched3 =
      (cs : List Asked) (l id : List ℕ) (first days : ℕ) (bs : List (List ℕ))
      → SameMeter id s.identifier → (open_of l id first days).answer ≡ 0
      → ((k : List ℕ) → Memᴰ k bs → Memᴰ k (blocks_of begins cs))
      → Holds s x (calls begins cs) l id first days bs

pub record Switched : Type 0 where
  pub demand_1 : Switched1
  pub demand_2 : (s : SetUp) (p : Phase) (x : Store) (b : List ℕ) → (set_up_site s p x b).answer ≡ 0 → (cs : List Asked) (hs : List Happening) → Switched2 s p x b cs hs
  pub demand_3 : (s : SetUp) (p : Phase) (x : Store) (b : List ℕ) → (set_up_site s p x b).answer ≡ 0 → Switched3 s p x b
