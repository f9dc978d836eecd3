-- What is proved of an outstation from its set-up on, whatever happens to it, loads of any bytes, becoming single phase and refusals among it.
use Rattle.std.specs.Prelude.{ℕ, suc, ◌+◌, ◌%◌, ◌<◌, ◌≤◌, ◌≡◌, Bool, true, false, cond, ◌&&◌, List, [], ◌∷◌, ◌++◌, eqb, leb, get_or}
use Rattle.quantity.specs.Units.{total_round}
use Rattle.registers.specs.Energy.{rate_count, no_energy, added_of}
use Rattle.store.specs.Store.{Store}
use Rattle.recorder.specs.declared.SetUp.{SetUp}
use Rattle.recorder.specs.declared.Event.{Event}
use Rattle.recorder.specs.declared.Event.TheVariants.{Count, Clock, Off, On, Access, Meter, Reset, Rate, Reverse, Ppp, Adjust}
use Rattle.recorder.specs.Step.{step, run as play}
use Rattle.recorder.specs.SetUp.{set_up}
use Rattle.tariff.specs.Table.{slots_of}
use Rattle.tariff.specs.Judge.{judged}
use Rattle.tariff.specs.Rate.{rate_at}
use Rattle.tariff.specs.Saved.{Says}
use Rattle.outstation.specs.declared.Phase.{Phase}
use Rattle.outstation.specs.declared.Phase.TheVariants.{Single}
use Rattle.outstation.specs.Outstation.{most_rate, Site, Happening, of, load, single, tells_time, answer_of, happens, run}
use Rattle.outstation.specs.SetUp.{set_up_site}

-- ---- the events of the recorder that it amounts to: those of one without a table, to which someone sends the Rate events

abbrev pub moves : Site → Happening → List Event
moves x (of e) = e ∷ cond (tells_time e && x.loaded) (Rate (rate_at x.table (step x.mem e).after.recorder.clock.time) ∷ []) []
moves x (load b) = Rate (rate_at b x.mem.recorder.clock.time) ∷ []
moves x single = cond (leb x.mem.recorder.energy.rate (most_rate Single)) [] (Rate 1 ∷ [])

unfoldable pub told : Site → Happening → List Event
told x h = cond (eqb (answer_of x h) 0) (moves x h) []

unfoldable pub told_all : Site → List Happening → List Event
told_all x [] = []
told_all x (h ∷ hs) = told x h ++ told_all (happens x h).after hs

-- ---- the last accepted table: the bytes of the room before any was, and whether one was

abbrev pub table_set : List ℕ → Site → Happening → List ℕ
table_set b x (of e) = b
table_set b x (load f) = cond (eqb (answer_of x (load f)) 0) f b
table_set b x single = b

unfoldable pub last_table : List ℕ → Site → List Happening → List ℕ
last_table b x [] = b
last_table b x (h ∷ hs) = last_table (table_set b x h) (happens x h).after hs

abbrev pub loaded_set : Bool → Site → Happening → Bool
loaded_set k x (of e) = k
loaded_set k x (load f) = cond (eqb (answer_of x (load f)) 0) true k
loaded_set k x single = k

unfoldable pub some_load : Bool → Site → List Happening → Bool
some_load k x [] = k
some_load k x (h ∷ hs) = some_load (loaded_set k x h) (happens x h).after hs

-- ---- the phase kind: single phase once it has become so

abbrev pub phase_set : Phase → Site → Happening → Phase
phase_set p x (of e) = p
phase_set p x (load f) = p
phase_set p x single = cond (eqb (answer_of x single) 0) Single p

unfoldable pub last_phase : Phase → Site → List Happening → Phase
last_phase p x [] = p
last_phase p x (h ∷ hs) = last_phase (phase_set p x h) (happens x h).after hs

-- ---- the energy of the Counts accepted while rate n was active

abbrev pub energy_in : Site → Happening → ℕ
energy_in x (of (Count c)) = cond (eqb (answer_of x (of (Count c))) 0) (added_of x.mem.recorder.identity.weight x.mem.recorder.energy.last c).0 0
energy_in x (of (Clock t)) = 0
energy_in x (of Off) = 0
energy_in x (of (On t)) = 0
energy_in x (of Access) = 0
energy_in x (of (Meter c)) = 0
energy_in x (of Reset) = 0
energy_in x (of (Rate n)) = 0
energy_in x (of Reverse) = 0
energy_in x (of (Ppp a b c)) = 0
energy_in x (of (Adjust h)) = 0
energy_in x (load b) = 0
energy_in x single = 0

unfoldable pub counted_at : ℕ → Site → List Happening → ℕ
counted_at n x [] = 0
counted_at n x (h ∷ hs) = cond (eqb x.mem.recorder.energy.rate n) (energy_in x h) 0 + counted_at n (happens x h).after hs

-- ---- what is proved

-- while a table is loaded, it is an accepted one, and the active rate is the one that it says at the present time
pub record Agrees (x : Site) : Type 0 where
  pub accepted : judged x.table ≡ 0
  pub rate : x.mem.recorder.energy.rate ≡ rate_at x.table x.mem.recorder.clock.time
  pub says : Says (slots_of x.table) x.mem.recorder.clock.time x.mem.recorder.energy.rate

abbrev pub register : Site → ℕ → ℕ
register x i = (get_or x.mem.recorder.energy.rates i no_energy).0

module _ (s : SetUp) (p : Phase) (x : Store) (b : List ℕ) (hs : List Happening) where
  abbrev pub first : Site
  first = (set_up_site s p x b).after

  abbrev pub last : Site
  last = run first hs

  pub record SiteLife : Type 0 where
    -- recorder and store are those of a run of the recorder's own events, so every theorem of such runs holds of it
    pub set_up_holds : (set_up s x).answer ≡ 0
    pub simulated : play (set_up s x).after (told_all first hs) ≡ last.mem
    -- a table is loaded where a load was accepted, and the room holds the last one that was
    pub loaded : last.loaded ≡ some_load false first hs
    pub table : last.table ≡ last_table first.table first hs
    pub agrees : last.loaded ≡ true → Agrees last
    -- each rate register has the energy counted while its rate was active
    pub energy : (i : ℕ) → i < rate_count → register last i ≡ counted_at (suc i) first hs % total_round
    -- it is single phase where it was set up so or became so; the active rate is one that can be chosen
    pub phase : last.phase ≡ last_phase p first hs
    pub least : 1 ≤ last.mem.recorder.energy.rate
    pub most : last.mem.recorder.energy.rate ≤ most_rate last.phase
    -- becoming single phase moves nothing between registers
    pub unmoved : (happens last single).after.mem.recorder.energy.rates ≡ last.mem.recorder.energy.rates
    -- once it is single phase it stays so, and the registers above the highest rate stand, whatever happens
    pub stays : last.phase ≡ Single → (ks : List Happening) → (run last ks).phase ≡ Single
    pub stands : last.phase ≡ Single → (ks : List Happening) (i : ℕ) → most_rate Single ≤ i → i < rate_count → register (run last ks) i ≡ register last i

abbrev pub SiteLives : Type 0
SiteLives = (s : SetUp) (p : Phase) (x : Store) (b : List ℕ) (hs : List Happening) → (set_up_site s p x b).answer ≡ 0 → SiteLife s p x b hs
