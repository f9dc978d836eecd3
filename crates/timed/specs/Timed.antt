-- What the loops that are timed do: set-up with fixed values, a load, then events one after another, or loads, each handing outstation, store and table to the next.
use Rattle.std.specs.Prelude.{ℕ, ◌*◌, cond, List, eqb}
use Rattle.laws.specs.Each.{for_to}
use Rattle.store.specs.Store.{Store}
use Rattle.recorder.specs.declared.Event.TheVariants.{Count, Clock}
use Rattle.outstation.specs.declared.Happening.{Happening}
use Rattle.outstation.specs.declared.Happening.TheVariants.{Of, Load}
use Rattle.outstation.specs.declared.Phase.TheVariants.{Poly}
use Rattle.outstation.specs.Outstation.{Site, happening, happens}
use Rattle.outstation.specs.SetUp.{set_up_site}
use Rattle.timing.specs.Timed.{meter}
use Rattle.timed.specs.declared.Course.{Course}
use Rattle.timed.specs.declared.Course.TheVariants.{Counts, Clocks, Loads}

unfoldable pub begun : Store → List ℕ → Site
begun x b = (set_up_site meter Poly x b).after

-- the i-th: the counter goes on by one pulse each time, or the time by so many seconds; the first is the load
abbrev pub later : Course → ℕ → Happening
later Counts i = Of (Count i)
later (Clocks by) i = Of (Clock (by * i))
later Loads i = Load

unfoldable pub nth : Course → ℕ → Happening
nth course i = cond (eqb i 0) Load (later course i)

unfoldable pub coming : Course → List ℕ → ℕ → Site → Site
coming course f i x = (happens x (happening (nth course i) f)).after

-- n of them
unfoldable pub played : Course → ℕ → List ℕ → Store → List ℕ → Site
played course n f x b = for_to (coming course f) 0 n (begun x b)

-- what is answered, the total, the time or the rate, beside store and table
pub record Told : Type 0 where
  pub answer : ℕ
  pub store : Store
  pub table : List ℕ

abbrev pub told : ℕ → Store → List ℕ → Told
told answer s b = record { answer = answer; store = s; table = b }

abbrev pub total_of : Site → Told
total_of x = told x.mem.recorder.energy.total.0 x.mem.store x.table

abbrev pub time_of : Site → Told
time_of x = told x.mem.recorder.clock.time x.mem.store x.table

abbrev pub rate_of : Site → Told
rate_of x = told x.mem.recorder.energy.rate x.mem.store x.table
