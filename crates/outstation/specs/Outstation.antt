-- An outstation (docs/TARIFF.md, "In the outstation"; docs/RULES.md, "Phases"): the recorder beside its store, a switching table that chooses its rate once one is loaded, and the phase kind, which says up to which rate may be
-- chosen at all.
use Rattle.std.specs.Prelude.{ℕ, Result, Bool, true, false, not, cond, ◌&&◌, List, [], ◌∷◌, eqb, ltb, leb, length}
use Rattle.answers.specs.declared.Refusal.{Refusal}
use Rattle.answers.specs.Answer.{judged_as}
use Rattle.laws.specs.Checks.{Check, check, first_failing}
use Rattle.recorder.specs.declared.Event.{Event}
use Rattle.recorder.specs.declared.Event.TheVariants.{Count, Clock, Off, On, Access, Meter, Reset, Rate, Reverse, Ppp, Adjust}
use Rattle.registers.specs.Energy.{rate_count}
use Rattle.store.specs.Class.{right_lengths}
use Rattle.recorder.specs.declared.Recorder.{Recorder}
use Rattle.recorder.specs.Recorder.{Mem, mem, with, cap_of}
use Rattle.recorder.specs.Effect.{rate_is}
use Rattle.recorder.specs.Answer.{no_class}
use Rattle.recorder.specs.Step.{carried_by, step}
use Rattle.tariff.specs.Table.{table_size}
use Rattle.tariff.specs.Judge.{names_above, judged}
use Rattle.tariff.specs.Rate.{rate_at}
use Rattle.outstation.specs.declared.Outstation.{Outstation}
use Rattle.outstation.specs.declared.Phase.{Phase}
use Rattle.outstation.specs.declared.Phase.TheVariants.{Single, Poly}
use Rattle.outstation.specs.declared.Happening.{Happening as Told}
use Rattle.outstation.specs.declared.Happening.TheVariants.{Of as ToldOf, Load as ToldLoad, Single as ToldSingle}

-- the highest rate that can be chosen; there are eight registers all the same
abbrev pub most_rate : Phase → ℕ
most_rate Single = 4
most_rate Poly = rate_count

-- the recorder with its store, whether a table is loaded, the phase kind, and the room of the table
pub record Site : Type 0 where
  pub mem : Mem
  pub loaded : Bool
  pub phase : Phase
  pub table : List ℕ

abbrev pub site : Outstation → List ℕ → List ℕ → List ℕ → List ℕ → Site
site o v s m b = record { mem = mem o.recorder v s m; loaded = o.loaded; phase = o.phase; table = b }

abbrev pub with_mem : Site → Mem → Site
with_mem x y = record { mem = y; loaded = x.loaded; phase = x.phase; table = x.table }

-- what happens: an event of the recorder; a load, which carries its table; or that it becomes single phase. In the code the table lies in a lent slice beside the case.
pub data Happening : Type 0 where
  of : Event → Happening
  load : List ℕ → Happening
  single : Happening

unfoldable pub happening : Told → List ℕ → Happening
happening (ToldOf e) b = of e
happening ToldLoad b = load b
happening ToldSingle b = single

abbrev pub is_rate : Event → Bool
is_rate (Count c) = false
is_rate (Clock t) = false
is_rate Off = false
is_rate (On t) = false
is_rate Access = false
is_rate (Meter c) = false
is_rate Reset = false
is_rate (Rate n) = true
is_rate Reverse = false
is_rate (Ppp a b c) = false
is_rate (Adjust h) = false

abbrev pub tells_time : Event → Bool
tells_time (Count c) = false
tells_time (Clock t) = true
tells_time Off = false
tells_time (On t) = true
tells_time Access = false
tells_time (Meter c) = false
tells_time Reset = false
tells_time (Rate n) = false
tells_time Reverse = false
tells_time (Ppp a b c) = false
tells_time (Adjust h) = true

-- Rate n with n above the highest
abbrev pub too_high : Phase → Event → Bool
too_high p (Count c) = false
too_high p (Clock t) = false
too_high p Off = false
too_high p (On t) = false
too_high p Access = false
too_high p (Meter c) = false
too_high p Reset = false
too_high p (Rate n) = ltb (most_rate p) n
too_high p Reverse = false
too_high p (Ppp a b c) = false
too_high p (Adjust h) = false

-- ---- the answer: 5 without a class, 4 for store and room; 5 for an active rate that can't be chosen; what the recorder answers; then 6 of the phase, 15 for a Rate while a table is loaded, and 6 and 14 of a load

-- what the recorder is asked: of a load, and to become single phase, a Rate that is always in range, which is refused with 4, 5 or 1 as any event is, and with nothing else
abbrev pub asked : Happening → Event
asked (of e) = e
asked (load b) = Rate 1
asked single = Rate 1

abbrev pub own_checks : Site → Happening → List Check
own_checks x (of e) = check (too_high x.phase e) 6 ∷ check (is_rate e && x.loaded) 15 ∷ []
own_checks x (load b) = check (names_above (most_rate x.phase) b) 6 ∷ check (not (eqb (judged b) 0)) (judged b) ∷ []
own_checks x single = check (x.loaded && names_above (most_rate Single) x.table) 6 ∷ []

abbrev pub misfit : Mem → Bool
misfit y = not (right_lengths (cap_of y.recorder) (length y.store.values) (length y.store.starts) (length y.store.marks))

unfoldable pub answer_of : Site → Happening → ℕ
answer_of x h =
    let a = (step x.mem (asked h)).answer in
    first_failing
    (check (no_class x.mem.recorder) 5
    ∷ check (not (eqb (length x.table) table_size)) 4
    ∷ check (misfit x.mem) 4
    ∷ check (ltb (most_rate x.phase) x.mem.recorder.energy.rate) 5
    ∷ check (not (eqb a 0)) a
    ∷ own_checks x h)

-- ---- the effect

abbrev pub may_choose : Phase → ℕ → Bool
may_choose p n = leb 1 n && leb n (most_rate p)

-- the rate at time t of an outstation whose rate is n: the table's where one is loaded and names one that can be chosen
unfoldable pub rate_then : Bool → Phase → List ℕ → ℕ → ℕ → ℕ
rate_then loaded p b t n = cond (loaded && may_choose p (rate_at b t)) (rate_at b t) n

abbrev pub chosen : Bool → Phase → List ℕ → Recorder → Recorder
chosen loaded p b r = rate_is (rate_then loaded p b r.clock.time r.energy.rate) r

abbrev pub switched : Site → Site
switched x = with_mem x (with x.mem (chosen x.loaded x.phase x.table x.mem.recorder))

-- where rate n was active, and rates above the fourth can no longer be chosen: rate 1 takes over from those
unfoldable pub rate_kept : ℕ → ℕ
rate_kept n = cond (leb n (most_rate Single)) n 1

abbrev pub converted : Recorder → Recorder
converted r = rate_is (rate_kept r.energy.rate) r

-- an event of the recorder, after which a time told switches; a load; single phase from now on, the registers as they are
abbrev pub after : Site → Happening → Site
after x (of e) = let y = with_mem x (step x.mem e).after in cond (tells_time e) (switched y) y
after x (load b) = switched (record { mem = x.mem; loaded = true; phase = x.phase; table = b })
after x single = record { mem = with x.mem (converted x.mem.recorder); loaded = x.loaded; phase = Single; table = x.table }

pub record Done : Type 0 where
  pub answer : ℕ
  pub carried : ℕ
  pub after : Site

abbrev pub done : Result (Unit {0}) Refusal → Outstation → List ℕ → List ℕ → List ℕ → List ℕ → Done
done a o v s m b = record { answer = judged_as a; carried = carried_by a; after = site o v s m b }

unfoldable pub happens : Site → Happening → Done
happens x h = record { answer = answer_of x h; carried = 0; after = cond (eqb (answer_of x h) 0) (after x h) x }

unfoldable pub run : Site → List Happening → Site
run x [] = x
run x (h ∷ hs) = run (happens x h).after hs
