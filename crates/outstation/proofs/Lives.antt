-- What is proved of an outstation from its set-up on.
-- Assumes nothing.
use Prim.Native.Nat.{ℕ, suc, ◌+◌, ◌%◌, ◌<◌, ◌≤◌}
use mathlib.Core.Path.{◌≡◌, refl, ap, ◌∙◌}
use mathlib.Core.Bool.{Bool, false≢true}
use mathlib.Core.List.{List, [], ◌∷◌}
use lib.Dec.{eqb}
use lib.ListN.{length, get_or, replicate, get_or-replicate}
use borrow.Author.Tests.{eq-eqb}
use native.Mathlib.Omega.{arith}
use Rattle.laws.proofs.Checks.{none_fails}
use Rattle.laws.proofs.Split.{by_test}
use Rattle.quantity.specs.declared.MilliwattHours.{MilliwattHours}
use Rattle.quantity.specs.Units.{total_round}
use Rattle.registers.specs.Energy.{rate_count, no_energy}
use Rattle.store.specs.Store.{Store}
use Rattle.recorder.specs.declared.SetUp.{SetUp}
use Rattle.recorder.specs.SetUp.{set_up_answer, set_up_with, started, fresh, made, set_up}
use Rattle.recorder.proofs.Kept.{Sound, made_sound}
use Rattle.outstation.specs.declared.Phase.{Phase}
use Rattle.outstation.specs.declared.Phase.TheVariants.{Single, Poly}
use Rattle.outstation.specs.Outstation.{most_rate, Site, Happening, of, load, single, tells_time, answer_of, happens, run}
use Rattle.outstation.specs.SetUp.{site_checks, begun, set_up_site}
use Rattle.outstation.specs.Lives.{table_set, last_table, loaded_set, some_load, phase_set, last_phase, counted_at, SiteLives}
use Rattle.outstation.proofs.Runs.{Going}
use Rattle.outstation.proofs.Agreeing.{going, all, agrees}
use Rattle.outstation.proofs.Counted.{single_rates, long, counted, stays_single, stands}

-- ---- set-up

-- rate 1 can be chosen on both
one_low : (p : Phase) → 1 ≤ most_rate p
one_low Single = omega arith
one_low Poly = omega arith

module _ (s : SetUp) (p : Phase) (x : Store) (b : List ℕ) (a : (set_up_site s p x b).answer ≡ 0) where
  pub recorder_set_up : (set_up s x).answer ≡ 0
  unfolding set_up_site set_up set_up_with
  recorder_set_up = let n = none_fails (site_checks s x b) refl a in rw (n.0, n.1.0)

  pub recorder_made : (set_up s x).after ≡ made s
  unfolding set_up
  recorder_made = rw (eq-eqb (set_up_answer s x) 0 recorder_set_up)

  pub site_begun : (set_up_site s p x b).after ≡ begun s p
  unfolding set_up_site
  site_begun = rw (eq-eqb _ 0 a)

  pub begun_sound : Sound (made s)
  unfolding set_up
  begun_sound = made_sound s x recorder_set_up

  pub begins : Going (begun s p)
  unfolding made fresh started
  begins = record { sound = begun_sound; keeps = record { named = λ l. absurd (false≢true l); rate = λ l. absurd (false≢true l); low = one_low p } }

-- ---- the last accepted table

record Held (x : Site) (h : Happening) : Type 0 where
  table : (happens x h).after.table ≡ table_set x.table x h
  loaded : (happens x h).after.loaded ≡ loaded_set x.loaded x h
  phase : (happens x h).after.phase ≡ phase_set x.phase x h

held : (x : Site) (h : Happening) → Held x h
unfolding happens
held x (of e) =
    record {
      table = by_test (eqb (answer_of x (of e)) 0) (λ z. rw z (by_test (tells_time e) (λ t. rw t) (λ t. rw t))) (λ z. rw z);
      loaded = by_test (eqb (answer_of x (of e)) 0) (λ z. rw z (by_test (tells_time e) (λ t. rw t) (λ t. rw t))) (λ z. rw z);
      phase = by_test (eqb (answer_of x (of e)) 0) (λ z. rw z (by_test (tells_time e) (λ t. rw t) (λ t. rw t))) (λ z. rw z);
    }
held x (load f) =
    record {
      table = by_test (eqb (answer_of x (load f)) 0) (λ z. rw z) (λ z. rw z);
      loaded = by_test (eqb (answer_of x (load f)) 0) (λ z. rw z) (λ z. rw z);
      phase = by_test (eqb (answer_of x (load f)) 0) (λ z. rw z) (λ z. rw z);
    }
held x single =
    record {
      table = by_test (eqb (answer_of x single) 0) (λ z. rw z) (λ z. rw z);
      loaded = by_test (eqb (answer_of x single) 0) (λ z. rw z) (λ z. rw z);
      phase = by_test (eqb (answer_of x single) 0) (λ z. rw z) (λ z. rw z);
    }

last_table_lem : (hs : List Happening) (x : Site) → (run x hs).table ≡ last_table x.table x hs
unfolding run last_table
last_table_lem [] x = refl
last_table_lem (h ∷ hs) x = last_table_lem hs (happens x h).after ∙ ap (λ (b : List ℕ). last_table b (happens x h).after hs) (held x h).table

some_load_lem : (hs : List Happening) (x : Site) → (run x hs).loaded ≡ some_load x.loaded x hs
unfolding run some_load
some_load_lem [] x = refl
some_load_lem (h ∷ hs) x = some_load_lem hs (happens x h).after ∙ ap (λ (b : Bool). some_load b (happens x h).after hs) (held x h).loaded

last_phase_lem : (hs : List Happening) (x : Site) → (run x hs).phase ≡ last_phase x.phase x hs
unfolding run last_phase
last_phase_lem [] x = refl
last_phase_lem (h ∷ hs) x = last_phase_lem hs (happens x h).after ∙ ap (λ (p : Phase). last_phase p (happens x h).after hs) (held x h).phase

-- ---- a life

fresh_rates : (s : SetUp) → (made s).recorder.energy.rates ≡ replicate rate_count no_energy
unfolding made fresh started
fresh_rates s = refl

begun_rates : (s : SetUp) → length (made s).recorder.energy.rates ≡ rate_count
begun_rates s = rw (fresh_rates s)

begun_zero : (s : SetUp) (i : ℕ) → i < rate_count → (get_or (made s).recorder.energy.rates i no_energy).0 ≡ 0
begun_zero s i l = rw (fresh_rates s) (ap (λ (w : MilliwattHours). w.0) (get_or-replicate rate_count i no_energy no_energy l))

none : (n : ℕ) → (0 + n) % total_round ≡ n % total_round
none n = omega arith

pub site_lives : SiteLives
site_lives s p x b hs a =
    let y = begun s p in
    let first = site_begun s p x b a in
    let begin = begins s p x b a in
    let g = going hs y begin in
    let eight = long hs y begin (begun_rates s) in
    record {
      set_up_holds = recorder_set_up s p x b a;
      simulated = rw (first, recorder_made s p x b a) (all hs y begin);
      loaded = rw first (some_load_lem hs y);
      table = rw first (last_table_lem hs y);
      agrees = rw first (agrees (run y hs) g);
      energy = λ i l. rw first (counted hs y begin (begun_rates s) i l ∙ ap (λ (n : ℕ). (n + counted_at (suc i) y hs) % total_round) (begun_zero s i l) ∙ none (counted_at (suc i) y hs));
      phase = rw first (last_phase_lem hs y);
      least = rw first g.sound.ranges.energy.low;
      most = rw first g.keeps.low;
      unmoved = single_rates (run (set_up_site s p x b).after hs);
      stays = rw first (λ q ks. stays_single ks (run y hs) q);
      stands = rw first (λ q ks i h l. stands i h l ks (run y hs) g eight q);
    }
