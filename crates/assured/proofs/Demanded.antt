-- The demands of an outstation with a switching table, from those of the recorder's own runs.
-- Assumes nothing.
use Prim.Native.Nat.{ℕ, ◌+◌, ◌%◌}
use mathlib.Core.Path.{◌≡◌, refl, sym, ap, subst, ◌∙◌}
use mathlib.Core.List.{List, [], ◌∷◌, ◌++◌}
use lib.ListN.{get_or}
use borrow.Author.Tests.{ne_eqb}
use Rattle.laws.specs.Tests.{sum_below}
use Rattle.quantity.specs.Units.{total_round}
use Rattle.registers.specs.Energy.{rate_count, no_energy}
use Rattle.store.specs.Store.{Store}
use Rattle.recorder.specs.declared.SetUp.{SetUp}
use Rattle.recorder.specs.declared.Event.{Event}
use Rattle.recorder.specs.Recorder.{Mem}
use Rattle.recorder.specs.Step.{step, run as play}
use Rattle.recorder.specs.SetUp.{started, blank}
use Rattle.readout.specs.Read.{read_of, read_back}
use Rattle.outstation.specs.declared.Phase.{Phase}
use Rattle.outstation.specs.Outstation.{Site, Happening, answer_of, happens}
use Rattle.outstation.specs.SetUp.{begun, set_up_site}
use Rattle.outstation.specs.Lives.{told, told_all}
use Rattle.outstation.proofs.Runs.{Going, one}
use Rattle.outstation.proofs.Agreeing.{goes_on}
use Rattle.outstation.proofs.Lives.{recorder_set_up, recorder_made, site_begun, begins as going, site_lives}
use Rattle.assurance.specs.Run as base
use Rattle.assurance.specs.Run.{Call, sends, run_all, blocks_in}
use Rattle.assurance.proofs.Demands.{demand_2, demand_3}
use Rattle.assured.specs.Switched.{Asked, happening, reading, leaves, run_site, blocks_of, events, calls, Switched1, Switched2, Switched3, Switched}

-- ---- the calls to the recorder that an outstation's amount to

-- events send nothing, and leave what they leave
blocks_after : (es : List Event) (cs : List Call) (y : Mem) → blocks_in y (events es cs) ≡ blocks_in (play y es) cs
unfolding events play blocks_in
blocks_after [] cs y = refl
blocks_after (e ∷ es) cs y = blocks_after es cs (step y e).after

run_after : (es : List Event) (cs : List Call) (y : Mem) → run_all y (events es cs) ≡ run_all (play y es) cs
unfolding run_all events play
run_after [] cs y = refl
run_after (e ∷ es) cs y = run_after es cs (step y e).after

-- a read leaves all
read_going : (x : Site) (n : ℕ) (out : List ℕ) → Going x → Going (leaves x (reading n out))
unfolding read_back
read_going x n out g = g

same_blocks : (cs : List Asked) (x : Site) → Going x → blocks_in x.mem (calls x cs) ≡ blocks_of x cs
unfolding calls blocks_of blocks_in
same_blocks [] x g = refl
same_blocks (happening h ∷ cs) x g =
    blocks_after (told x h) (calls (happens x h).after cs) x.mem
    ∙ ap (λ (y : Mem). blocks_in y (calls (happens x h).after cs)) (one x h g)
    ∙ same_blocks cs (happens x h).after (goes_on x h g)
same_blocks (reading n out ∷ cs) x g =
    ap (λ (r : List (List ℕ)). sends x.mem (base.reads n out) ++ r) (same_blocks cs (leaves x (reading n out)) (read_going x n out g))

same_run : (cs : List Asked) (x : Site) → Going x → run_all x.mem (calls x cs) ≡ (run_site x cs).mem
unfolding calls run_site run_all
same_run [] x g = refl
same_run (happening h ∷ cs) x g =
    run_after (told x h) (calls (happens x h).after cs) x.mem
    ∙ ap (λ (y : Mem). run_all y (calls (happens x h).after cs)) (one x h g)
    ∙ same_run cs (happens x h).after (goes_on x h g)
same_run (reading n out ∷ cs) x g = same_run cs (leaves x (reading n out)) (read_going x n out g)

-- ---- demand 1

refuses : Switched1
unfolding set_up_site happens answer_of blank started
refuses = record {
  set_up_holds = λ s p x b ne. rw (ne_eqb _ 0 ne);
  refused = λ x h ne. rw (ne_eqb _ 0 ne);
  blank_refused = λ x b h. refl;
}

-- ---- demands 2 and 3

module _ (s : SetUp) (p : Phase) (x : Store) (b : List ℕ) (a : (set_up_site s p x b).answer ≡ 0) where
  abbrev first : Site
  first = (set_up_site s p x b).after

  abbrev adds_up : Mem → Type 0
  adds_up y = (s.total.0 + sum_below (λ i. (get_or y.recorder.energy.rates i no_energy).0) rate_count) % total_round ≡ y.recorder.energy.total.0

  lives : (cs : List Asked) (hs : List Happening) → Switched2 s p x b cs hs
  lives cs hs =
      let site = site_lives s p x b hs a in
      let life = demand_2.life s x (told_all first hs) (recorder_set_up s p x b a) in
      record {
        site = site;
        life = life;
        total = subst adds_up site.simulated life.means.rates;
        read = λ n out.
            ap (λ (y : Mem). read_of n y out)
            (rw (site_begun s p x b a) (sym (same_run cs (begun s p) (going s p x b a)) ∙ ap (λ (y : Mem). run_all y (calls (begun s p) cs)) (sym (recorder_made s p x b a))))
            ∙ demand_2.read s x (calls first cs) n out (recorder_set_up s p x b a);
      }

  delivers : Switched3 s p x b
  delivers cs l id first_day_lem days bs same o drawn =
      demand_3 s x (calls first cs) l id first_day_lem days bs (recorder_set_up s p x b a) same o
      (λ k m. rw (recorder_made s p x b a, site_begun s p x b a, same_blocks cs (begun s p) (going s p x b a)) (rw (site_begun s p x b a) at (drawn k m)))

pub switched : Switched
switched = record { demand_1 = refuses; demand_2 = lives; demand_3 = delivers }
