-- Many boundaries: Clock(t) keeps what the paper says, and leaves the registers of energy.
-- Assumes nothing.
use Prim.Native.Nat.{ℕ, ◌/◌, ◌≤◌}
use mathlib.Core.Path.{◌≡◌, refl, ◌∙◌}
use native.Mathlib.Numerals.{add-one}
use Rattle.laws.specs.Each.{for_to}
use Rattle.laws.proofs.Loop.{for_keeps}
use Rattle.recorder.specs.declared.SetUp.{SetUp}
use Rattle.recorder.specs.Recorder.{Mem}
use Rattle.recorder.specs.Boundary.{ended, close_one, close_at, advance_to}
use Rattle.assurance.specs.Paper.{Tape}
use Rattle.assurance.proofs.Kept.{KeptAt}
use Rattle.assurance.proofs.Close.{close_on}

-- the state of half-hour i on the way from x
record Going (s : SetUp) (p : Tape) (x : Mem) (i : ℕ) (y : Mem) : Type 0 where
  kept : KeptAt s p i y
  energy : y.recorder.energy ≡ x.recorder.energy
  identity : y.recorder.identity ≡ x.recorder.identity

energy_on : (x : Mem) → (close_one x).recorder.energy ≡ x.recorder.energy
unfolding close_one ended
energy_on x = refl

identity_on : (x : Mem) → (close_one x).recorder.identity ≡ x.recorder.identity
unfolding close_one ended
identity_on x = refl

module _ (s : SetUp) (p : Tape) (q t : ℕ) (x : Mem) (g : KeptAt s p q x) (l : q ≤ t / 1800) where
  going : Going s p x (t / 1800) (for_to close_at q (t / 1800) x)
  going =
      for_keeps (Going s p x) close_at q (t / 1800) x l
      (λ i y _ _ h. record { kept = rw (add-one i) (close_on s p i y h.kept); energy = energy_on y ∙ h.energy; identity = identity_on y ∙ h.identity })
      (record { kept = g; energy = refl; identity = refl })

  pub pass_kept : KeptAt s p (t / 1800) (advance_to t x)
  unfolding advance_to
  pass_kept =
      let k = going.kept in
      rw g.clock.here
      record {
        identity = k.identity;
        clock = record { begun = k.clock.begun; here = refl; days = k.clock.days };
        energy = k.energy;
        demand = k.demand;
        running = k.running;
        no_flags = k.no_flags;
        store = k.store;
      }

  pub pass_energy : (advance_to t x).recorder.energy ≡ x.recorder.energy
  unfolding advance_to
  pass_energy = rw g.clock.here going.energy

  pub pass_identity : (advance_to t x).recorder.identity ≡ x.recorder.identity
  unfolding advance_to
  pass_identity = rw g.clock.here going.identity
