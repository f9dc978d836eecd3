-- Set-up of an outstation, in the form that the proofs of the code look for.
-- Assumes nothing.
use Prim.Native.Nat.{ℕ}
use mathlib.Core.Path.{◌≡◌, refl, sym, ap, ◌∙◌}
use mathlib.Core.Bool.{false, not, cond}
use mathlib.Core.List.{List, [], ◌∷◌}
use lib.Dec.{eqb}
use lib.ListN.{length, replicate}
use borrow.Author.Tests.{eq-eqb, ne_eqb}
use Rattle.std.specs.Prelude.{Ok, Err}
use Rattle.answers.specs.declared.Refusal.{Refusal}
use Rattle.answers.specs.declared.Refusal.TheVariants.{Length}
use Rattle.answers.specs.Answer.{number_of, carried_of}
use Rattle.laws.specs.Checks.{check, first_failing}
use Rattle.laws.proofs.Checks.{refused_first, passed_first}
use Rattle.store.specs.Store.{store}
use Rattle.recorder.specs.declared.SetUp.{SetUp}
use Rattle.recorder.specs.declared.Recorder.{Recorder}
use Rattle.recorder.specs.Recorder.{Mem, mem}
use Rattle.recorder.specs.Step.{Done as Stepping, done as stepping}
use Rattle.recorder.specs.SetUp.{set_up_checks, set_up_with, made, set_up}
use Rattle.recorder.proofs.Answers.{number_some}
use Rattle.tariff.specs.Table.{table_size}
use Rattle.outstation.specs.declared.Phase.{Phase}
use Rattle.outstation.specs.Outstation.{Done}
use Rattle.outstation.specs.SetUp.{site_checks, begun, set_up_site, begun_as}

module _ (s : SetUp) (p : Phase) (v t m b : List ℕ) where
  abbrev checked : ℕ
  checked = first_failing (site_checks s (store v t m) b)

  site_refused : (e : Refusal) → carried_of e ≡ 0 → checked ≡ number_of e → begun_as (Err e) v t m b ≡ set_up_site s p (store v t m) b
  unfolding set_up_site
  site_refused e c q = rw (q, ne_eqb (number_of e) 0 (number_some e), c)

  site_begun : checked ≡ 0 → set_up_site s p (store v t m) b ≡ record { answer = 0; carried = 0; after = begun s p }
  unfolding set_up_site
  site_begun q = rw q

  -- what the recorder's set-up is refused for
  pub set_up_refused : (e : Refusal) → number_of e ≡ set_up_with s (length v) (length t) (length m) → carried_of e ≡ 0 → begun_as (Err e) v t m b ≡ set_up_site s p (store v t m) b
  unfolding set_up_with
  set_up_refused e a c =
      site_refused e c
      (sym (a ∙ refused_first (set_up_checks s (length v) (length t) (length m)) (check (not (eqb (length b) table_size)) 4 ∷ []) (λ z. number_some e (a ∙ z))))

  module _ (a : 0 ≡ set_up_with s (length v) (length t) (length m)) where
    room_alone : checked ≡ cond (not (eqb (length b) table_size)) 4 0
    unfolding set_up_with
    room_alone = sym (passed_first (set_up_checks s (length v) (length t) (length m)) (check (not (eqb (length b) table_size)) 4 ∷ []) refl (sym a))

    pub set_up_no_room : (length b ≡ table_size → ⊥) → begun_as (Err Length) v t m b ≡ set_up_site s p (store v t m) b
    set_up_no_room ne = site_refused Length refl (room_alone ∙ rw (ne_eqb (length b) table_size ne))

    -- the recorder's own set-up judges once more
    pub set_up_never : (e : Refusal) (r : Recorder) (v₁ t₁ m₁ : List ℕ) → stepping (Err e) r v₁ t₁ m₁ ≡ set_up s (store v t m) → ⊥
    unfolding set_up
    set_up_never e r v₁ t₁ m₁ q = number_some e (ap (λ (k : Stepping). k.answer) q ∙ sym a)

    pub set_up_done : length b ≡ table_size → (r : Recorder) (u : Unit {0}) (v₁ t₁ m₁ b₁ : List ℕ) → stepping (Ok u) r v₁ t₁ m₁ ≡ set_up s (store v t m) → b₁ ≡ replicate (length b) 0
        → begun_as (Ok (record { recorder = r; loaded = false; phase = p })) v₁ t₁ m₁ b₁ ≡ set_up_site s p (store v t m) b
    unfolding set_up
    set_up_done l r u v₁ t₁ m₁ b₁ q z =
        let made_so : mem r v₁ t₁ m₁ ≡ made s = ap (λ (k : Stepping). k.after) q ∙ rw (← a) in
        let none : checked ≡ 0 = room_alone ∙ rw (eq-eqb (length b) table_size l) in
        rw (z, l)
        (ap {B = Done} (λ (k : Mem). record { answer = 0; carried = 0; after = record { mem = k; loaded = false; phase = p; table = replicate table_size 0 } }) made_so ∙ sym (site_begun none))
