-- Set-up, in the form that the proofs of the code look for.
-- Assumes nothing.
use Prim.Native.Nat.{ℕ, ◌/◌}
use mathlib.Core.Bool.{Bool, true, false, not}
use mathlib.Core.List.{List}
use mathlib.Core.Path.{◌≡◌, refl, sym, ap, ◌∙◌}
use native.Mathlib.Omega.{arith}
use borrow.Author.Tests.{ne_eqb, leb-true, ltb-true, not-false}
use lib.ListN.{length}
use Rattle.std.specs.Prelude.{Ok, Err}
use Rattle.answers.specs.declared.Refusal.{Refusal}
use Rattle.answers.specs.Answer.{number_of, carried_of}
use Rattle.laws.proofs.Bools.{passed, failed}
use Rattle.laws.proofs.Checks.{NoneFails, none_fails}
use Rattle.laws.proofs.Tests.{all_true_each}
use Rattle.laws.specs.Tests.{all_true}
use Rattle.quantity.specs.declared.RegisterUnits.{RegisterUnits}
use Rattle.quantity.specs.Units.{reading_of, last_four}
use Rattle.calendar.specs.Clock.{seconds_of_half}
use Rattle.store.specs.Begun.{begun}
use Rattle.store.specs.Class.{days_of, right_lengths}
use Rattle.store.specs.Store.{Store, Goes, store}
use Rattle.recorder.specs.declared.SetUp.{SetUp}
use Rattle.recorder.specs.Recorder.{Recorder}
use Rattle.recorder.specs.Step.{Done, done}
use Rattle.recorder.specs.SetUp.{set_up_tests, set_up_checks, set_up_with, set_up_answer, fresh, store_begun, made, blank, set_up}
use Rattle.recorder.specs.Needs.{Begins}
use Rattle.recorder.proofs.Answers.{number_some, days_few, right_lengths_lem}

module _ (g : SetUp) (v s m : ℕ) (b : Bool) (p : b ≡ all_true (set_up_tests g)) where
  pub bad_value_lem : not b ≡ true → 6 ≡ set_up_with g v s m
  unfolding set_up_with
  bad_value_lem t = rw (failed b (all_true (set_up_tests g)) p t)

  module _ (t : not b ≡ false) (f : Bool) (q : f ≡ right_lengths (days_of g.class) v s m) where
    pub bad_length : not f ≡ true → 4 ≡ set_up_with g v s m
    unfolding set_up_with
    bad_length u = rw (passed b (all_true (set_up_tests g)) p t, failed f (right_lengths (days_of g.class) v s m) q u)

    pub set_up_passed : not f ≡ false → 0 ≡ set_up_with g v s m
    unfolding set_up_with
    set_up_passed u = rw (passed b (all_true (set_up_tests g)) p t, passed f (right_lengths (days_of g.class) v s m) q u)

-- what an answer of 0 says
pub set_up_tests_lem : (g : SetUp) (x : Store) → set_up_answer g x ≡ 0 → NoneFails (set_up_checks g (length x.values) (length x.starts) (length x.marks))
unfolding set_up_with
set_up_tests_lem g x a = none_fails (set_up_checks g (length x.values) (length x.starts) (length x.marks)) refl a

pub set_up_begins : (g : SetUp) (x : Store) → set_up_answer g x ≡ 0 → Begins g x
set_up_begins g x e =
    let n = set_up_tests_lem g x e in
    let t = all_true_each (set_up_tests g) (not-false (all_true (set_up_tests g)) n.0) in
    let f = right_lengths_lem (days_of g.class) (length x.values) (length x.starts) (length x.marks)
    (not-false (right_lengths (days_of g.class) (length x.values) (length x.starts) (length x.marks)) n.1.0) in
    record {
      time = ltb-true _ _ t.1.1.1.0;
      total = ltb-true _ _ t.1.1.1.1.0;
      fits = record { some = leb-true _ _ t.1.0; most = days_few g.class; values = f.0; starts = f.1; marks = f.2 };
    }

-- the code's way there: what it is answered passes, or refuses with nothing carried
pub begins : (g : SetUp) (x : Store) → 0 ≡ set_up_answer g x → Begins g x
begins g x p = set_up_begins g x (sym p)

pub set_up_refused : (g : SetUp) (e : Refusal) (v s m : List ℕ) → number_of e ≡ set_up_answer g (store v s m) → carried_of e ≡ 0 → done (Err e) blank v s m ≡ set_up g (store v s m)
unfolding set_up
set_up_refused g e v s m p q = rw (← p, q, ne_eqb (number_of e) 0 (number_some e))

pub set_up_done : (g : SetUp) (y : Recorder) (v s m v₁ s₁ m₁ : List ℕ) → 0 ≡ set_up_answer g (store v s m) → store v₁ s₁ m₁ ≡ store_begun g → y ≡ fresh g
    → done (Ok tt) y v₁ s₁ m₁ ≡ set_up g (store v s m)
unfolding set_up made
set_up_done g y v s m v₁ s₁ m₁ z e q =
    ap {B = Done} (λ (w : Recorder). record { answer = 0; carried = 0; after = record { recorder = w; store = store v₁ s₁ m₁ } }) q
    ∙ ap {B = Done} (λ (w : Store). record { answer = 0; carried = 0; after = record { recorder = fresh g; store = w } }) e
    ∙ rw (← z)

module _ (g : SetUp) (cap : ℕ) (u : RegisterUnits) (a : cap ≡ days_of g.class) (b : u ≡ reading_of g.total) where
  pub store_goes : (x : Store) → Begins g x → Goes cap (g.time / seconds_of_half) u x
  store_goes x h = rw (a, b) record { turns = record { fits = h.fits; next = omega (arith, h.time) }; reading = omega (arith, h.total) }

  pub store_begun_lem : (x : Store) → x ≡ begun cap (g.time / seconds_of_half) (last_four u).0 u.0 → x ≡ store_begun g
  store_begun_lem x e = e ∙ rw (a, b)
