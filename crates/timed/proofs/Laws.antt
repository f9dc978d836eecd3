-- What each loop that is timed keeps, and what it has done at its end.
-- Assumes nothing.
use Prim.Native.Nat.{ℕ, ◌+◌, ◌≤◌, ◌<◌}
use mathlib.Core.Path.{◌≡◌, refl, ap, ◌∙◌}
use mathlib.Core.List.{List}
use native.Mathlib.Omega.{arith}
use borrow.Author.Tests.{eq-eqb, ne_eqb}
use Rattle.std.specs.Prelude.{Result, Ok, Err}
use Rattle.std.specs.Result.{result_unwrap_or}
use Rattle.answers.specs.declared.Refusal.{Refusal}
use Rattle.laws.specs.Each.{for_to}
use Rattle.laws.proofs.Loop.{Loop, loop_start, loop_on, loop_done}
use Rattle.store.specs.Store.{Store}
use Rattle.outstation.specs.declared.Happening.{Happening}
use Rattle.outstation.specs.declared.Happening.TheVariants.{Load}
use Rattle.outstation.specs.declared.Outstation.{Outstation}
use Rattle.outstation.specs.declared.Phase.TheVariants.{Poly}
use Rattle.outstation.specs.Outstation.{Site, site, Done, done, happening, happens}
use Rattle.outstation.specs.SetUp.{set_up_site}
use Rattle.timed.specs.declared.Course.{Course}
use Rattle.timing.specs.Timed.{meter}
use Rattle.timed.specs.Timed.{begun, later, nth, coming, played, total_of, time_of, rate_of}

pub set_up_after : (a : Result (Unit {0}) Refusal) (o : Outstation) (v s m b : List ℕ) (x : Store) (c : List ℕ) → done a o v s m b ≡ set_up_site meter Poly x c → site o v s m b ≡ begun x c
unfolding begun
set_up_after a o v s m b x c e = ap (λ (y : Done). y.after) e

module _ (course : Course) (i : ℕ) where
  pub nth_load : i ≡ 0 → Load ≡ nth course i
  unfolding nth
  nth_load e = rw (eq-eqb i 0 e)

  pub nth_later : (i ≡ 0 → ⊥) → (h : Happening) → h ≡ later course i → h ≡ nth course i
  unfolding nth
  nth_later n h e = e ∙ rw (ne_eqb i 0 n)

-- ---- the loop

abbrev pub Going : Course → List ℕ → ℕ → Site → ℕ → Site → Type 0
Going course f n x₀ i x = Loop (λ (j : ℕ) (y : Site). j ≤ n) (coming course f) 0 n x₀ i x

module _ (course : Course) (f : List ℕ) (n : ℕ) (x₀ : Site) where
  pub going_none : Going course f n x₀ 0 x₀
  going_none = loop_start (λ (j : ℕ) (y : Site). j ≤ n) (coming course f) 0 n x₀ (omega arith)

  pub going_on : (i : ℕ) (x : Site) (h : Happening) (a : Result (Unit {0}) Refusal) (o : Outstation) (v s m b : List ℕ) → Going course f n x₀ i x → i < n → h ≡ nth course i
      → done a o v s m b ≡ happens x (happening h f) → Going course f n x₀ (i + 1) (site o v s m b)
  unfolding coming
  going_on i x h a o v s m b g l p e =
      loop_on (λ (j : ℕ) (y : Site). j ≤ n) (coming course f) 0 n x₀ i x (site o v s m b) g l
      (ap (λ (y : Done). y.after) (e ∙ ap (λ (k : Happening). happens x (happening k f)) p)) (omega arith)

  pub going_done : (i : ℕ) (x : Site) → Going course f n x₀ i x → n ≤ i → x ≡ for_to (coming course f) 0 n x₀
  going_done i x g h = loop_done (λ (j : ℕ) (y : Site). j ≤ n) (coming course f) 0 n x₀ i x g h

-- ---- whole

module _ (course : Course) (n : ℕ) (f : List ℕ) (x : Store) (b : List ℕ) (z : Site) where
  pub played_is : (y : Site) → y ≡ begun x b → z ≡ for_to (coming course f) 0 n y → z ≡ played course n f x b
  unfolding played
  played_is y e g = g ∙ ap (for_to (coming course f) 0 n) e

  pub total_is : z ≡ played course n f x b → total_of z ≡ total_of (played course n f x b)
  total_is e = ap total_of e

  pub time_is : z ≡ played course n f x b → time_of z ≡ time_of (played course n f x b)
  time_is e = ap time_of e

  pub rate_is_lem : z ≡ played course n f x b → rate_of z ≡ rate_of (played course n f x b)
  rate_is_lem e = ap rate_of e
