-- What each loop that is timed keeps, and what it has done at its end.
-- Assumes nothing.
use Prim.Native.Nat.{ℕ, ◌+◌, ◌*◌, ◌/◌, ◌%◌, ◌^◌, ◌≤◌, ◌<◌}
use native.Mathlib.Nat.{mul-le-mul}
use mir.Syntax.{w64}
use mir.Val.{Fits}
use mathlib.Core.Path.{◌≡◌, refl, sym, ap, ◌∙◌}
use mathlib.Core.List.{List}
use native.Mathlib.Omega.{arith}
use borrow.Author.Tests.{eq-eqb, ne_eqb}
use Rattle.std.specs.Prelude.{Result, Ok, Err}
use Rattle.std.specs.Result.{result_unwrap_or}
use Rattle.answers.specs.declared.Refusal.{Refusal}
use Rattle.answers.specs.Answer.{answered}
use Rattle.laws.specs.Each.{for_to}
use Rattle.laws.proofs.Loop.{for_on, for_done}
use Rattle.store.specs.Store.{Store}
use Rattle.recorder.specs.declared.Event.{Event}
use Rattle.recorder.specs.declared.Event.TheVariants.{Off, On}
use Rattle.recorder.specs.declared.Recorder.{Recorder}
use Rattle.recorder.specs.Recorder.{Mem, mem}
use Rattle.recorder.specs.Step.{Done, done, step}
use Rattle.recorder.specs.SetUp.{set_up}
use Rattle.readout.specs.Read.{ReadDone, handed, read_done, read_back}
use Rattle.timing.specs.declared.Kind.{Kind}
use Rattle.timing.specs.Timed.{all_days, meter, begun, outage, nth, coming, played, total_of, time_of, Reads, reads, reading, reads_of}

-- ---- one call

pub set_up_after : (a : Result (Unit {0}) Refusal) (r : Recorder) (v s m : List ℕ) (x : Store) → done a r v s m ≡ set_up meter x → mem r v s m ≡ begun x
unfolding begun
set_up_after a r v s m x e = ap (λ (y : Done). y.after) e

pub product_fits : (a b : ℕ) → a < 2 ^ 32 → b < 2 ^ 32 → Fits w64 (a * b)
product_fits a b h k = let q : a * b ≤ 4294967295 * 4294967295 = mul-le-mul {n₂ = 4294967295} {m₂ = 4294967295} (omega arith) (omega arith) in omega arith

module _ (by i : ℕ) where
  pub outage_begins : i % 2 ≡ 1 → Off ≡ outage by i
  outage_begins e = rw (eq-eqb (i % 2) 1 e)

  pub outage_ends : (t : ℕ) → (i % 2 ≡ 1 → ⊥) → t ≡ by * (i / 2) → On t ≡ outage by i
  outage_ends t n e = rw (ne_eqb (i % 2) 1 n, e)

-- ---- loops: what is still to be done comes to the whole

pub record Going {A : Type 0} (f : ℕ → A → A) (n : ℕ) (x₀ : A) (i : ℕ) (x : A) : Type 0 where
  pub at_most : i ≤ n
  pub rest : for_to f i n x ≡ for_to f 0 n x₀

pub going_none : {A : Type 0} (f : ℕ → A → A) (n : ℕ) (x : A) → Going f n x 0 x
going_none f n x = record { at_most = omega arith; rest = refl }

pub going_on : {A : Type 0} (f : ℕ → A → A) (n : ℕ) (x₀ : A) (i : ℕ) (x y : A) → Going f n x₀ i x → i < n → y ≡ f i x → Going f n x₀ (i + 1) y
going_on f n x₀ i x y g h e = record { at_most = omega arith; rest = ap (for_to f (i + 1) n) e ∙ sym (for_on f i n x h) ∙ g.rest }

pub going_done : {A : Type 0} (f : ℕ → A → A) (n : ℕ) (x₀ : A) (i : ℕ) (x : A) → Going f n x₀ i x → n ≤ i → x ≡ for_to f 0 n x₀
going_done f n x₀ i x g h = sym (for_done f i n x h) ∙ g.rest

pub coming_on : (kind : Kind) (n : ℕ) (x₀ : Mem) (i : ℕ) (x : Mem) (a : Event) (d : Result (Unit {0}) Refusal) (r : Recorder) (v s m : List ℕ)
    → Going (coming kind) n x₀ i x → i < n → a ≡ nth kind (i + 1) → done d r v s m ≡ step x a → Going (coming kind) n x₀ (i + 1) (mem r v s m)
unfolding coming
coming_on kind n x₀ i x a d r v s m g h p e =
    going_on (coming kind) n x₀ i x (mem r v s m) g h (ap (λ (y : Done). y.after) (e ∙ ap (step x) p))

module _ (n : ℕ) (x : Mem) (out₀ out o : List ℕ) (i bytes carried : ℕ) (r : Recorder) (a : Result ℕ Refusal) where
  pub read_on : Going (reading x) n (reads out₀ 0) i (reads out bytes) → i < n → read_done (handed r (answered a)) o ≡ read_back all_days x out → carried ≡ (answered a).carried
      → Going (reading x) n (reads out₀ 0) (i + 1) (reads o (bytes + carried))
  unfolding reading
  read_on g k e c =
      going_on (reading x) n (reads out₀ 0) i (reads out bytes) (reads o (bytes + carried)) g k (rw c (ap (λ (d : ReadDone). reads d.out (bytes + d.handed.carried)) e))

-- ---- whole

module _ (kind : Kind) (n : ℕ) (x : Store) (z : Mem) where
  pub played_is : (y : Mem) → y ≡ begun x → z ≡ for_to (coming kind) 0 n y → z ≡ played kind n x
  unfolding played
  played_is y e f = f ∙ ap (for_to (coming kind) 0 n) e

  pub total_is : z ≡ played kind n x → total_of z ≡ total_of (played kind n x)
  total_is e = ap total_of e

  pub time_is : z ≡ played kind n x → time_of z ≡ time_of (played kind n x)
  time_is e = ap time_of e

  pub store_is : z ≡ played kind n x → z.store ≡ (played kind n x).store
  store_is e = ap (λ (w : Mem). w.store) e

  pub reads_are : (m : ℕ) (out : List ℕ) (r : Reads) → z ≡ played kind n x → r ≡ reads_of m z out → r ≡ reads_of m (played kind n x) out
  reads_are m out r e f = f ∙ ap (λ (w : Mem). reads_of m w out) e
