-- What is counted: the paper's totals are those of the accepted Counts before each half-hour, and the eight rate registers share all of it.
-- Assumes nothing.
use Prim.Native.Nat.{ℕ, zero, suc, ◌+◌, ◌-◌, ◌<◌, ◌≤◌}
use mathlib.Core.Path.{◌≡◌, refl}
use mathlib.Core.Bool.{Bool, true, false, cond}
use mathlib.Core.List.{List, [], ◌∷◌}
use native.Mathlib.Decide.{dec_lt}
use native.Mathlib.Omega.{arith}
use lib.Dec.{eqb, ltb}
use borrow.Author.Tests.{lt-ltb, eq-eqb, ne_eqb}
use Rattle.laws.specs.Tests.{sum_below}
use Rattle.laws.proofs.Split.{by_test, by_dec}
use Rattle.recorder.specs.declared.SetUp.{SetUp}
use Rattle.recorder.specs.declared.Event.{Event}
use Rattle.recorder.specs.declared.Event.TheVariants.{Count, Clock, Off, On, Access, Meter, Reset, Rate, Reverse, Ppp, Adjust}
use Rattle.recorder.specs.Recorder.{Mem}
use Rattle.recorder.specs.Step.{step}
use Rattle.assurance.specs.Paper.{Paper, now}
use Rattle.assurance.specs.Written.{add_after, add_at, energy_of, writes, due, written, written_all}
use Rattle.assurance.specs.Meaning.{energy_in, counted_in, counted_before}
use Rattle.assurance.proofs.Kept.{Given, Kept}
use Rattle.assurance.proofs.Past.{past_all, past_step}
use Rattle.assurance.proofs.Run.{step_kept}

-- ---- sums

sum_none : (f : ℕ → ℕ) (n i w : ℕ) → n ≤ i → sum_below (add_at i w f) n ≡ sum_below f n
unfolding add_at sum_below
sum_none f zero i w l = refl
sum_none f (suc n) i w l = rw (sum_none f n i w (omega arith), ne_eqb n i (omega arith)) (omega arith)

sum_add : (f : ℕ → ℕ) (n i w : ℕ) → i < n → sum_below (add_at i w f) n ≡ sum_below f n + w
unfolding add_at sum_below
sum_add f zero i w l = absurd (omega arith)
sum_add f (suc n) i w l =
    by_dec (dec_lt i n)
    (λ m. rw (sum_add f n i w m, ne_eqb n i (omega arith)) (omega arith))
    (λ m. rw (sum_none f n i w (omega arith), eq-eqb n i (omega arith)) (omega arith))

-- ---- one event, and a list

-- energy w more
record More (p u : Paper) (w : ℕ) : Type 0 where
  before : (q : ℕ) → u.tape.counts.before q ≡ p.tape.counts.before q + cond (ltb (now p) q) w 0
  rates : sum_below u.tape.counts.rate 8 ≡ sum_below p.tape.counts.rate 8 + w

same_counts : (p u : Paper) → u.tape.counts ≡ p.tape.counts → More p u 0
same_counts p u e = record { before = λ q. rw e (same _ (ltb (now p) q)); rates = rw e (omega arith) }
  where
    same : (n : ℕ) (b : Bool) → n ≡ n + cond b 0 0
    same n true = omega arith
    same n false = omega arith

none_more : (p : Paper) (b : Bool) (u : Paper) → u.tape.counts ≡ p.tape.counts → More p (cond b u p) 0
none_more p true u e = same_counts p u e
none_more p false u e = same_counts p p refl

module _ (s : SetUp) (z : Given s) where
  more_step : (p : Paper) (x : Mem) → Kept s p x → (e : Event) → More p (written s p e) (energy_in s p e)
  unfolding written add_after
  more_step p x k (Count c) =
      by_test (eqb (due s p (Count c)) 0)
      (λ t. rw t record {
        before = λ q. refl;
        rates =
            sum_add p.tape.counts.rate 8 (p.rate - 1) (energy_of s p c)
            (omega (arith, k.rate, k.at.energy.rate_low, k.at.energy.rate_high));
      })
      (λ t. rw t (same_counts p p refl))
  more_step p x k (Clock t) = none_more p (eqb (due s p (Clock t)) 0) (writes s p (Clock t)) refl
  more_step p x k Off = none_more p (eqb (due s p Off) 0) (writes s p Off) refl
  more_step p x k (On t) = none_more p (eqb (due s p (On t)) 0) (writes s p (On t)) refl
  more_step p x k Access = none_more p (eqb (due s p Access) 0) (writes s p Access) refl
  more_step p x k (Meter c) = none_more p (eqb (due s p (Meter c)) 0) (writes s p (Meter c)) refl
  more_step p x k Reset = none_more p (eqb (due s p Reset) 0) (writes s p Reset) refl
  more_step p x k (Rate n) = none_more p (eqb (due s p (Rate n)) 0) (writes s p (Rate n)) refl
  more_step p x k Reverse = none_more p (eqb (due s p Reverse) 0) (writes s p Reverse) refl
  more_step p x k (Ppp a b c) = none_more p (eqb (due s p (Ppp a b c)) 0) (writes s p (Ppp a b c)) refl
  more_step p x k (Adjust h) = none_more p (eqb (due s p (Adjust h)) 0) (writes s p (Adjust h)) refl

  -- the paper's column is the energy counted before half-hour q
  pub before_is : (q : ℕ) (es : List Event) (p : Paper) (x : Mem) → Kept s p x
      → (written_all s p es).tape.counts.before q ≡ p.tape.counts.before q + counted_before s q p es
  unfolding written_all counted_before
  before_is q [] p x k = omega arith
  before_is q (e ∷ es) p x k =
      omega (arith, before_is q es (written s p e) (step x e).after (step_kept s z p x k e), (more_step p x k e).before q)

  -- and the eight registers get all that is counted
  pub rates_are : (es : List Event) (p : Paper) (x : Mem) → Kept s p x
      → sum_below (written_all s p es).tape.counts.rate 8 ≡ sum_below p.tape.counts.rate 8 + counted_in s p es
  unfolding written_all counted_in
  rates_are [] p x k = omega arith
  rates_are (e ∷ es) p x k =
      omega (arith, rates_are es (written s p e) (step x e).after (step_kept s z p x k e), (more_step p x k e).rates)

-- before a half-hour to come all is counted
pub all_before : (s : SetUp) (q : ℕ) (p : Paper) (es : List Event) → now (written_all s p es) < q → counted_before s q p es ≡ counted_in s p es
unfolding written_all counted_before counted_in
all_before s q p [] l = refl
all_before s q p (e ∷ es) l =
    rw (lt-ltb (now p) q (omega (arith, (past_all s (written s p e) es).half, (past_step s p e).half)), all_before s q (written s p e) es l)
