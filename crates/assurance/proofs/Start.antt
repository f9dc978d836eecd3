-- An accepted set-up: the recorder and the cleared store are what the blank paper says.
-- Assumes nothing.
use Prim.Native.Nat.{ℕ, ◌+◌, ◌-◌, ◌*◌, ◌/◌, ◌%◌, ◌<◌, ◌≤◌}
use mathlib.Core.Path.{◌≡◌, refl, sym, ap, ◌∙◌}
use mathlib.Core.List.{List}
use native.Mathlib.Nat.{mod-lt}
use native.Mathlib.Decide.{ℕ_discrete}
use native.Mathlib.Omega.{arith}
use lib.Arith.{digits_lt}
use lib.Dec.{leb}
use lib.ListN.{length, get_or, replicate, length-set, length-replicate, get_or-replicate}
use lib.Seq.{get_or-set_same, get_or-set_other}
use borrow.Author.Tests.{not-false, leb-true}
use Rattle.laws.specs.Tests.{all_true}
use Rattle.laws.proofs.Bits.{packed_none}
use Rattle.laws.proofs.Bools.{both}
use Rattle.laws.proofs.Loop.{for_keeps}
use Rattle.laws.proofs.Split.{by_dec}
use Rattle.laws.proofs.Tests.{all_true_each}
use Rattle.quantity.specs.declared.MilliwattHours.{MilliwattHours}
use Rattle.quantity.specs.Units.{unit_of, value_at}
use Rattle.store.specs.Begun.{put, filled, begun}
use Rattle.store.specs.Store.{Store}
use Rattle.registers.specs.Energy.{least_weight, most_weight, no_energy}
use Rattle.recorder.specs.declared.SetUp.{SetUp}
use Rattle.recorder.specs.SetUp.{set_up_tests, set_up_answer, started, fresh, made}
use Rattle.recorder.proofs.Answers.{days_few}
use Rattle.recorder.proofs.Setting.{set_up_tests_lem, set_up_begins}
use Rattle.assurance.specs.Paper.{total_at, units_of, flags_of, largest}
use Rattle.assurance.specs.Written.{blank_tape, blank_paper}
use Rattle.assurance.proofs.Kept.{Given, Stored, StoreKept, Kept, cap_of, reached, of_day}

-- what an accepted set-up was given
pub given : (s : SetUp) (x : Store) → set_up_answer s x ≡ 0 → Given s
given s x e =
    let t = all_true_each (set_up_tests s) (not-false (all_true (set_up_tests s)) (set_up_tests_lem s x e).0) in
    let w = both (leb least_weight s.weight.0) (leb s.weight.0 most_weight) t.1.1.0 in
    let b = set_up_begins s x e in
    record { identifier = t.0; some = b.fits.some; weight_low = leb-true _ _ w.0; weight_high = leb-true _ _ w.1; time = b.time; total = b.total }

-- places that were filled
record Filling (v from n k : ℕ) (l : List ℕ) : Type 0 where
  long : length l ≡ n
  has : (i : ℕ) → from ≤ i → i < k → get_or l i 0 ≡ v

filling : (v from to : ℕ) (l : List ℕ) → from ≤ to → to ≤ length l → Filling v from (length l) to (filled v from to l)
unfolding filled
filling v from to l le fits =
    for_keeps (Filling v from (length l)) (put v) from to l le
    (λ i y lo hi g. record {
      long = length-set y i v ∙ g.long;
      has = λ k a b. by_dec (ℕ_discrete k i)
          (λ e. rw e (get_or-set_same y i v 0 (omega (arith, g.long))))
          (λ ne. get_or-set_other y i k v 0 ne ∙ g.has k a (omega arith));
    })
    (record { long = refl; has = λ i a b. absurd (omega arith) })

module _ (s : SetUp) (z : Given s) where
  abbrev q : ℕ
  q = s.time / 1800

  abbrev room : ℕ
  room = q / 48 % cap_of s

  abbrev x : Store
  x = (made s).store

  inside : room * 48 + q % 48 < cap_of s * 48
  inside = digits_lt (mod-lt (q / 48) z.some) (mod-lt q {m = 48} (omega arith))

  values_are : Filling (value_at s.total.0) (room * 48) (cap_of s * 48) (room * 48 + q % 48) x.values
  unfolding made begun
  values_are =
      rw (length-replicate {A = ℕ} (cap_of s * 48) 0) at
      (filling (value_at s.total.0) (room * 48) (room * 48 + q % 48) (replicate (cap_of s * 48) 0) (omega arith)
      (rw (length-replicate {A = ℕ} (cap_of s * 48) 0) (omega (arith, inside))))

  start_is : get_or x.starts room 0 ≡ s.total.0 / unit_of
  unfolding made begun
  start_is = get_or-set_same (replicate (cap_of s) 0) room (s.total.0 / unit_of) 0 (rw (length-replicate {A = ℕ} (cap_of s) 0) (mod-lt (q / 48) z.some))

  word : (i : ℕ) → i < room * 3 + 3 → get_or x.marks i 0 ≡ 0
  unfolding made begun
  word i l = get_or-replicate (cap_of s * 3) i 0 0 (omega (arith, mod-lt (q / 48) z.some))

  -- the only day stored is the first
  first_day_lem : (d : ℕ) → Stored s q d → d ≡ q / 48
  first_day_lem d i = omega (arith, i.first, i.last)

  k_is : reached q (q / 48) ≡ q % 48
  k_is = omega arith

  store_made : StoreKept s (blank_tape s) q x
  unfolding made begun blank_tape total_at flags_of of_day
  store_made = record {
    fits = record {
      some = z.some;
      most = days_few s.class;
      values = values_are.long;
      starts = length-set (replicate (cap_of s) 0) room (s.total.0 / unit_of) ∙ length-replicate {A = ℕ} (cap_of s) 0;
      marks = length-replicate {A = ℕ} (cap_of s * 3) 0;
    };
    values = λ d i.
        rw (first_day_lem d i, k_is)
        record { start = start_is ∙ omega (arith, z.total); value = λ j l. values_are.has (room * 48 + j) (omega arith) (omega arith) ∙ omega arith };
    marks = λ d i.
        rw (first_day_lem d i, k_is)
        record {
          reverse = word (room * 3) (omega arith) ∙ sym (packed_none (q % 48) _ (λ j l. refl));
          level2 = word (room * 3 + 1) (omega arith) ∙ sym (packed_none (q % 48) _ (λ j l. refl));
        };
    flags = λ d i. rw (first_day_lem d i) (word (room * 3 + 2) (omega arith));
  }

  pub made_kept : Kept s (blank_paper s) (made s)
  unfolding made fresh started blank_tape total_at units_of flags_of largest
  made_kept = record {
    time = refl;
    on = refl;
    last = refl;
    rate = refl;
    name = record { is = refl; right = z.identifier; meter = λ q past h. refl };
    century = z.time;
    at = record {
      identity = (refl, refl);
      clock = record { begun = omega arith; here = refl; days = omega (arith, z.some) };
      energy = record {
        up = λ h. omega arith;
        slow = λ h. omega arith;
        flat = λ h l. refl;
        total = omega (arith, z.total);
        rates_long = refl;
        rates = λ i l. ap (λ (w : MilliwattHours). w.0) (get_or-replicate 8 i no_energy no_energy l);
        rate_low = omega arith;
        rate_high = omega arith;
      };
      demand = record {
        since = omega arith;
        current = let none : q - q ≡ 0 = omega arith in rw none;
        previous = refl;
        previous_few = omega arith;
        cumulative = refl;
        reset = refl;
        date = omega arith;
        count = refl;
        never = λ f. refl;
      };
      running = record { base = omega (arith, z.total); reverse = refl; level2 = refl; no_reverse = λ h l. refl; no_level2 = λ h l. refl };
      no_flags = λ d l. refl;
      store = store_made;
    };
  }
