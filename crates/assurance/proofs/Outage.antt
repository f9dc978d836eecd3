-- On: every stored day from that of Off to today gets 0x80, and no other.
-- Assumes nothing.
use Prim.Native.Nat.{ℕ, ◌+◌, ◌-◌, ◌*◌, ◌/◌, ◌%◌, ◌<◌, ◌≤◌, max, min}
use mathlib.Core.Path.{◌≡◌, sym, ◌∙◌}
use mathlib.Core.Bool.{Bool, true, ◌&&◌}
use mathlib.Core.List.{List}
use native.Mathlib.Decide.{ℕ_discrete}
use native.Mathlib.Omega.{arith}
use lib.Bits.{bit_or}
use lib.Dec.{leb}
use lib.ListN.{length, get_or}
use borrow.Author.Tests.{le-leb, lt-leb}
use Rattle.laws.specs.Each.{for_to}
use Rattle.laws.proofs.Bools.{no_left, no_right, or_none_lem, or_some}
use Rattle.laws.proofs.Loop.{for_keeps}
use Rattle.laws.proofs.Ring.{ring_differ}
use Rattle.laws.proofs.Split.{by_dec}
use Rattle.store.specs.Store.{Store, store, flag_at, flagged}
use Rattle.recorder.specs.declared.SetUp.{SetUp}
use Rattle.recorder.specs.Recorder.{Mem}
use Rattle.recorder.specs.Effect.{flag_from}
use Rattle.assurance.specs.Paper.{Tape, flags_of}
use Rattle.assurance.specs.Written.{outaged, mark_from}
use Rattle.assurance.proofs.Flags.{with_outage}
use Rattle.assurance.proofs.Kept.{Stored, MarksKept, StoreKept, KeptAt, cap_of, first_day, reached, cap_is, day_is}
use Rattle.assurance.proofs.Rooms.{flagged_marks, flagged_other, flagged_here, flagged_long}

from_in : (a z : ℕ) (f : ℕ → Bool) (d : ℕ) → a ≤ d → d ≤ z → mark_from a z f d ≡ true
unfolding mark_from
from_in a z f d lo hi = or_some (f d) (leb a d && leb d z) (rw (le-leb a d lo, le-leb d z hi))

pub from_before : (a z : ℕ) (f : ℕ → Bool) (d : ℕ) → d < a → mark_from a z f d ≡ f d
unfolding mark_from
from_before a z f d l = or_none_lem (f d) (leb a d && leb d z) (no_left (leb a d) (leb d z) (lt-leb a d l))

from_after : (a z : ℕ) (f : ℕ → Bool) (d : ℕ) → z < d → mark_from a z f d ≡ f d
unfolding mark_from
from_after a z f d l = or_none_lem (f d) (leb a d && leb d z) (no_right (leb a d) (leb d z) (lt-leb d z l))

module _ (s : SetUp) (p : Tape) (q from : ℕ) (x : Store) (low : first_day s ≤ from) (hi : from ≤ q / 48) (g : StoreKept s p q x) where
  abbrev p' : Tape
  p' = outaged from (q / 48) p

  abbrev first : ℕ
  first = max from (q / 48 + 1 - min (cap_of s) (q / 48 + 1 - first_day s))

  before : (d : ℕ) → d < from → flags_of p'.flags d ≡ flags_of p.flags d
  unfolding flags_of
  before d l = rw (from_before from (q / 48) p.flags.outage d l)

  within : (d : ℕ) → from ≤ d → d ≤ q / 48 → bit_or (flags_of p.flags d) 128 ≡ flags_of p'.flags d
  unfolding flags_of
  within d lo le = rw (from_in from (q / 48) p.flags.outage d lo le) (with_outage p.flags d)

  -- on the way: days before i have the paper's new flags, the others the old
  record Going (i : ℕ) (l : List ℕ) : Type 0 where
    long : length l ≡ cap_of s * 3
    marks : (d : ℕ) → Stored s q d → MarksKept p.marks d (reached q d) (d % cap_of s) l
    done : (d : ℕ) → Stored s q d → d < i → get_or l (d % cap_of s * 3 + 2) 0 ≡ flags_of p'.flags d
    left : (d : ℕ) → Stored s q d → i ≤ d → get_or l (d % cap_of s * 3 + 2) 0 ≡ flags_of p.flags d

  apart : (d i : ℕ) → Stored s q d → first ≤ i → i < q / 48 + 1 → (d ≡ i → ⊥) → d % cap_of s ≡ i % cap_of s → ⊥
  apart d i k lo le ne = ring_differ (cap_of s) d i ne (omega (arith, k.near)) (omega (arith, k.last))

  turn : (i : ℕ) (l : List ℕ) → first ≤ i → i < q / 48 + 1 → Going i l → Going (i + 1) (flag_at (cap_of s) 128 i l)
  turn i l lo le h = record {
    long = flagged_long (cap_of s) 128 i l ∙ h.long;
    marks = λ d k. flagged_marks (cap_of s) 128 i l p.marks d (reached q d) (d % cap_of s) (h.marks d k);
    done = λ d k b.
        by_dec (ℕ_discrete d i)
        (λ e. rw e (flagged_here (cap_of s) 128 i l g.fits.some h.long _ (rw e at (h.left d k (omega arith))) ∙ within i (omega arith) (omega arith)))
        (λ ne. flagged_other (cap_of s) 128 i l (d % cap_of s) (apart d i k lo le ne) ∙ h.done d k (omega arith));
    left = λ d k b. flagged_other (cap_of s) 128 i l (d % cap_of s) (apart d i k lo le (omega arith)) ∙ h.left d k (omega arith);
  }

  pub outage_store : StoreKept s p' q (store x.values x.starts (flagged (cap_of s) first (q / 48 + 1) 128 x.marks))
  unfolding flagged
  outage_store = record {
    fits = record { some = g.fits.some; most = g.fits.most; values = g.fits.values; starts = g.fits.starts; marks = end.long };
    values = g.values;
    marks = end.marks;
    flags = λ d k. end.done d k (omega (arith, k.last));
  }
    where
      end : Going (q / 48 + 1) (for_to (flag_at (cap_of s) 128) first (q / 48 + 1) x.marks)
      end =
          for_keeps Going (flag_at (cap_of s) 128) first (q / 48 + 1) x.marks (omega (arith, g.fits.some)) turn
          (record {
            long = g.fits.marks;
            marks = g.marks;
            done = λ d k b. g.flags d k ∙ sym (before d (omega (arith, k.first, k.near)));
            left = λ d k b. g.flags d k;
          })

pub outage_kept : (s : SetUp) (p : Tape) (q from : ℕ) (x : Mem) → first_day s ≤ from → from ≤ q / 48 → KeptAt s p q x
    → KeptAt s (outaged from (q / 48) p) q (flag_from from 128 x)
unfolding flags_of flag_from
outage_kept s p q from x low hi g = record {
  identity = g.identity;
  clock = g.clock;
  energy = g.energy;
  demand = g.demand;
  running = g.running;
  no_flags = λ d l. rw (from_after from (q / 48) p.flags.outage d l) (g.no_flags d l);
  store = rw (cap_is s p q x g, day_is s p q x g, g.clock.days) (outage_store s p q from x.store low hi g.store);
}
