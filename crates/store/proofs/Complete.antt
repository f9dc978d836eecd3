-- A class has rooms for its complete days and the current day: a day that is no more days ago than the complete ones is less than a round old.
-- Assumes nothing.
use Prim.Native.Nat.{ℕ, ◌+◌, ◌<◌, ◌≤◌}
use native.Mathlib.Omega.{arith}
use Rattle.store.specs.declared.Class.{Class}
use Rattle.store.specs.declared.Class.TheVariants.{A, B, C, D, Blank}
use Rattle.store.specs.Class.{complete_days, days_of}

pub has_room : (c : Class) (d today : ℕ) → 0 < days_of c → today ≤ d + complete_days c → today < d + days_of c
has_room A d today h l = omega arith
has_room B d today h l = omega arith
has_room C d today h l = omega arith
has_room D d today h l = omega arith
has_room Blank d today h l = absurd (omega arith)
