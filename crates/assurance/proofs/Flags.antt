-- A day's flags in one number: each of the three taken in, each found again, and the range.
-- Assumes nothing.
use Prim.Native.Nat.{ℕ, ◌+◌, ◌*◌, ◌/◌, ◌%◌, ◌<◌}
use mathlib.Core.Path.{◌≡◌, refl}
use mathlib.Core.Logic.{◌↔◌}
use mathlib.Core.Bool.{Bool, true, false}
use native.Mathlib.Omega.{arith}
use lib.Bits.{bit_or}
use Rattle.laws.specs.Bits.{bit}
use Rattle.laws.proofs.Bits.{bit_lt, bit_is}
use Rattle.assurance.specs.Paper.{Flags, flags_of}

abbrev three : Bool → Bool → Bool → ℕ
three a b c = bit a * 128 + bit b * 64 + bit c * 32

record Taken (a b c : Bool) : Type 0 where
  outage : bit_or (three a b c) 128 ≡ three true b c
  meter : bit_or (three a b c) 64 ≡ three a true c
  reset : bit_or (three a b c) 32 ≡ three a b true
  low : three a b c % 32 ≡ 0

taken : (a b c : Bool) → Taken a b c
taken true true true = record { outage = refl; meter = refl; reset = refl; low = refl }
taken true true false = record { outage = refl; meter = refl; reset = refl; low = refl }
taken true false true = record { outage = refl; meter = refl; reset = refl; low = refl }
taken true false false = record { outage = refl; meter = refl; reset = refl; low = refl }
taken false true true = record { outage = refl; meter = refl; reset = refl; low = refl }
taken false true false = record { outage = refl; meter = refl; reset = refl; low = refl }
taken false false true = record { outage = refl; meter = refl; reset = refl; low = refl }
taken false false false = record { outage = refl; meter = refl; reset = refl; low = refl }

module _ (f : Flags) (d : ℕ) where
  abbrev a : Bool
  a = f.outage d

  abbrev b : Bool
  b = f.meter d

  abbrev c : Bool
  c = f.reset d

  pub with_outage : bit_or (flags_of f d) 128 ≡ three true b c
  unfolding flags_of
  with_outage = (taken a b c).outage

  pub with_meter : bit_or (flags_of f d) 64 ≡ three a true c
  unfolding flags_of
  with_meter = (taken a b c).meter

  pub with_reset : bit_or (flags_of f d) 32 ≡ three a b true
  unfolding flags_of
  with_reset = (taken a b c).reset

  pub flags_few : flags_of f d < 256
  unfolding flags_of
  flags_few = omega (arith, bit_lt a, bit_lt b, bit_lt c)

  pub flags_low : flags_of f d % 32 ≡ 0
  unfolding flags_of
  flags_low = (taken a b c).low

  pub is_outage : (flags_of f d / 128 % 2 ≡ 1) ↔ (f.outage d ≡ true)
  unfolding flags_of
  is_outage = bit_is a (flags_of f d / 128 % 2) (omega (arith, bit_lt a, bit_lt b, bit_lt c))

  pub is_meter : (flags_of f d / 64 % 2 ≡ 1) ↔ (f.meter d ≡ true)
  unfolding flags_of
  is_meter = bit_is b (flags_of f d / 64 % 2) (omega (arith, bit_lt a, bit_lt b, bit_lt c))

  pub is_reset_lem : (flags_of f d / 32 % 2 ≡ 1) ↔ (f.reset d ≡ true)
  unfolding flags_of
  is_reset_lem = bit_is c (flags_of f d / 32 % 2) (omega (arith, bit_lt a, bit_lt b, bit_lt c))
