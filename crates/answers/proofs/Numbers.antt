-- A refusal's number is not that of a call that is done.
-- Assumes nothing.
use Rattle.std.specs.Prelude.{ℕ, ◌≡◌, ◌<◌, Ok, Err}
use mathlib.Core.Path.{ap}
use native.Mathlib.Omega.{arith}
use Rattle.answers.specs.declared.Refusal.{Refusal}
use Rattle.answers.specs.declared.Refusal.TheVariants.{Power, Time, Units, Length, Damaged, Range, Short, NoBlock, Field, Inconsistent, OtherMeter, Differs, Ended, Clash, Loaded}
use Rattle.answers.specs.Answer.{Answer, number_of, answered}

pub above_0 : (r : Refusal) → 0 < number_of r
above_0 Power = omega arith
above_0 Time = omega arith
above_0 Units = omega arith
above_0 Length = omega arith
above_0 Damaged = omega arith
above_0 Range = omega arith
above_0 (Short x) = omega arith
above_0 NoBlock = omega arith
above_0 (Field x) = omega arith
above_0 Inconsistent = omega arith
above_0 OtherMeter = omega arith
above_0 Differs = omega arith
above_0 Ended = omega arith
above_0 Clash = omega arith
above_0 Loaded = omega arith

-- refused with 0: nothing is
pub never_done : {A : Type 0} (r : Refusal) (n : ℕ) → answered (Err r) ≡ answered (Ok n) → A
never_done r n e = let z : number_of r ≡ 0 = ap (λ (a : Answer). a.number) e in absurd (omega (arith, above_0 r))
