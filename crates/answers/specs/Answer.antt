-- An answer as the rules number it (docs/ANSWERS.md), and the answer that a call's result is.
use Rattle.std.specs.Prelude.{ℕ, Result, Ok, Err}
use Rattle.answers.specs.declared.Refusal.{Refusal}
use Rattle.answers.specs.declared.Refusal.TheVariants.{Power, Time, Units, Length, Damaged, Range, Short, NoBlock, Field, Inconsistent, OtherMeter, Differs, Ended, Clash, Loaded}

-- an answer number, 0 where the call is done, and what it carries
pub record Answer : Type 0 where
  pub number : ℕ
  pub carried : ℕ

abbrev pub number_of : Refusal → ℕ
number_of Power = 1
number_of Time = 2
number_of Units = 3
number_of Length = 4
number_of Damaged = 5
number_of Range = 6
number_of (Short bytes) = 7
number_of NoBlock = 8
number_of (Field at) = 9
number_of Inconsistent = 10
number_of OtherMeter = 11
number_of Differs = 12
number_of Ended = 13
number_of Clash = 14
number_of Loaded = 15

-- the bytes needed, the byte that a wrong field begins at; of any other nothing
abbrev pub carried_of : Refusal → ℕ
carried_of Power = 0
carried_of Time = 0
carried_of Units = 0
carried_of Length = 0
carried_of Damaged = 0
carried_of Range = 0
carried_of (Short bytes) = bytes
carried_of NoBlock = 0
carried_of (Field at) = at
carried_of Inconsistent = 0
carried_of OtherMeter = 0
carried_of Differs = 0
carried_of Ended = 0
carried_of Clash = 0
carried_of Loaded = 0

-- the answer of a call that is done with a number, or refused
abbrev pub answered : Result ℕ Refusal → Answer
answered (Ok n) = record { number = 0; carried = n }
answered (Err r) = record { number = number_of r; carried = carried_of r }

-- the number alone, of a call that is done with nothing to carry, or refused
abbrev pub judged_as : Result (Unit {0}) Refusal → ℕ
judged_as (Ok u) = 0
judged_as (Err r) = number_of r
