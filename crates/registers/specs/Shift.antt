-- By how many seconds the clock is adjusted (docs/RULES.md, "Events", Adjust): ahead or back, 900 at most.
use Rattle.std.specs.Prelude.{ℕ, suc, ◌+◌, ◌-◌, ◌%◌, Bool, false, ℤ, pos, negsuc, nat_le, nat_lt}
use Rattle.calendar.specs.Clock.{seconds_of_half, times_in_all}
use Rattle.registers.specs.declared.Shift.{Shift}
use Rattle.registers.specs.declared.Shift.TheVariants.{Ahead, Back}

abbrev pub farthest : ℕ
farthest = 900

-- of a signed number
abbrev pub shift_of : ℤ → Shift
shift_of (pos n) = Ahead n
shift_of (negsuc n) = Back (suc n)

-- the new time
abbrev pub shifted : ℕ → Shift → ℕ
shifted now (Ahead n) = now + n
shifted now (Back n) = now - n

-- farther than an adjust goes; back by more than has passed of the running half-hour; ahead past 2099
abbrev pub too_far : Shift → Bool
too_far (Ahead n) = nat_lt farthest n
too_far (Back n) = nat_lt farthest n

abbrev pub early : ℕ → Shift → Bool
early now (Ahead n) = false
early now (Back n) = nat_lt (now % seconds_of_half) n

abbrev pub late : ℕ → Shift → Bool
late now (Ahead n) = nat_le times_in_all (now + n)
late now (Back n) = false
