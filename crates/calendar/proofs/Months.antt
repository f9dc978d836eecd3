-- The month of a day of a year whose February has 30 days, and the days before a month there, as the code has the two formulas.
-- Assumes nothing.
use Prim.Native.Nat.{ℕ, ◌+◌, ◌*◌, ◌/◌}

abbrev pub month_of : ℕ → ℕ
month_of s = (12 * s + 6) / 367

abbrev pub before : ℕ → ℕ
before i = (367 * i + 5) / 12
