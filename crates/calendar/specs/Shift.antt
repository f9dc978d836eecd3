-- A year as though its February had 30 days: the month of a day is then one formula, which the code reckons by. No rule speaks of it.
use Rattle.std.specs.Prelude.{ℕ, ◌+◌, ◌-◌, cond, ltb}

-- the days before March, in a year that has l days more than 365
abbrev pub before_march : ℕ → ℕ
before_march l = 59 + l

-- where day n of that year comes to stand
unfoldable pub shift : ℕ → ℕ → ℕ
shift l n = cond (ltb n (before_march l)) n (n + (2 - l))
