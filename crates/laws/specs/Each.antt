-- Counting loops: what a step does to a state, done for each number of a range, one after the other.
use Rattle.std.specs.Prelude.{ℕ, zero, suc, ◌+◌, ◌-◌}

-- f at i, i + 1, .., n times
unfoldable pub each : {A : Type 0} → (ℕ → A → A) → ℕ → ℕ → A → A
each f i zero x = x
each f i (suc n) x = each f (i + 1) n (f i x)

-- for i in from..to
abbrev pub for_to : {A : Type 0} → (ℕ → A → A) → ℕ → ℕ → A → A
for_to f from to x = each f from (to - from) x
