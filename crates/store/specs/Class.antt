-- Classes a, b, c, d hold 20, 100, 250, 450 complete days, and the current day besides (docs/RULES.md, "Set-up"), and the store's length depends on the class
-- alone. Blank is the class that is no class, and holds none.
use Rattle.std.specs.Prelude.{ℕ, ◌+◌, ◌*◌, Bool, ◌&&◌, eqb}
use Rattle.calendar.specs.Clock.{halves_of_day}
use Rattle.store.specs.declared.Class.{Class}
use Rattle.store.specs.declared.Class.TheVariants.{A, B, C, D, Blank}

abbrev pub complete_days : Class → ℕ
complete_days A = 20
complete_days B = 100
complete_days C = 250
complete_days D = 450
complete_days Blank = 0

-- the days in all, each of which has its room in the store
abbrev pub days_of : Class → ℕ
days_of A = complete_days A + 1
days_of B = complete_days B + 1
days_of C = complete_days C + 1
days_of D = complete_days D + 1
days_of Blank = 0

-- the most that a class has
abbrev pub most_days : ℕ
most_days = days_of D

-- what a day takes of the store: a value for each half-hour, one start, and three words (reverse marks, Level 2 marks, flags)
abbrev pub day_words : ℕ
day_words = 3

-- the lengths of the three slices
abbrev pub right_lengths : ℕ → ℕ → ℕ → ℕ → Bool
right_lengths cap values starts marks = eqb values (cap * halves_of_day) && eqb starts cap && eqb marks (cap * day_words)
