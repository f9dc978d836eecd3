-- How long a text is at most, so that a buffer of that many bytes always suffices: seven days, all the switching times that a table may have, and a newline for each day type.
use Rattle.std.specs.Prelude.{ℕ, ◌+◌, ◌*◌, ◌≤◌, ◌≡◌, List, length}
use Rattle.tariff.specs.Table.{days_of_week, most_times}
use Rattle.tariff.specs.Judge.{most_types, judged}
use Rattle.drawn.specs.Week.{week_text}
use Rattle.drawn.specs.Asked.{drawn_of}

abbrev pub longest_week : ℕ
longest_week = 60 * days_of_week + 8 * most_times + most_types

abbrev pub WeekFits : Type 0
WeekFits = (l : List ℕ) (d : ℕ) → judged l ≡ 0 → length (week_text l d) ≤ longest_week

-- what the program prints, for every input
abbrev pub PrintFits : Type 0
PrintFits = (b : List ℕ) → length (drawn_of b) ≤ longest_week
