-- A block's days as `fields` gives them, laid out for the writer (docs/STORE.md): newest first, of each day 48 values, a start, and its words of reverse marks, Level 2 marks and flags.
use Rattle.std.specs.Prelude.{ℕ, ◌*◌, ◌/◌, ◌%◌, cond, List, eqb}
use Rattle.laws.specs.Table.{table}
use Rattle.calendar.specs.Clock.{halves_of_day}
use Rattle.store.specs.Class.{day_words}
use Rattle.fields.specs.Views.{day_given, half_given}

unfoldable pub values_of : List ℕ → ℕ → List ℕ
values_of b n = table (n * halves_of_day) (λ q. (half_given b (q / halves_of_day) (q % halves_of_day)).value.0)

unfoldable pub starts_of : List ℕ → ℕ → List ℕ
starts_of b n = table n (λ i. (day_given b i).start.0)

unfoldable pub words_of : List ℕ → ℕ → List ℕ
words_of b n =
    table (n * day_words) (λ q.
    let day = day_given b (q / day_words) in
    cond (eqb (q % day_words) 0) day.reverse (cond (eqb (q % day_words) 1) day.level2 day.flags))
