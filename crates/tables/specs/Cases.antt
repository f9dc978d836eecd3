-- Tables worked out by hand (docs/TARIFF.md): the rates of one, and the answers to loads of others. They pin what no general theorem says: the weekday, the ranks, the limits of each field.
use Rattle.std.specs.Prelude.{ℕ, zero, suc, ◌+◌, ◌-◌, ◌*◌, ◌/◌, ◌%◌, List, [], ◌∷◌, ◌++◌, map, length, replicate}
use Rattle.tariff.specs.Table.{table_size, time, exception, weekdays, default}
use Rattle.tariff.specs.Judge.{every_year, judged}
use Rattle.tariff.specs.Rate.{rate_at}

-- a switching time, an exception, a run of weekdays, the default; and a table of entries, the rest unused
abbrev pub at : ℕ → ℕ → ℕ → ℕ → List ℕ
at daytype hour minute rate = time ∷ daytype ∷ hour ∷ minute ∷ rate ∷ []

abbrev pub on : ℕ → ℕ → ℕ → ℕ → List ℕ
on daytype year month day = exception ∷ daytype ∷ year ∷ month ∷ day ∷ []

abbrev pub from : ℕ → ℕ → ℕ → List ℕ
from daytype first last = weekdays ∷ daytype ∷ first ∷ last ∷ 0 ∷ []

abbrev pub else : ℕ → List ℕ
else daytype = default ∷ daytype ∷ 0 ∷ 0 ∷ 0 ∷ []

unfoldable pub saved : List ℕ → List ℕ
saved l = l ++ replicate (table_size - length l) 0

-- ---- rates: day type 1 from 00:00 rate 1, from 07:00 rate 2, from 23:30 rate 1; 2 from 00:00 rate 3; 3 from 00:00 rate 4, from 12:00 rate 1; default 1; Saturday and Sunday 2; 25 December of
-- every year 3; 6 May 2024 2

abbrev pub worked : List ℕ
worked =
    saved
    (at 1 0 0 1 ++ at 1 7 0 2 ++ at 1 23 30 1 ++ at 2 0 0 3 ++ at 3 0 0 4 ++ at 3 12 0 1 ++ else 1 ++ from 2 6 7 ++ on 3 every_year 12 25 ++ on 2 24 5 6)

-- a Wednesday's 06:59:59 and 07:00:00, a Saturday's 00:00, a Monday with an exception and the day a year later, a Saturday 25 December before and at 12:00, the first second and the last
abbrev pub rates : List ℕ
rates = map (rate_at worked) (762418799 ∷ 762418800 ∷ 762652800 ∷ 768312000 ∷ 799848000 ∷ 883051199 ∷ 883051200 ∷ 0 ∷ 3155759999 ∷ [])

abbrev pub rates_due : List ℕ
rates_due = 1 ∷ 2 ∷ 3 ∷ 3 ∷ 2 ∷ 4 ∷ 1 ∷ 3 ∷ 1 ∷ []

-- ---- answers: no default; no rate from 00:00; the least table; 29 February of every year, and of 2023; 29 February of every year with that of 2024; weekdays that meet, and that do not; 24:00; rate 9

abbrev pub least : List ℕ
least = at 1 0 0 1 ++ else 1

abbrev pub answers : List ℕ
answers =
    map judged
    (saved [] ∷ saved (else 1 ++ at 1 0 1 1) ∷ saved least ∷ saved (least ++ on 1 every_year 2 29) ∷ saved (least ++ on 1 23 2 29)
    ∷ saved (least ++ on 1 every_year 2 29 ++ on 1 24 2 29) ∷ saved (least ++ from 1 1 5 ++ from 1 5 7) ∷ saved (least ++ from 1 1 5 ++ from 1 6 7) ∷ saved (least ++ at 2 24 0 1)
    ∷ saved (least ++ at 1 23 59 9) ∷ [])

abbrev pub answers_due : List ℕ
answers_due = 6 ∷ 6 ∷ 0 ∷ 0 ∷ 6 ∷ 14 ∷ 14 ∷ 0 ∷ 6 ∷ 6 ∷ []

-- ---- limits: a table with every slot taken, 48 times, 32 exceptions, seven weekdays and a default, its last day type 8; a 49th time for an exception; a 33rd exception for a time; day type 9; day type 0

-- n times of day type 1, a half-hour apart; n exceptions of day type 8, from 1 January of every year on; the first n weekdays
unfoldable pub times : ℕ → List ℕ
times zero = []
times (suc n) = times n ++ at 1 (n / 2) (30 * (n % 2)) 1

unfoldable pub dates : ℕ → List ℕ
dates zero = []
dates (suc n) = dates n ++ on 8 every_year (n / 31 + 1) (n % 31 + 1)

unfoldable pub week : ℕ → List ℕ
week zero = []
week (suc n) = week n ++ from 1 (suc n) (suc n)

-- so many times, day type 8's among them, and so many exceptions
abbrev pub filled : ℕ → ℕ → List ℕ
filled n k = at 8 0 0 2 ++ times (n - 1) ++ dates k ++ week 7 ++ else 1

abbrev pub limits : List ℕ
limits = map judged (filled 48 32 ∷ filled 49 31 ∷ filled 47 33 ∷ saved (least ++ at 9 0 0 1) ∷ saved (least ++ at 0 0 0 1) ∷ [])

abbrev pub limits_due : List ℕ
limits_due = 0 ∷ 6 ∷ 6 ∷ 6 ∷ 6 ∷ []
