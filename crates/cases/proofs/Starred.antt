-- The starred cases, and the adjustments of the clock: one statement over one list.
-- Assumes nothing.
use mathlib.Core.List.{map, ◌++◌}
use mathlib.Core.Path.{◌≡◌, refl}
use Rattle.format.specs.Identifier.{free_byte, ident_byte, ident_test, ident_ok, with_ppp}
use Rattle.marks.specs.Marks.{taken}
use Rattle.laws.specs.Each.{each}
use Rattle.laws.specs.Tests.{all_below}
use Rattle.calendar.specs.Calendar.{leap_day, months, month_length, real_date}
use Rattle.calendar.specs.Clock.{ended_on}
use Rattle.registers.specs.Energy.{rates_ok, added_of, units_with, energy_counted}
use Rattle.store.specs.Store.{push_at, closed, opened, turned, flag_at, flagged}
use Rattle.store.specs.Begun.{filled, begun}
use Rattle.recorder.specs.Range.{in_range}
use Rattle.recorder.specs.Boundary.{ended, close_one, advance_to}
use Rattle.recorder.specs.Effect.{flag_today, flag_from, after}
use Rattle.recorder.specs.Answer.{wrong_power, event_answer, answer_with, answer_of}
use Rattle.recorder.specs.Step.{step, run}
use Rattle.recorder.specs.SetUp.{set_up_with, started, fresh, blank, made, set_up}
use Rattle.recorder.specs.Stored.{advanced}
use Rattle.cases.specs.Cases.{Case, cases}
use Rattle.cases.specs.Adjusts.{adjustments}

pub starred : map (λ (c : Case). c.given) (cases ++ adjustments) ≡ map (λ (c : Case). c.due) (cases ++ adjustments)
unfolding each all_below leap_day months month_length real_date free_byte ident_byte ident_test ident_ok with_ppp taken rates_ok added_of units_with energy_counted push_at closed opened turned flag_at flagged filled begun in_range ended close_one advance_to flag_today flag_from after wrong_power event_answer answer_with answer_of step run set_up_with started fresh blank made set_up ended_on advanced
starred = refl
