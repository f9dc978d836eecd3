-- What happens to an outstation: one statement for each list.
-- Assumes nothing.
use mathlib.Core.List.{map}
use mathlib.Core.Path.{◌≡◌, refl}
use Rattle.format.specs.Identifier.{free_byte, ident_byte, ident_test, ident_ok, with_ppp}
use Rattle.marks.specs.Marks.{taken}
use Rattle.laws.specs.Each.{each}
use Rattle.laws.specs.Tests.{all_below, sum_below}
use Rattle.calendar.specs.Calendar.{leap_day, year_length, months, month_length, real_date, day_number, day_of, place, in_month, in_year, date_of}
use Rattle.calendar.specs.Clock.{ended_on}
use Rattle.registers.specs.Energy.{rates_ok, added_of, units_with, energy_counted}
use Rattle.store.specs.Store.{push_at, closed, opened, turned, flag_at, flagged}
use Rattle.store.specs.Begun.{filled, begun}
use Rattle.recorder.specs.Range.{in_range}
use Rattle.recorder.specs.Boundary.{ended, close_one, advance_to}
use Rattle.recorder.specs.Effect.{flag_today, flag_from, after}
use Rattle.recorder.specs.Answer.{wrong_power, event_answer, answer_with, answer_of}
use Rattle.recorder.specs.Step.{step}
use Rattle.recorder.specs.SetUp.{set_up_with, started, fresh, blank, made, set_up}
use Rattle.tariff.specs.Table.{slots_to, minute_of, any_of, all_of, count_of}
use Rattle.tariff.specs.Judge.{date_ok, entry_ok, opens, served, clash, clash_in, names_above, sound, judged}
use Rattle.tariff.specs.Rate.{today_of, covers, higher, ruled, applies, later, latest, rate_in, rate_at}
use Rattle.tables.specs.Cases.{saved}
use Rattle.outstation.specs.Outstation.{answer_of as site_answer, rate_then, rate_kept, happens, run}
use Rattle.outstation.specs.SetUp.{set_up_site}
use Rattle.cases.specs.Cases.{Case}
use Rattle.loads.specs.Loads.{told, lives, rooms, adjustments, order, phases, phases_loaded}

pub worked_lives : map (λ (c : Case). c.given) lives ≡ map (λ (c : Case). c.due) lives
unfolding each all_below sum_below leap_day year_length months month_length real_date day_number day_of place in_month in_year date_of ended_on free_byte ident_byte ident_test ident_ok with_ppp taken rates_ok added_of units_with energy_counted push_at closed opened turned flag_at flagged filled begun in_range ended close_one advance_to flag_today flag_from after wrong_power event_answer answer_with answer_of step set_up_with started fresh blank made set_up slots_to minute_of any_of all_of count_of date_ok entry_ok opens served clash clash_in names_above sound judged today_of covers higher ruled applies later latest rate_in rate_at saved site_answer rate_then rate_kept happens run set_up_site told
worked_lives = refl

pub worked_rooms : map (λ (c : Case). c.given) rooms ≡ map (λ (c : Case). c.due) rooms
unfolding each all_below sum_below leap_day year_length months month_length real_date day_number day_of place in_month in_year date_of ended_on free_byte ident_byte ident_test ident_ok with_ppp taken rates_ok added_of units_with energy_counted push_at closed opened turned flag_at flagged filled begun in_range ended close_one advance_to flag_today flag_from after wrong_power event_answer answer_with answer_of step set_up_with started fresh blank made set_up slots_to minute_of any_of all_of count_of date_ok entry_ok opens served clash clash_in names_above sound judged today_of covers higher ruled applies later latest rate_in rate_at saved site_answer rate_then rate_kept happens run set_up_site told
worked_rooms = refl

pub worked_adjustments : map (λ (c : Case). c.given) adjustments ≡ map (λ (c : Case). c.due) adjustments
unfolding each all_below sum_below leap_day year_length months month_length real_date day_number day_of place in_month in_year date_of ended_on free_byte ident_byte ident_test ident_ok with_ppp taken rates_ok added_of units_with energy_counted push_at closed opened turned flag_at flagged filled begun in_range ended close_one advance_to flag_today flag_from after wrong_power event_answer answer_with answer_of step set_up_with started fresh blank made set_up slots_to minute_of any_of all_of count_of date_ok entry_ok opens served clash clash_in names_above sound judged today_of covers higher ruled applies later latest rate_in rate_at saved site_answer rate_then rate_kept happens run set_up_site told
worked_adjustments = refl

pub worked_order : map (λ (c : Case). c.given) order ≡ map (λ (c : Case). c.due) order
unfolding each all_below sum_below leap_day year_length months month_length real_date day_number day_of place in_month in_year date_of ended_on free_byte ident_byte ident_test ident_ok with_ppp taken rates_ok added_of units_with energy_counted push_at closed opened turned flag_at flagged filled begun in_range ended close_one advance_to flag_today flag_from after wrong_power event_answer answer_with answer_of step set_up_with started fresh blank made set_up slots_to minute_of any_of all_of count_of date_ok entry_ok opens served clash clash_in names_above sound judged today_of covers higher ruled applies later latest rate_in rate_at saved site_answer rate_then rate_kept happens run set_up_site told
worked_order = refl

pub worked_phases : map (λ (c : Case). c.given) phases ≡ map (λ (c : Case). c.due) phases
unfolding each all_below sum_below leap_day year_length months month_length real_date day_number day_of place in_month in_year date_of ended_on free_byte ident_byte ident_test ident_ok with_ppp taken rates_ok added_of units_with energy_counted push_at closed opened turned flag_at flagged filled begun in_range ended close_one advance_to flag_today flag_from after wrong_power event_answer answer_with answer_of step set_up_with started fresh blank made set_up slots_to minute_of any_of all_of count_of date_ok entry_ok opens served clash clash_in names_above sound judged today_of covers higher ruled applies later latest rate_in rate_at saved site_answer rate_then rate_kept happens run set_up_site told
worked_phases = refl

pub worked_phases_loaded : map (λ (c : Case). c.given) phases_loaded ≡ map (λ (c : Case). c.due) phases_loaded
unfolding each all_below sum_below leap_day year_length months month_length real_date day_number day_of place in_month in_year date_of ended_on free_byte ident_byte ident_test ident_ok with_ppp taken rates_ok added_of units_with energy_counted push_at closed opened turned flag_at flagged filled begun in_range ended close_one advance_to flag_today flag_from after wrong_power event_answer answer_with answer_of step set_up_with started fresh blank made set_up slots_to minute_of any_of all_of count_of date_ok entry_ok opens served clash clash_in names_above sound judged today_of covers higher ruled applies later latest rate_in rate_at saved site_answer rate_then rate_kept happens run set_up_site told
worked_phases_loaded = refl
