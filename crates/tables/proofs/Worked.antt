-- The worked tables.
-- Assumes nothing.
use mathlib.Core.Path.{◌≡◌, refl}
use Rattle.calendar.specs.Calendar.{leap_day, year_length, months, month_length, real_date, day_number, day_of, place, in_month, in_year, date_of}
use Rattle.laws.specs.Tests.{sum_below}
use Rattle.tariff.specs.Table.{slots_to, minute_of, any_of, all_of, count_of}
use Rattle.tariff.specs.Judge.{date_ok, entry_ok, opens, served, clash, clash_in, sound, judged}
use Rattle.tariff.specs.Rate.{today_of, covers, higher, ruled, applies, later, latest, rate_in, rate_at}
use Rattle.tables.specs.Cases.{saved, rates, rates_due, answers, answers_due, times, dates, week, limits, limits_due}

pub worked_rates : rates ≡ rates_due
unfolding saved leap_day year_length months month_length real_date day_number day_of place in_month in_year date_of sum_below slots_to minute_of any_of all_of count_of today_of covers higher ruled applies later latest rate_in rate_at
worked_rates = refl

pub worked_answers : answers ≡ answers_due
unfolding saved leap_day year_length months month_length real_date day_number day_of place in_month in_year date_of sum_below slots_to minute_of any_of all_of count_of date_ok entry_ok opens served clash clash_in sound judged
worked_answers = refl

pub worked_limits : limits ≡ limits_due
unfolding saved times dates week leap_day year_length months month_length real_date day_number day_of place in_month in_year date_of sum_below slots_to minute_of any_of all_of count_of date_ok entry_ok opens served clash clash_in sound judged
worked_limits = refl
