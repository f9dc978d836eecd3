-- What is opened so that the definitions compute, by its place: from set-up to a ledger that is filed in and asked.
-- Assumes nothing.
use Rattle.block.specs.Consistent.{consistent, dated_in, filled_in, joined_in, repeated_in}
use Rattle.block.specs.Fields.{day_in, fields_in, head_in, seconds_in}
use Rattle.block.specs.Header.{head_given}
use Rattle.block.specs.Layout.{body_fields, day_fields, frame_fields, header_fields, is_identifier, low_five_clear, rate_fields, real_reset, render_block, total_fields, value_fields}
use Rattle.block.specs.Parse.{look, looked_with, parse}
use Rattle.calendar.specs.Calendar.{date_of, day_number, day_of, in_month, in_year, leap_day, month_length, months, place, real_date, year_length}
use Rattle.calendar.specs.Clock.{ended_on, real_clock, real_stamp, second_number, second_of, stamp_of}
use Rattle.calendar.specs.Digits.{day_on, real_day, real_time, seconds_on, time_digits}
use Rattle.days.specs.Agree.{join_day, same_flags}
use Rattle.days.specs.Day.{flags_held}
use Rattle.days.specs.View.{carries, offer, offered}
use Rattle.filing.specs.File.{agree_at, agrees, day_after, file_answer, file_checks, file_of, held_of, ident_at, ledger_after, newly_held, read_of as filing_read_of, refusal, same_meter}
use Rattle.format.specs.Fields.{first_bad, ok_values, render, times, values_at}
use Rattle.format.specs.Identifier.{free_byte, ident_byte, ident_ok, ident_test}
use Rattle.format.specs.Numbers.{digit_at, digit_test, digits_in, good_at, is_digit, num_at}
use Rattle.judgement.specs.Days.{day_at as judgement_day_at, value_sent, word_sent}
use Rattle.judgement.specs.Given.{day_fits, day_given, days_fit, days_given, filled as judgement_filled, given, head_fits, joined, repeated, value_fits, writable}
use Rattle.judgement.specs.Source.{room_of, shaped, taken_of}
use Rattle.laws.specs.Bits.{bit_at, pack_bits}
use Rattle.laws.specs.Each.{each}
use Rattle.laws.specs.Table.{table}
use Rattle.laws.specs.Tests.{all_below, sum_below}
use Rattle.ledger.specs.Asked.{asked, in_window, summary_of, missing_of, day_summary, day_missing}
use Rattle.ledger.specs.Judged.{flags_ok, good_ledger, head_ok, ledger_checks, marks_ok, room_ok, room_test, room_with, start_ok, value_test, values_ok}
use Rattle.ledger.specs.Layout.{value_in}
use Rattle.ledger.specs.Open.{head_byte, head_of, open_answer, open_checks, open_of, open_ok}
use Rattle.ledger.specs.Rooms.{day_at as ledger_day_at, half_in, pack, pack_byte, room_byte, slot, word_of}
use Rattle.marks.specs.Marks.{ended_part, marks_sent, taken}
use Rattle.profile.specs.Profile.{advance_at, before_at, end_reading, summed_advance, values_from}
use Rattle.readout.specs.Read.{header_sent, rate_sent, read_answer, read_back, read_of as readout_read_of}
use Rattle.recorder.specs.Answer.{answer_of, answer_with, wrong_power}
use Rattle.recorder.specs.Boundary.{advance_to, close_one, ended}
use Rattle.recorder.specs.Effect.{after, flag_from, flag_today}
use Rattle.recorder.specs.Range.{in_range}
use Rattle.recorder.specs.SetUp.{blank, fresh, made, set_up, set_up_with, started}
use Rattle.recorder.specs.Step.{step}
use Rattle.registers.specs.Energy.{added_of, energy_counted, rates_ok, units_with}
use Rattle.rooms.specs.View.{half_of, view_in, view_of}
use Rattle.store.specs.Begun.{begun, filled as store_filled}
use Rattle.store.specs.Store.{closed, flag_at, flagged, opened, passed, push_at, turned}
use Rattle.writer.specs.Send.{send_of}

unfoldable pub opens_under : Unit {0}
unfolding date_of day_number day_of in_month in_year leap_day month_length months place real_date year_length ended_on real_clock real_stamp second_number second_of stamp_of day_on real_day real_time seconds_on time_digits first_bad ok_values render times values_at free_byte ident_byte ident_ok ident_test digit_at digit_test digits_in good_at is_digit num_at bit_at pack_bits each table all_below sum_below ended_part marks_sent taken advance_at before_at end_reading summed_advance values_from
opens_under = tt

unfoldable pub opens_block : Unit {0}
unfolding consistent dated_in filled_in joined_in repeated_in day_in fields_in head_in seconds_in head_given body_fields day_fields frame_fields header_fields is_identifier low_five_clear rate_fields real_reset render_block total_fields value_fields look looked_with parse
opens_block = tt

unfoldable pub opens_recorder : Unit {0}
unfolding answer_of answer_with wrong_power advance_to close_one ended after flag_from flag_today in_range blank fresh made set_up set_up_with started step added_of energy_counted rates_ok units_with begun store_filled closed flag_at flagged opened passed push_at turned
opens_recorder = tt

unfoldable pub opens_sending : Unit {0}
unfolding judgement_day_at value_sent word_sent day_fits day_given days_fit days_given judgement_filled given head_fits joined repeated value_fits writable room_of shaped taken_of header_sent rate_sent read_answer read_back readout_read_of send_of
opens_sending = tt

unfoldable pub opens_filing : Unit {0}
unfolding asked in_window summary_of missing_of day_summary day_missing join_day same_flags flags_held carries offer offered agree_at agrees day_after file_answer file_checks file_of held_of ident_at ledger_after newly_held filing_read_of refusal same_meter flags_ok good_ledger head_ok ledger_checks marks_ok room_ok room_test room_with start_ok value_test values_ok value_in head_byte head_of open_answer open_checks open_of open_ok ledger_day_at half_in pack pack_byte room_byte slot word_of half_of view_in view_of
opens_filing = tt

unfoldable pub opens : Unit {0}
unfolding opens_under opens_block opens_recorder opens_sending opens_filing
opens = tt
