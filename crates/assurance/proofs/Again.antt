-- A block that the reader takes, its header and days handed to the writer, is written again as the same bytes.
-- Assumes nothing.
use Prim.Native.Nat.{ℕ, ◌+◌, ◌*◌, ◌/◌, ◌%◌, ◌<◌, ◌≤◌}
use mathlib.Core.Path.{◌≡◌, refl, ◌∙◌}
use mathlib.Core.Bool.{true, cond}
use mathlib.Core.List.{List}
use native.Mathlib.Omega.{arith}
use lib.Dec.{eqb}
use lib.ListN.{length, get_or}
use lib.Seq.{sets}
use borrow.Author.Tests.{le-leb, lt-ltb, le-ltb, eq-eqb}
use Rattle.laws.proofs.Table.{length_table, table_at}
use Rattle.calendar.specs.Calendar.{days_in_all}
use Rattle.calendar.specs.Clock.{halves_of_day}
use Rattle.profile.specs.Profile.{values_from}
use Rattle.block.specs.Answers.{answer}
use Rattle.block.specs.Layout.{most_days, block_bytes}
use Rattle.block.specs.Header.{header_of}
use Rattle.block.specs.Fields.{fields_in, days_in, start_in, flags_in, half_in, reverse_in, level2_in}
use Rattle.block.specs.Parse.{fields, parse, acceptable}
use Rattle.block.proofs.Trip.{parse_back, days_of_lem}
use Rattle.reader.proofs.Answers.{parsed_is}
use Rattle.judgement.specs.Source.{shaped, lent}
use Rattle.judgement.specs.Days.{DayRecord, value_sent, word_sent, day_at, days_from}
use Rattle.judgement.specs.Given.{given, writable}
use Rattle.judgement.proofs.Rooms.{lent_room, lent_taken, lent_shaped}
use Rattle.judgement.proofs.Again.{eight, reset_few, Same, given_again}
use Rattle.judgement.proofs.Writable.{writable_exact}
use Rattle.writer.specs.Send.{sent, write_of}
use Rattle.writer.proofs.Sent.{send_shaped}
use Rattle.fields.specs.Views.{has_day, header_in, day_given, half_given}
use Rattle.fields.proofs.Laws.{header_read}
use Rattle.assurance.specs.Again.{values_of, starts_of, words_of}

-- ---- the days of a block, laid out

module _ (b : List ℕ) (n : ℕ) (vs : List ℕ) (read : parse b ≡ fields n vs) where
  ok_fields : acceptable n vs ≡ true
  ok_fields = (parse_back b n vs read).1

  here : (length b ≡ block_bytes n) × (n ≤ most_days) × (vs ≡ fields_in b)
  here = parsed_is b n vs read

  days_here : days_in (length b) ≡ n
  days_here = days_of_lem (length b) n here.0

  abbrev v : List ℕ
  v = values_of b n

  abbrev s : List ℕ
  s = starts_of b n

  abbrev m : List ℕ
  m = words_of b n

  abbrev D : ℕ → DayRecord
  D = days_from (lent n) v s m

  module _ (i : ℕ) (l : i < n) where
    there : has_day b i ≡ true
    there = rw days_here (lt-ltb i n l)

    start_here : get_or s i 0 ≡ start_in vs i
    unfolding starts_of day_given
    start_here = table_at n (λ i. (day_given b i).start.0) i 0 l ∙ rw (there, ← here.2)

    value_here : (j : ℕ) → j < halves_of_day → get_or v (i * halves_of_day + j) 0 ≡ half_in vs i j
    unfolding values_of half_given
    value_here j k =
        let at : (i * halves_of_day + j) / halves_of_day ≡ i = omega arith in
        let rest : (i * halves_of_day + j) % halves_of_day ≡ j = omega arith in
        table_at (n * halves_of_day) (λ q. (half_given b (q / halves_of_day) (q % halves_of_day)).value.0) (i * halves_of_day + j) 0 (omega arith)
        ∙ rw (at, rest, there, lt-ltb j halves_of_day k, ← here.2)

    reverse_here : get_or m (i * 3) 0 ≡ reverse_in vs i
    unfolding words_of day_given
    reverse_here =
        let at : (i * 3) / 3 ≡ i = omega arith in
        let rest : (i * 3) % 3 ≡ 0 = omega arith in
        table_at (n * 3) _ (i * 3) 0 (omega arith) ∙ rw (at, rest, there, ← here.2)

    level2_here : get_or m (i * 3 + 1) 0 ≡ level2_in vs i
    unfolding words_of day_given
    level2_here =
        let at : (i * 3 + 1) / 3 ≡ i = omega arith in
        let rest : (i * 3 + 1) % 3 ≡ 1 = omega arith in
        table_at (n * 3) _ (i * 3 + 1) 0 (omega arith) ∙ rw (at, rest, there, ← here.2)

    flags_here : get_or m (i * 3 + 2) 0 ≡ flags_in vs i
    unfolding words_of day_given
    flags_here =
        let at : (i * 3 + 2) / 3 ≡ i = omega arith in
        let rest : (i * 3 + 2) % 3 ≡ 2 = omega arith in
        table_at (n * 3) _ (i * 3 + 2) 0 (omega arith) ∙ rw (at, rest, there, ← here.2)

    same_day_lem : Same n vs ok_fields D i
    unfolding day_at value_sent word_sent values_from
    same_day_lem =
        let room = lent_room n i l in
        let all = lent_taken n i in
        record {
          start = rw room start_here;
          flags = rw room flags_here;
          value = λ j k. rw (room, all, lt-ltb j halves_of_day k) (value_here j k);
          reverse = rw (room, all) reverse_here;
          level2 = rw (room, all) level2_here;
        }

  given_here : given (header_of vs) n D ≡ vs
  given_here = given_again n vs ok_fields D same_day_lem

  shaped_here : shaped (lent n) n (length v) (length s) (length m) ≡ true
  unfolding values_of starts_of words_of
  shaped_here =
      lent_shaped n (length v) (length s) (length m)
      ∙ rw (
        length_table (n * halves_of_day) (λ q. (half_given b (q / halves_of_day) (q % halves_of_day)).value.0),
        length_table n (λ i. (day_given b i).start.0),
        length_table (n * 3) (λ q. cond (eqb (q % 3) 0) (day_given b (q / 3)).reverse (cond (eqb (q % 3) 1) (day_given b (q / 3)).level2 (day_given b (q / 3)).flags)),
        le-leb n most_days here.1,
        eq-eqb (n * halves_of_day) (n * halves_of_day) refl,
        eq-eqb n n refl,
        eq-eqb (n * 3) (n * 3) refl,
      )

  writable_here : writable (header_of vs) n (lent n) v s m ≡ true
  writable_here =
      writable_exact (header_of vs) n (lent n) v s m (eight n vs ok_fields) refl
      ∙ rw (given_here, ok_fields, le-leb (header_of vs).reset days_in_all (reset_few n vs ok_fields))

  -- THE BLOCK AGAIN
  pub written_again : (out : List ℕ) → length b ≤ length out → write_of (header_in b) n v s m out ≡ sent (sets out 0 b) (answer 0 (length b))
  written_again out room =
      rw (header_read b n vs read, send_shaped (header_of vs) n (lent n) v s m out shaped_here, writable_here, le-ltb (length out) (block_bytes n) (omega (arith, here.0)), given_here, (parse_back b n vs read).0, here.0)
