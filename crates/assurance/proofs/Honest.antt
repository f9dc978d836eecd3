-- Every block of a run is honest: what it says of a day that it carries is what the history says, at the time of reading and at any later one.
-- Assumes nothing.
use Prim.Native.Nat.{ℕ, suc, ◌+◌, ◌-◌, ◌*◌, ◌%◌, ◌<◌, ◌≤◌}
use mathlib.Core.Path.{◌≡◌, refl, sym, ap, ◌∙◌}
use mathlib.Core.Bool.{Bool, false, cond}
use mathlib.Core.List.{List}
use native.Mathlib.Omega.{arith}
use lib.Dec.{ltb}
use lib.ListN.{length}
use borrow.Author.Tests.{lt-ltb}
use Rattle.laws.specs.Bits.{bit_at}
use Rattle.laws.proofs.Bits.{bit_packed}
use Rattle.laws.proofs.Table.{length_table}
use Rattle.quantity.specs.Units.{total_round, milliwatt_hours, reading_at, value_at, kwh_of}
use Rattle.calendar.specs.Clock.{ended_on}
use Rattle.format.specs.Numbers.{binary, num_at}
use Rattle.block.specs.Header.{head_given}
use Rattle.block.specs.Fields.{head_in, ident_in, seconds_in, start_in, flags_in, half_in, reverse_in, level2_in}
use Rattle.judgement.specs.Given.{given}
use Rattle.judgement.proofs.Places.{seconds_at, start_at, flags_at, half_at_lem, reverse_at, level2_at}
use Rattle.days.specs.Day.{History}
use Rattle.days.specs.View.{Honest}
use Rattle.rooms.specs.View.{half_of, view_in}
use Rattle.recorder.specs.declared.SetUp.{SetUp}
use Rattle.recorder.specs.Recorder.{Mem}
use Rattle.assurance.specs.Paper.{Paper, now, today, history_of}
use Rattle.assurance.specs.Sent.{header_due, first_marks, day_due, back_due, days_due, fields_due}
use Rattle.assurance.proofs.Kept.{Given, Kept, reached}
use Rattle.assurance.proofs.Past.{Past}
use Rattle.assurance.proofs.Sending.{ended_reached}

-- ---- the history stays

module _ (s : SetUp) (p u : Paper) (a : Past s p u) where
  abbrev was : History
  was = history_of s p.tape

  abbrev is : History
  is = history_of s u.tape

  start_stays : (d : ℕ) → 48 * d ≤ now p → was.start d ≡ is.start d
  unfolding history_of
  start_stays d l = ap reading_at (sym (a.total (48 * d) l))

  half_stays : (d j : ℕ) → 48 * d + suc j ≤ now p → was.half d j ≡ is.half d j
  unfolding history_of
  half_stays d j l = λ i. record {
    value = (ap value_at (sym (a.total (48 * d + suc j) l))) i;
    reverse = sym (a.reverse (48 * d + j) (omega arith)) i;
    level2 = sym (a.level2 (48 * d + j) (omega arith)) i;
  }

  flags_stay : (d : ℕ) → d < today p → was.flags d ≡ is.flags d
  unfolding history_of
  flags_stay d l = sym (a.flags d l)

mark_due : (k : ℕ) (f : ℕ → Bool) (j : ℕ) → k ≤ 48 → j < k → bit_at 48 (first_marks k f) j ≡ f j
mark_due k f j few l = bit_packed 48 (λ i. cond (ltb i k) (f i) false) j (omega arith) ∙ rw (lt-ltb j k l)

-- ---- the block of a read

module _ (s : SetUp) (z : Given s) (p : Paper) (x : Mem) (k : Kept s p x) (asked : ℕ) where
  abbrev n : ℕ
  n = days_due s p asked

  abbrev vs : List ℕ
  vs = fields_due s p asked

  abbrev h : History
  h = history_of s p.tape

  eight : length (header_due s p).rates ≡ 8
  unfolding header_due
  eight = length_table 8 (λ i. kwh_of (milliwatt_hours (p.tape.counts.rate i % total_round)))

  pub ident_due : ident_in vs ≡ num_at binary p.identifier 0 12
  unfolding head_in fields_due given head_given header_due
  ident_due = refl

  time_due : seconds_in vs ≡ p.time
  unfolding fields_due header_due
  time_due = seconds_at (header_due s p) n (back_due s p) eight k.century

  -- day d stands in the record so many days back
  module _ (d : ℕ) (here : d ≤ today p) (near : today p < d + n) where
    abbrev i : ℕ
    i = today p - d

    less : i < n
    less = omega arith

    day_is : today p - i ≡ d
    day_is = omega arith

    start_says : start_in vs i ≡ h.start d
    unfolding fields_due day_due
    start_says = start_at (header_due s p) n (back_due s p) eight i less ∙ rw day_is

    flags_says : flags_in vs i ≡ h.flags d
    unfolding fields_due day_due
    flags_says = flags_at (header_due s p) n (back_due s p) eight i less ∙ rw day_is

    half_says : (j : ℕ) → j < reached (now p) d → half_of vs i j ≡ h.half d j
    unfolding half_of fields_due day_due
    half_says j l = λ t. record { value = value t; reverse = reverse t; level2 = level2 t }
      where
        e : ended_on p.time (today p - i) ≡ reached (now p) d
        e = rw day_is (ended_reached p.time d)

        value : half_in vs i j ≡ (h.half d j).value
        value = half_at_lem (header_due s p) n (back_due s p) eight i less j (omega arith) ∙ rw (e, day_is, lt-ltb j (reached (now p) d) l)

        reverse : bit_at 48 (reverse_in vs i) j ≡ (h.half d j).reverse
        reverse =
            ap (λ (w : ℕ). bit_at 48 w j) (reverse_at (header_due s p) n (back_due s p) eight i less)
            ∙ rw (e, day_is) (mark_due (reached (now p) d) (λ j. (h.half d j).reverse) j (omega arith) l)

        level2 : bit_at 48 (level2_in vs i) j ≡ (h.half d j).level2
        level2 =
            ap (λ (w : ℕ). bit_at 48 w j) (level2_at (header_due s p) n (back_due s p) eight i less)
            ∙ rw (e, day_is) (mark_due (reached (now p) d) (λ j. (h.half d j).level2) j (omega arith) l)

  pub honest : (u : Paper) → Past s p u → Honest (history_of s u.tape) (view_in n vs)
  unfolding view_in
  honest u a = record {
    start = λ d c.
        let o = rw time_due at c in
        rw time_due (start_says d o.0 o.1 ∙ start_stays s p u a d (omega (arith, o.0)));
    half = λ d j c l.
        let o = rw time_due at c in
        let m : j < reached (now p) d = rw (time_due, ended_reached p.time d) at l in
        rw time_due (half_says d o.0 o.1 j m ∙ half_stays s p u a d j (omega arith));
    flags = λ d c l.
        let o = rw time_due at c in
        rw time_due (flags_says d o.0 o.1 ∙ flags_stay s p u a d (rw time_due at l));
  }
