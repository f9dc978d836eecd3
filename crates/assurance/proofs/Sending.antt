-- What a read sends is the paper's: the days as they lie in the ring, with the half-hours ended, and the header.
-- Assumes nothing.
use Prim.Native.Nat.{ℕ, zero, suc, ◌+◌, ◌-◌, ◌*◌, ◌/◌, ◌%◌, ◌<◌, ◌≤◌}
use mathlib.Core.Path.{◌≡◌, refl, ap, ◌∙◌}
use mathlib.Core.Bool.{Bool, false, cond}
use native.Mathlib.Decide.{dec_lt, ℕ_discrete}
use native.Mathlib.Omega.{arith}
use lib.Dec.{ltb}
use lib.ListN.{get_or}
use borrow.Author.Tests.{lt-ltb, le-ltb, eq-eqb, ne_eqb}
use Rattle.laws.specs.Bits.{pack_bits}
use Rattle.laws.proofs.Bits.{packed_same}
use Rattle.laws.proofs.Split.{by_dec}
use Rattle.laws.proofs.Table.{table_same}
use Rattle.quantity.specs.Units.{value_round}
use Rattle.calendar.specs.Calendar.{date_of}
use Rattle.calendar.specs.Clock.{ended_at, ended_on}
use Rattle.calendar.specs.Digits.{date_digits}
use Rattle.calendar.proofs.Times.{ended_formula}
use Rattle.marks.proofs.Laws.{sent_packed}
use Rattle.profile.specs.Profile.{before_at, values_from}
use Rattle.block.specs.declared.Header.{Header}
use Rattle.judgement.specs.declared.Source.{Source}
use Rattle.judgement.specs.Source.{room_of, taken_of, ring}
use Rattle.judgement.specs.Days.{DayRecord, value_sent, word_sent, day_at, days_from}
use Rattle.judgement.specs.Given.{day_given, days_given, given}
use Rattle.judgement.proofs.Rooms.{ring_room}
use Rattle.days.specs.Day.{History}
use Rattle.store.specs.Store.{Store}
use Rattle.recorder.specs.declared.SetUp.{SetUp}
use Rattle.recorder.specs.Recorder.{Mem}
use Rattle.assurance.specs.Paper.{Paper, now, today, flags_of, history_of}
use Rattle.assurance.specs.Sent.{stored_days, first_marks, day_due, back_due}
use Rattle.assurance.proofs.Kept.{Given, Stored, ValuesKept, MarksKept, Kept, cap_of, reached, of_day}

-- what has ended by the time is what is reached by the half-hour
pub ended_reached : (t d : ℕ) → ended_on t d ≡ reached (t / 1800) d
ended_reached t d = omega (arith, ended_formula t d)

-- ---- a day record by its fields: values of 48 half-hours only

pub record Alike (x y : DayRecord) : Type 0 where
  pub start : x.start ≡ y.start
  pub flags : x.flags ≡ y.flags
  pub value : (j : ℕ) → j < 48 → x.value j ≡ y.value j
  pub reverse : x.reverse ≡ y.reverse
  pub level2 : x.level2 ≡ y.level2

day_same : (date : ℕ) (x y : DayRecord) → Alike x y → day_given date x ≡ day_given date y
unfolding day_given
day_same date x y a = rw (a.start, a.flags, table_same 48 x.value y.value a.value, a.reverse, a.level2)

days_same : (today : ℕ) (d e : ℕ → DayRecord) (n : ℕ) → ((i : ℕ) → i < n → Alike (d i) (e i)) → days_given today d n ≡ days_given today e n
unfolding days_given
days_same today d e zero a = refl
days_same today d e (suc n) a =
    rw (days_same today d e n (λ i l. a i (omega arith)), day_same (date_digits (date_of (today - n))) (d n) (e n) (a n (omega arith)))

pub given_same : (h : Header) (n : ℕ) (d e : ℕ → DayRecord) → ((i : ℕ) → i < n → Alike (d i) (e i)) → given h n d ≡ given h n e
unfolding given
given_same h n d e a = rw (days_same (h.time / 86400) d e n a)

-- ---- a day in its room

words_due : (k : ℕ) (g : ℕ → Bool) → k ≤ 48 → word_sent k (pack_bits k g) ≡ first_marks k g
unfolding word_sent
words_due k g l =
    by_dec (dec_lt k 48)
    (λ h. rw (lt-ltb k 48 h) (sent_packed k g l))
    (λ h.
    let e : k ≡ 48 = omega arith in
    rw (le-ltb k 48 (omega arith), e) (packed_same 48 g (λ j. cond (ltb j 48) (g j) false) (λ j m. rw (lt-ltb j 48 m))))

module _ (s : SetUp) (p : Paper) (d k r : ℕ) (x : Store) (few : k ≤ 48) (v : ValuesKept s p.tape.counts d k r x.values x.starts)
    (m : MarksKept p.tape.marks d k r x.marks) (f : get_or x.marks (r * 3 + 2) 0 ≡ flags_of p.tape.flags d) where
  abbrev h : History
  h = history_of s p.tape

  value_due : (j : ℕ) → j < k → values_from x.values (r * 48) j ≡ (h.half d j).value
  unfolding values_from history_of
  value_due j l = v.value j l

  start_due : get_or x.starts r 0 ≡ h.start d
  unfolding history_of
  start_due = v.start

  fill_due : (n : ℕ) → n ≤ k → before_at (get_or x.starts r 0) (values_from x.values (r * 48)) n ≡ before_at (h.start d) (λ i. (h.half d i).value) n
  unfolding before_at
  fill_due zero l = ap (λ (a : ℕ). a % value_round) start_due
  fill_due (suc n) l = value_due n l

  sent_due_lem : (j : ℕ) → value_sent x.values (r * 48) (get_or x.starts r 0) k j ≡ (day_due h k d).value j
  unfolding value_sent day_due
  sent_due_lem j =
      by_dec (dec_lt j k)
      (λ l. rw (lt-ltb j k l) (value_due j l))
      (λ l. rw (le-ltb j k (omega arith)) (fill_due k (omega arith)))

  pub room_due : Alike (day_at x.values x.starts x.marks r k) (day_due h k d)
  unfolding day_at day_due history_of of_day
  room_due = record {
    start = start_due;
    flags = f;
    value = λ j l. sent_due_lem j;
    reverse = ap (word_sent k) m.reverse ∙ words_due k _ few;
    level2 = ap (word_sent k) m.level2 ∙ words_due k _ few;
  }

-- ---- the days of a run's recorder

-- where they lie
abbrev pub ring_of : SetUp → Paper → Source
ring_of s p = ring (cap_of s) (today p) (ended_at p.time)

module _ (s : SetUp) (z : Given s) (p : Paper) (x : Mem) (k : Kept s p x) where
  pub days_are : x.recorder.clock.days ≡ stored_days s p
  days_are = let e : now p / 48 ≡ today p = omega arith in rw e at k.at.clock.days

  pub stored : (i : ℕ) → i < stored_days s p → Stored s (now p) (today p - i)
  stored i l = record { first = omega arith; last = omega arith; near = omega (arith, k.at.clock.begun) }

  pub room_is : (i : ℕ) → i < stored_days s p → room_of (ring_of s p) i ≡ (today p - i) % cap_of s
  room_is i l = ring_room (cap_of s) (today p) (ended_at p.time) i z.some (omega arith)

  pub taken_is : (i : ℕ) → i < stored_days s p → taken_of (ring_of s p) i ≡ reached (now p) (today p - i)
  unfolding taken_of
  taken_is i l =
      by_dec (ℕ_discrete i 0)
      (λ e. rw (eq-eqb i 0 e, e) (omega arith))
      (λ e. rw (ne_eqb i 0 e) (omega arith))

  pub day_due_lem : (i : ℕ) → i < stored_days s p → Alike (days_from (ring_of s p) x.store.values x.store.starts x.store.marks i) (back_due s p i)
  day_due_lem i l =
      let d = today p - i in
      let g = k.at.store in
      let j = stored i l in
      rw (room_is i l, taken_is i l, ended_reached p.time d)
      (room_due s p d (reached (now p) d) (d % cap_of s) x.store (omega arith) (g.values d j) (g.marks d j) (g.flags d j))
