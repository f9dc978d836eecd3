-- The class's complete days are stored whole, and sent by a read that asks for one day more.
-- Assumes nothing.
use Prim.Native.Nat.{ℕ, suc, ◌+◌, ◌/◌, ◌<◌, ◌≤◌}
use mathlib.Core.Path.{◌≡◌, sym, ap, ◌∙◌}
use mathlib.Core.Bool.{true}
use mathlib.Core.List.{List, []}
use native.Mathlib.Omega.{arith}
use lib.ListN.{length}
use borrow.Author.Tests.{le-ltb}
use Rattle.calendar.specs.Clock.{seconds_of_day, halves_of_day, ended_on}
use Rattle.calendar.proofs.Answers.{ended_before}
use Rattle.block.specs.Layout.{block_bytes}
use Rattle.block.specs.Parse.{fields, parse}
use Rattle.days.specs.Day.{History, cut}
use Rattle.days.specs.View.{View, Carries, Honest, offer}
use Rattle.days.proofs.Offer.{offer_cut, reach_is}
use Rattle.rooms.specs.View.{view_of}
use Rattle.filing.proofs.Offered.{view_parsed}
use Rattle.store.specs.Class.{complete_days, days_of}
use Rattle.store.specs.Store.{Store}
use Rattle.store.proofs.Complete.{has_room}
use Rattle.recorder.specs.declared.SetUp.{SetUp}
use Rattle.recorder.specs.declared.Event.{Event}
use Rattle.recorder.specs.SetUp.{set_up}
use Rattle.recorder.proofs.Answers.{days_few}
use Rattle.readout.specs.Read.{most_asked}
use Rattle.assurance.specs.Paper.{Paper, today, history_of}
use Rattle.assurance.specs.Written.{paper, written_all}
use Rattle.assurance.specs.Sent.{days_due, fields_due, read_due, sent_due}
use Rattle.assurance.specs.Run.{Call, events_of, block_of}
use Rattle.assurance.specs.Complete.{end, Complete, asked, read_all, AllComplete}
use Rattle.assurance.specs.Life.{DayStored}
use Rattle.assurance.proofs.Kept.{Given, Kept}
use Rattle.assurance.proofs.Start.{given}
use Rattle.assurance.proofs.Run.{kept}
use Rattle.assurance.proofs.Past.{past_all}
use Rattle.assurance.proofs.Life.{day_stored}
use Rattle.assurance.proofs.Sending.{days_are}
use Rattle.assurance.proofs.Reading.{block_reads, read_is}
use Rattle.assurance.proofs.Honest.{honest}
use Rattle.assurance.proofs.Blocks.{run_events, block_is}
use Rattle.assurance.proofs.Senders.{time_read, days_read}

module _ (s : SetUp) (x : Store) (cs : List Call) (accepted : (set_up s x).answer ≡ 0) where
  abbrev es : List Event
  es = events_of cs

  abbrev p : Paper
  p = paper s es

  abbrev h : History
  h = history_of s p.tape

  z : Given s
  unfolding set_up
  z = given s x accepted

  k : Kept s p (end s x cs)
  k = rw (run_events cs (set_up s x).after) (kept s x es accepted)

  -- the paper's day is the recorder's
  day_is : (end s x cs).recorder.clock.time / seconds_of_day ≡ today p
  day_is = ap (λ (t : ℕ). t / seconds_of_day) k.time

  module _ (d : ℕ) (c : Complete s x cs d) where
    room : today p < d + days_of s.class
    room = has_room s.class d (today p) z.some (omega (arith, day_is, c.2))

    over : ended_on (end s x cs).recorder.clock.time d ≡ halves_of_day
    over = sym (ended_before (end s x cs).recorder.clock.time d c.1)

    stored : DayStored s x es d
    stored = day_stored s x es accepted d record { first = c.0; last = omega (arith, day_is, c.1); near = omega (arith, room) }

  few : asked s x cs ≤ most_asked
  few = omega (arith, days_few s.class, has_room s.class 0 (complete_days s.class) z.some (omega arith))

  module _ (out : List ℕ) where
    answered : (end s x cs).recorder.clock.on ≡ true → block_bytes (asked s x cs) ≤ length out → (read_all s x cs out).answer.number ≡ 0
    unfolding sent_due read_due
    answered on long =
        let power : p.on ≡ true = sym k.on ∙ on in
        rw (read_is s z p (end s x cs) k (asked s x cs) out, power, le-ltb most_asked (asked s x cs) few, le-ltb (length out) (block_bytes (days_due s p (asked s x cs))) (omega arith))

    module _ (e : (read_all s x cs out).answer.number ≡ 0) where
      abbrev n : ℕ
      n = days_due s p (asked s x cs)

      abbrev vs : List ℕ
      vs = fields_due s p (asked s x cs)

      abbrev b : List ℕ
      b = block_of (read_all s x cs out)

      abbrev v : View
      v = view_of b

      reads : parse b ≡ fields n vs
      reads = ap parse (block_is s z p (end s x cs) k (asked s x cs) out e) ∙ block_reads s z p (end s x cs) k (asked s x cs)

      says : Honest h v
      unfolding written_all
      says = rw (view_parsed b n vs reads) (honest s z p (end s x cs) k (asked s x cs) p (past_all s p []))

      time_is : v.time ≡ (end s x cs).recorder.clock.time
      time_is = time_read (asked s x cs) (end s x cs) out e

      sent : (d : ℕ) → Complete s x cs d → offer v d ≡ cut h d (suc halves_of_day)
      sent d c =
          let has : v.days ≡ n = days_read (asked s x cs) (end s x cs) out e ∙ rw (days_are s z p (end s x cs) k) in
          let when : v.time / seconds_of_day ≡ today p = ap (λ (t : ℕ). t / seconds_of_day) time_is ∙ day_is in
          let carried : Carries v d = (omega (arith, when, day_is, c.1), omega (arith, when, has, day_is, c.0, c.2, room d c)) in
          offer_cut h v says d ∙ ap (cut h d) (reach_is v d carried ∙ ap suc (ap (λ (t : ℕ). ended_on t d) time_is ∙ over d c))

  pub all_complete : AllComplete s x cs
  all_complete = record { over = over; stored = stored; answered = answered; sent = sent }
