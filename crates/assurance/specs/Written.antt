-- What each event writes on the paper (docs/RULES.md, "Events", the table, in its order), when it is accepted, and the paper of a whole list of events.
-- A half-hour to come is written as if nothing more happened: so Clock writes nothing, and a Count adds to every later half-hour's beginning.
use Rattle.std.specs.Prelude.{ℕ, suc, ◌+◌, ◌-◌, ◌/◌, Bool, true, false, cond, ◌||◌, ◌&&◌, List, [], ◌∷◌, leb, ltb, eqb}
use Rattle.quantity.specs.Units.{units_from}
use Rattle.calendar.specs.Clock.{seconds_of_half, seconds_of_day}
use Rattle.format.specs.Identifier.{with_ppp}
use Rattle.registers.specs.Energy.{added_of}
use Rattle.registers.specs.Shift.{shifted}
use Rattle.recorder.specs.declared.SetUp.{SetUp}
use Rattle.recorder.specs.declared.Event.{Event}
use Rattle.recorder.specs.declared.Event.TheVariants.{Count, Clock, Off, On, Access, Meter, Reset, Rate, Reverse, Ppp, Adjust}
use Rattle.recorder.specs.Answer.{event_answer}
use Rattle.assurance.specs.Paper.{Tape, Paper, now, today, total_at, peak_of}

-- w more at each place after one; w more at one place; a mark at one place; marks from one place to another
unfoldable pub add_after : ℕ → ℕ → (ℕ → ℕ) → ℕ → ℕ
add_after at w f q = f q + cond (ltb at q) w 0

unfoldable pub add_at : ℕ → ℕ → (ℕ → ℕ) → ℕ → ℕ
add_at at w f i = f i + cond (eqb i at) w 0

unfoldable pub mark_at : ℕ → (ℕ → Bool) → ℕ → Bool
mark_at at f q = f q || eqb q at

unfoldable pub mark_from : ℕ → ℕ → (ℕ → Bool) → ℕ → Bool
mark_from a z f d = f d || (leb a d && leb d z)

-- energy w in half-hour q at rate i + 1
abbrev pub counted : ℕ → ℕ → ℕ → Tape → Tape
counted q i w p =
    record { counts = record { before = add_after q w p.counts.before; rate = add_at i w p.counts.rate }; marks = p.marks; flags = p.flags; demands = p.demands }

-- half-hour q marked
abbrev pub accessed : ℕ → Tape → Tape
accessed q p =
    record { counts = p.counts; marks = record { reverse = p.marks.reverse; level2 = mark_at q p.marks.level2 }; flags = p.flags; demands = p.demands }

abbrev pub reversed : ℕ → Tape → Tape
reversed q p =
    record { counts = p.counts; marks = record { reverse = mark_at q p.marks.reverse; level2 = p.marks.level2 }; flags = p.flags; demands = p.demands }

-- an outage from day a to day z; Meter on day d; Reset on day d, in half-hour q, at the largest demand that stood
abbrev pub outaged : ℕ → ℕ → Tape → Tape
outaged a z p =
    record {
      counts = p.counts;
      marks = p.marks;
      flags = record { outage = mark_from a z p.flags.outage; meter = p.flags.meter; reset = p.flags.reset };
      demands = p.demands;
    }

abbrev pub metered : ℕ → Tape → Tape
metered d p =
    record {
      counts = p.counts;
      marks = p.marks;
      flags = record { outage = p.flags.outage; meter = mark_at d p.flags.meter; reset = p.flags.reset };
      demands = p.demands;
    }

abbrev pub reset_on : ℕ → ℕ → ℕ → Tape → Tape
reset_on q d peak p =
    record {
      counts = p.counts;
      marks = p.marks;
      flags = record { outage = p.flags.outage; meter = p.flags.meter; reset = mark_at d p.flags.reset };
      demands = record { since = q; previous = peak; cumulative = p.demands.cumulative + peak; resets = p.demands.resets + 1; date = d + 1 };
    }

-- the paper with another present, and with another tape
abbrev pub present : ℕ → Bool → ℕ → ℕ → List ℕ → Tape → Paper
present time on last rate id tape = record { time = time; on = on; last = last; rate = rate; identifier = id; tape = tape }

abbrev pub adds : Paper → Tape → Paper
adds p tape = present p.time p.on p.last p.rate p.identifier tape

-- the energy of Count(c), and the units that the running half-hour would have after it
abbrev pub energy_of : SetUp → Paper → ℕ → ℕ
energy_of s p c = (added_of s.weight p.last c).0

unfoldable pub units_with : SetUp → Paper → ℕ → ℕ
units_with s p c = units_from (total_at s p.tape.counts (now p)) (total_at s p.tape.counts (suc (now p)) + energy_of s p c)

-- what an accepted event writes
abbrev pub writes : SetUp → Paper → Event → Paper
writes s p (Count c) = present p.time p.on c p.rate p.identifier (counted (now p) (p.rate - 1) (energy_of s p c) p.tape)
writes s p (Clock t) = present t true p.last p.rate p.identifier p.tape
writes s p Off = present p.time false p.last p.rate p.identifier p.tape
writes s p (On t) = present t true p.last p.rate p.identifier (outaged (today p) (t / seconds_of_day) p.tape)
writes s p Access = adds p (accessed (now p) p.tape)
writes s p (Meter c) = present p.time p.on c p.rate p.identifier (metered (today p) (accessed (now p) p.tape))
writes s p Reset =
    let peak = peak_of s p.tape.counts p.tape.demands.since (now p) in
    adds p (reset_on (now p) (today p) peak (accessed (now p) p.tape))
writes s p (Rate n) = present p.time p.on p.last n p.identifier p.tape
writes s p Reverse = adds p (reversed (now p) p.tape)
writes s p (Ppp a b c) = present p.time p.on p.last p.rate (with_ppp (a ∷ b ∷ c ∷ []) p.identifier) (accessed (now p) p.tape)
writes s p (Adjust h) = present (shifted p.time h) true p.last p.rate p.identifier (accessed (now p) p.tape)

-- the answer that is due: power, rate, PPP or seconds, time and units, all by the paper; and the paper after an event
unfoldable pub due : SetUp → Paper → Event → ℕ
due s p e = event_answer p.on p.time (units_with s p) e

unfoldable pub written : SetUp → Paper → Event → Paper
written s p e = cond (eqb (due s p e) 0) (writes s p e) p

-- the paper at set-up, and after a list of events
unfoldable pub blank_tape : SetUp → Tape
blank_tape s =
    record {
      counts = record { before = λ q. 0; rate = λ i. 0 };
      marks = record { reverse = λ q. false; level2 = λ q. false };
      flags = record { outage = λ d. false; meter = λ d. false; reset = λ d. false };
      demands = record { since = s.time / seconds_of_half; previous = 0; cumulative = 0; resets = 0; date = 0 };
    }

abbrev pub blank_paper : SetUp → Paper
blank_paper s = present s.time true s.counter 1 s.identifier (blank_tape s)

unfoldable pub written_all : SetUp → Paper → List Event → Paper
written_all s p [] = p
written_all s p (e ∷ es) = written_all s (written s p e) es

abbrev pub paper : SetUp → List Event → Paper
paper s es = written_all s (blank_paper s) es
