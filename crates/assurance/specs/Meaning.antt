-- What is said of a run from its events alone: time, power, counter, active rate and identifier; the energy counted, and at each rate, in thousandths of a watt-hour; the half-hours of the Resets and what each
-- found; and whether some event of a kind was accepted.
use Rattle.std.specs.Prelude.{ℕ, suc, ◌+◌, ◌-◌, ◌*◌, ◌/◌, ◌≤◌, ◌≡◌, ◌⊎◌, Bool, true, false, cond, ◌&&◌, List, [], ◌∷◌, eqb, ltb}
use Rattle.calendar.specs.Clock.{seconds_of_day, halves_of_day}
use Rattle.format.specs.Identifier.{with_ppp}
use Rattle.registers.specs.declared.Shift.{Shift}
use Rattle.registers.specs.Shift.{shifted}
use Rattle.recorder.specs.declared.SetUp.{SetUp}
use Rattle.recorder.specs.declared.Event.{Event}
use Rattle.recorder.specs.declared.Event.TheVariants.{Count, Clock, Off, On, Access, Meter, Reset, Rate, Reverse, Ppp, Adjust}
use Rattle.assurance.specs.Paper.{Paper, now, today, largest}
use Rattle.assurance.specs.Written.{energy_of, due, written}

-- what each event sets: the time by Clock, On and Adjust, power by Off and On, the counter's last value by Count and Meter, the active rate by Rate, the identifier's PPP by Ppp
abbrev pub time_set : ℕ → Event → ℕ
time_set t (Count c) = t
time_set t (Clock u) = u
time_set t Off = t
time_set t (On u) = u
time_set t Access = t
time_set t (Meter c) = t
time_set t Reset = t
time_set t (Rate n) = t
time_set t Reverse = t
time_set t (Ppp a b c) = t
time_set t (Adjust h) = shifted t h

abbrev pub power_set : Bool → Event → Bool
power_set b (Count c) = b
power_set b (Clock t) = b
power_set b Off = false
power_set b (On t) = true
power_set b Access = b
power_set b (Meter c) = b
power_set b Reset = b
power_set b (Rate n) = b
power_set b Reverse = b
power_set b (Ppp x y z) = b
power_set b (Adjust h) = b

abbrev pub counter_set : ℕ → Event → ℕ
counter_set l (Count c) = c
counter_set l (Clock t) = l
counter_set l Off = l
counter_set l (On t) = l
counter_set l Access = l
counter_set l (Meter c) = c
counter_set l Reset = l
counter_set l (Rate n) = l
counter_set l Reverse = l
counter_set l (Ppp a b c) = l
counter_set l (Adjust h) = l

abbrev pub rate_set : ℕ → Event → ℕ
rate_set r (Count c) = r
rate_set r (Clock t) = r
rate_set r Off = r
rate_set r (On t) = r
rate_set r Access = r
rate_set r (Meter c) = r
rate_set r Reset = r
rate_set r (Rate n) = n
rate_set r Reverse = r
rate_set r (Ppp a b c) = r
rate_set r (Adjust h) = r

abbrev pub identifier_set : List ℕ → Event → List ℕ
identifier_set id (Count c) = id
identifier_set id (Clock t) = id
identifier_set id Off = id
identifier_set id (On t) = id
identifier_set id Access = id
identifier_set id (Meter c) = id
identifier_set id Reset = id
identifier_set id (Rate n) = id
identifier_set id Reverse = id
identifier_set id (Ppp a b c) = with_ppp (a ∷ b ∷ c ∷ []) id
identifier_set id (Adjust h) = id

module _ (s : SetUp) where
  -- the energy of an event: that of an accepted Count
  abbrev pub energy_in : Paper → Event → ℕ
  energy_in p (Count c) = cond (eqb (due s p (Count c)) 0) (energy_of s p c) 0
  energy_in p (Clock t) = 0
  energy_in p Off = 0
  energy_in p (On t) = 0
  energy_in p Access = 0
  energy_in p (Meter c) = 0
  energy_in p Reset = 0
  energy_in p (Rate n) = 0
  energy_in p Reverse = 0
  energy_in p (Ppp a b c) = 0
  energy_in p (Adjust h) = 0

  -- that of a list of events, and of the events before half-hour q began
  unfoldable pub counted_in : Paper → List Event → ℕ
  counted_in p [] = 0
  counted_in p (e ∷ es) = energy_in p e + counted_in (written s p e) es

  unfoldable pub counted_before : ℕ → Paper → List Event → ℕ
  counted_before q p [] = 0
  counted_before q p (e ∷ es) = cond (ltb (now p) q) (energy_in p e) 0 + counted_before q (written s p e) es

  -- what accepted events set, one after another: an accepted one sets f, of what was set before and itself
  abbrev pub set_by : {A : Type 0} → (A → Event → A) → A → Paper → Event → A
  set_by f a p e = cond (eqb (due s p e) 0) (f a e) a

  unfoldable pub last_set : {A : Type 0} → (A → Event → A) → A → Paper → List Event → A
  last_set f a p [] = a
  last_set f a p (e ∷ es) = last_set f (set_by f a p e) (written s p e) es

  -- the energy of the Counts accepted while rate n was active, rate r being active at first
  unfoldable pub counted_at : ℕ → ℕ → Paper → List Event → ℕ
  counted_at n r p [] = 0
  counted_at n r p (e ∷ es) = cond (eqb r n) (energy_in p e) 0 + counted_at n (set_by rate_set r p e) (written s p e) es

  abbrev pub is_reset : Event → Bool
  is_reset (Count c) = false
  is_reset (Clock t) = false
  is_reset Off = false
  is_reset (On t) = false
  is_reset Access = false
  is_reset (Meter c) = false
  is_reset Reset = true
  is_reset (Rate n) = false
  is_reset Reverse = false
  is_reset (Ppp a b c) = false
  is_reset (Adjust h) = false

  -- the half-hours of the accepted Resets, in their order
  unfoldable pub reset_halves : Paper → List Event → List ℕ
  reset_halves p [] = []
  reset_halves p (e ∷ es) = cond (is_reset e && eqb (due s p e) 0) (now p ∷ reset_halves (written s p e) es) (reset_halves (written s p e) es)

  -- some event of the list is such, at the paper that stood before it, and accepted
  abbrev pub Some : (Paper → Event → Type 0) → Paper → List Event → Type 0
  Some H p [] = ⊥
  Some H p (e ∷ es) = ((due s p e ≡ 0) × H p e) ⊎ Some H (written s p e) es

-- On, after an outage that touched day d: today is still the day of Off, since while off nothing but On is accepted
abbrev pub Outage : ℕ → Paper → Event → Type 0
Outage d p e = (t : ℕ) × (e ≡ On t) × (today p ≤ d) × (d ≤ t / seconds_of_day)

-- Meter, and Reset, on day d
abbrev pub MeterOn : ℕ → Paper → Event → Type 0
MeterOn d p e = (c : ℕ) × (e ≡ Meter c) × (d ≡ today p)

abbrev pub ResetOn : ℕ → Paper → Event → Type 0
ResetOn d p e = (e ≡ Reset) × (d ≡ today p)

-- Reverse in half-hour q; Access, Meter, Reset or Ppp in it, or an Adjust that finds it running
abbrev pub ReverseIn : ℕ → Paper → Event → Type 0
ReverseIn q p e = (e ≡ Reverse) × (q ≡ now p)

abbrev pub Level2In : ℕ → Paper → Event → Type 0
Level2In q p e = ((e ≡ Access) ⊎ ((e ≡ Reset) ⊎ (((c : ℕ) × (e ≡ Meter c)) ⊎ (((a : ℕ) × (b : ℕ) × (c : ℕ) × (e ≡ Ppp a b c)) ⊎ ((h : Shift) × (e ≡ Adjust h)))))) × (q ≡ now p)

-- what each Reset found, of Resets in these half-hours: twice the largest units of a half-hour from set-up, or the Reset before, up to its own
unfoldable pub found : (ℕ → ℕ) → ℕ → List ℕ → List ℕ
found u from [] = []
found u from (q ∷ qs) = 2 * largest u from (q - from) ∷ found u q qs

-- the last of a list, or the number given where it is empty; and its sum
unfoldable pub last_or : ℕ → List ℕ → ℕ
last_or n [] = n
last_or n (m ∷ ms) = last_or m ms

unfoldable pub sum_of : List ℕ → ℕ
sum_of [] = 0
sum_of (m ∷ ms) = m + sum_of ms

-- a day as the reset date has it: 0 never, d + 1 on day d
unfoldable pub days_named : List ℕ → List ℕ
days_named [] = []
days_named (q ∷ qs) = suc (q / halves_of_day) ∷ days_named qs
