-- What a step of the recorder leaves of the energy registers and of the active rate.
-- Assumes nothing.
use Prim.Native.Nat.{ℕ, zero, suc, ◌+◌, ◌-◌, ◌/◌}
use mathlib.Core.Path.{◌≡◌, refl, sym, ap}
use mathlib.Core.Bool.{false, false≢true}
use lib.Dec.{eqb}
use Rattle.laws.specs.Each.{each}
use Rattle.laws.proofs.Split.{by_test}
use Rattle.calendar.specs.Clock.{seconds_of_half}
use Rattle.registers.specs.declared.Energy.{Energy}
use Rattle.registers.specs.Energy.{energy_counted}
use Rattle.registers.specs.Shift.{shifted}
use Rattle.recorder.specs.declared.Event.{Event}
use Rattle.recorder.specs.declared.Event.TheVariants.{Count, Clock, Off, On, Access, Meter, Reset, Rate, Reverse, Ppp, Adjust}
use Rattle.recorder.specs.Recorder.{Mem, with, half_of}
use Rattle.recorder.specs.Boundary.{ended, close_one, close_at, advance_to}
use Rattle.recorder.specs.Effect.{accessed, flag_from, flag_today, after as effect}
use Rattle.recorder.specs.Answer.{answer_of as step_answer}
use Rattle.recorder.specs.Step.{step}
use Rattle.outstation.specs.Outstation.{is_rate}

time_goes : (n i : ℕ) (y : Mem) → (each close_at i n y).recorder.energy ≡ y.recorder.energy
unfolding each close_one ended
time_goes zero i y = refl
time_goes (suc n) i y = time_goes n (i + 1) (close_at i y)

pub time_energy : (t : ℕ) (y : Mem) → (advance_to t y).recorder.energy ≡ y.recorder.energy
unfolding advance_to
time_energy t y = time_goes (t / seconds_of_half - half_of y.recorder) (half_of y.recorder) y

abbrev rate_of : Mem → ℕ
rate_of y = y.recorder.energy.rate

-- refused all stays, accepted this
step_rate : (y : Mem) (e : Event) → rate_of (effect y e) ≡ rate_of y → rate_of (step y e).after ≡ rate_of y
unfolding step
step_rate y e same = by_test (eqb (step_answer y e) 0) (λ h. rw h same) (λ h. rw h)

time_rate : (t : ℕ) (y : Mem) → rate_of (advance_to t y) ≡ rate_of y
time_rate t y = ap (λ (e : Energy). e.rate) (time_energy t y)

-- only a Rate changes the active rate
pub rate_same : (y : Mem) (e : Event) → is_rate e ≡ false → rate_of (step y e).after ≡ rate_of y
unfolding effect energy_counted flag_from flag_today
rate_same y (Count c) h = step_rate y (Count c) refl
rate_same y (Clock t) h = step_rate y (Clock t) (time_rate t y)
rate_same y Off h = step_rate y Off refl
rate_same y (On t) h = step_rate y (On t) (time_rate t y)
rate_same y Access h = step_rate y Access refl
rate_same y (Meter c) h = step_rate y (Meter c) refl
rate_same y Reset h = step_rate y Reset refl
rate_same y (Rate n) h = absurd (false≢true (sym h))
rate_same y Reverse h = step_rate y Reverse refl
rate_same y (Ppp a b c) h = step_rate y (Ppp a b c) refl
rate_same y (Adjust g) h = step_rate y (Adjust g) (time_rate (shifted y.recorder.clock.time g) (with y (accessed y.recorder)))
