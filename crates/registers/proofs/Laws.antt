-- Pulses as a wrapping difference, what a count can come to and what it does, a move back; each law concludes what a proof of the code looks for.
-- Assumes nothing.
use Rattle.std.proofs.Common.{◌≡◌, ℕ, ◌+◌, ◌-◌, ◌*◌, ◌%◌, ◌^◌, ◌<◌, ◌≤◌, false, get_or, set, ap, mul-le-mul, arith, w64, Fits, ltb-false}
use Rattle.quantity.specs.declared.RegisterUnits.{RegisterUnits}
use Rattle.quantity.specs.declared.MilliwattHours.{MilliwattHours}
use Rattle.quantity.specs.Units.{milliwatt_hours, units, reading_of, reading_gap, energy_sum}
use Rattle.calendar.specs.Clock.{seconds_of_half}
use Rattle.registers.specs.declared.Energy.{Energy}
use Rattle.registers.specs.declared.Shift.{Shift}
use Rattle.registers.specs.declared.Shift.TheVariants.{Back}
use Rattle.registers.specs.Energy.{Countable, no_energy, most_weight, most_pulses, most_added, pulses_of, added_of, units_with, energy_counted}
use Rattle.registers.specs.Shift.{early}

-- a difference that runs round at 2^32 is the difference modulo 2^32
pub wrapped : (c last p : ℕ) → c < 2 ^ 32 → last < 2 ^ 32 → p < 2 ^ 32 → (p + last) % 2 ^ 32 ≡ c → p ≡ pulses_of last c
wrapped c last p hc hl hp e = omega arith

pub added_few : (w : MilliwattHours) (e : Energy) (p : ℕ) → Countable w e → p < 2 ^ 32 → p * w.0 ≤ most_added
added_few w e p g h = mul-le-mul {n₂ = most_pulses} {m₂ = most_weight} (omega arith) g.weight

pub added_fits : (w : MilliwattHours) (e : Energy) (p : ℕ) → Countable w e → p < 2 ^ 32 → Fits w64 (p * w.0)
added_fits w e p g h = let q = added_few w e p g h in omega arith

-- a Count: the total and the active rate's register with what is added
pub counted_is : (w : MilliwattHours) (c : ℕ) (e : Energy) (more total register : MilliwattHours) → more ≡ added_of w e.last c → total ≡ energy_sum e.total more
    → register ≡ energy_sum (get_or e.rates (e.rate - 1) no_energy) more
    → record { total = total; last = c; rate = e.rate; rates = set e.rates (e.rate - 1) register } ≡ energy_counted w c e
unfolding energy_counted
counted_is w c e more total register p q r = rw (q, r, p)

-- the units after a count, as the code reckons them: the sum fits, they are no fewer than now, and they are what is defined
module _ (w : MilliwattHours) (e : Energy) (g : Countable w e) (more : MilliwattHours) (few : more.0 ≤ most_added) where
  pub sum_fits : Fits w64 (e.total.0 + more.0)
  sum_fits = omega (arith, g.total)

  module _ (now then : RegisterUnits) (a : now ≡ reading_of e.total) (b : then ≡ reading_of (milliwatt_hours (e.total.0 + more.0))) where
    pub then_more : now.0 ≤ then.0
    then_more = omega (arith, ap number a, ap number b)
      where
        number : RegisterUnits → ℕ
        number u = u.0

    module _ (base gap : RegisterUnits) (d : gap ≡ reading_gap now base) where
      pub units_fit : Fits w64 (gap.0 + (then.0 - now.0))
      units_fit = rw (d, b, a) (omega (arith, g.total))

      pub units_done : (c : ℕ) → more ≡ added_of w e.last c → units (gap.0 + (then.0 - now.0)) ≡ units (units_with w base c e)
      unfolding units_with
      units_done c f = rw (d, b, a, f)

-- a move back that stays in its half-hour
pub back_room : (now n : ℕ) (h : Shift) → early now h ≡ false → h ≡ Back n → n ≤ now
back_room now n h e p = let l : n ≤ now % seconds_of_half = ltb-false _ _ (rw p at e) in omega arith
