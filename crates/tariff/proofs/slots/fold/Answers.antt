use native.Mathlib.Omega.{arith}
use mathlib.Core.Path.{◌≡◌}
use Rattle.tariff.specs.Table.{slot_count}
use Rattle.tariff.proofs.slots.fold.Goals as goal

pub returns : goal.returns
returns g c kept first keeps = let end : c.loop-i.i ≡ slot_count = omega arith in rw end at (c.loop-i.invariant kept first keeps)
