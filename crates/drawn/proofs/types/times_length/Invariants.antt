use Rattle.drawn.specs.Week.{times_to}
use Rattle.tariff.specs.Table.{slots_of}
use lib.ListN.{length}
use mathlib.Core.Path.{◌≡◌}
use Prim.Native.Nat.{◌*◌, ◌≤◌}
use Rattle.drawn.proofs.types.times_length.Given as goal

abbrev pub invariant-loop-m : goal.invariant-loop-m
invariant-loop-m g = (g.n ≡ length (times_to (slots_of g.l) g.daytype g.m)) × (g.n ≤ 8 * g.m)
