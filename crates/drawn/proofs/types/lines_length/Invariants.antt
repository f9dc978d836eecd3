use Rattle.drawn.specs.Week.{types_to}
use Rattle.tariff.specs.Table.{slots_of}
use lib.ListN.{length}
use mathlib.Core.Path.{◌≡◌}
use Prim.Native.Nat.{◌*◌, ◌≤◌}
use Rattle.drawn.proofs.types.lines_length.Given as goal

abbrev pub invariant-loop-i : goal.invariant-loop-i
invariant-loop-i g = (g.n ≡ length (types_to (slots_of g.l) g.i)) × (g.n ≤ 11521 * g.i)
