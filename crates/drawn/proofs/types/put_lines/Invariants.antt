use Rattle.drawn.specs.Week.{types_to}
use Rattle.tariff.specs.Table.{slots_of}
use Rattle.format.specs.Answers.{Wrote}
use lib.ListN.{length}
use mathlib.Core.Path.{◌≡◌}
use Prim.Native.Nat.{◌*◌, ◌≤◌}
use Rattle.drawn.proofs.types.put_lines.Given as goal

abbrev pub invariant-loop-i : goal.invariant-loop-i
invariant-loop-i g = (length g.out ≡ length g.initial.out) × Wrote g.initial.out g.at g.n (types_to (slots_of g.l) g.i) g.out × (g.n ≤ 11521 * g.i)
