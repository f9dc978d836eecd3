use Prim.Native.Nat.{◌<◌}
use mathlib.Core.Path.{◌≡◌}
use lib.ListN.{length}
use Rattle.outstation.specs.Outstation.{site}
use Rattle.timed.proofs.Laws.{Going}
use Rattle.timed.proofs.often.Given as goal

abbrev pub invariant-loop-i : goal.invariant-loop-i
invariant-loop-i l = (length l.values ≡ length l.initial.values) × (length l.starts ≡ length l.initial.starts) × (length l.marks ≡ length l.initial.marks) × (length l.table ≡ length l.initial.table) × (l.n < 4294967296) × Going l.course l.offered l.n (site l.initial.o l.initial.values l.initial.starts l.initial.marks l.initial.table) l.i (site l.o l.values l.starts l.marks l.table)
