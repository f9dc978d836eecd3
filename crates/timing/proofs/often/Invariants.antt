use Prim.Native.Nat.{◌<◌}
use mathlib.Core.Path.{◌≡◌}
use lib.ListN.{length}
use Rattle.recorder.specs.Recorder.{mem}
use Rattle.timing.specs.Timed.{coming}
use Rattle.timing.proofs.Laws.{Going}
use Rattle.timing.proofs.often.Given as goal

abbrev pub invariant-loop-i : goal.invariant-loop-i
invariant-loop-i l = (length l.values ≡ length l.initial.values) × (length l.starts ≡ length l.initial.starts) × (length l.marks ≡ length l.initial.marks) × (l.n < 4294967296) × Going (coming l.kind) l.n (mem l.initial.r l.initial.values l.initial.starts l.initial.marks) l.i (mem l.r l.values l.starts l.marks)
