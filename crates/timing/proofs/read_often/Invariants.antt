use Prim.Native.Nat.{◌*◌, ◌≤◌, ◌<◌}
use mathlib.Core.Path.{◌≡◌}
use lib.ListN.{length}
use Rattle.recorder.specs.Recorder.{mem}
use Rattle.timing.specs.Timed.{reads, reading}
use Rattle.timing.proofs.Laws.{Going}
use Rattle.timing.proofs.read_often.Given as goal

abbrev pub invariant-loop-i : goal.invariant-loop-i
invariant-loop-i l = (length l.out ≡ length l.initial.out) × (l.bytes ≤ 4294967295 * l._i) × (l.n < 4294967296) × Going (reading (mem l.r l.values l.starts l.marks)) l.n (reads l.initial.out 0) l._i (reads l.out l.bytes)
