use Prim.Native.Nat.{◌*◌}
use lib.ListN.{length}
use Rattle.script.specs.Hex.{letter_at}
use Rattle.script.proofs.Digits.{Put}
use Rattle.script.proofs.hexadecimal.hex.Given as goal

abbrev pub invariant-loop-q : goal.invariant-loop-q
invariant-loop-q l = Put l.initial.out l.out l.q (2 * length l.bytes) (letter_at l.bytes)
