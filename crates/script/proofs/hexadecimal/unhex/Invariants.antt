use Prim.Native.Nat.{◌/◌}
use lib.ListN.{length}
use Rattle.script.specs.Hex.{byte_in}
use Rattle.script.proofs.Digits.{Put}
use Rattle.script.proofs.hexadecimal.unhex.Given as goal

abbrev pub invariant-loop-i : goal.invariant-loop-i
invariant-loop-i l = Put l.initial.out l.out l.i (length l.word / 2) (byte_in l.word)
