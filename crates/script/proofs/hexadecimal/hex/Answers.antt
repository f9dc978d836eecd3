use native.Mathlib.Omega.{arith}
use Rattle.script.proofs.Digits.{put_none, put_on, no_letters, letters_put}
use Rattle.script.proofs.hexadecimal.hex.Goals as goal

pub returns-then-out-bytes : goal.returns-then-out-bytes
returns-then-out-bytes c = (search no_letters, omega arith)

pub loop-q-init : goal.loop-q-init
loop-q-init c = search put_none

pub loop-q-preserved : goal.loop-q-preserved
loop-q-preserved c = search put_on

pub returns : goal.returns
returns c = (search letters_put, omega arith)
