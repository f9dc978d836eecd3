use native.Mathlib.Omega.{arith}
use Rattle.timed.proofs.Laws.{going_none, going_on, going_done}
use Rattle.timed.proofs.often.Goals as goal

pub loop-i-init : goal.loop-i-init
loop-i-init c = (omega arith, omega arith, omega arith, omega arith, omega arith, search going_none)

pub loop-i-preserved : goal.loop-i-preserved
loop-i-preserved c = (omega arith, omega arith, omega arith, omega arith, omega arith, going_on _ _ _ _ _ _ _ _ _ _ _ _ _ c.loop-i.invariant.5 c.loop-i-test.true c.nth.ensures c.happens-answer.ensures)

pub returns : goal.returns
returns c = search going_done
