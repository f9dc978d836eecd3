use Rattle.printed.proofs.Written.{then_more, then_both}
use Rattle.printed.proofs.then_all.Goals as goal

pub loop-x-preserved : goal.loop-x-preserved
loop-x-preserved g c =
    rw (then_more g.T.Display.output c.args.row.now c.loop-x.x-index c.x-item.result c.loop-x-test.true)
    (then_both g.T.Display.output _ _ _ _ _ c.loop-x.invariant (rw c.x-item.is at (c.in_ok-write.ensures.bytes)))
