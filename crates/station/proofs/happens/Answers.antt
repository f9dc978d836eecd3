use Rattle.station.proofs.Laws.{happens_left}
use Rattle.station.proofs.happens.Goals as goal

pub returns : goal.returns
returns c =
    rw (c.number.ensures, c.and.ensures, c.put_outstation.ensures)
    (happens_left c.args.row.now _ _ _ _ _ _ _ _ _ c.outstation-o.ensures _ c.happens-done.result c.happens-done.new.self c.happens-done.ensures)
