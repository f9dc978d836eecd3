use Rattle.station.proofs.Laws.{set_up_left}
use Rattle.station.proofs.set_up.Goals as goal

pub returns : goal.returns
returns c =
    rw (c.number.ensures, c.and.ensures, c.put_outstation.ensures)
    (set_up_left c.args.row.now _ _ _ _ _ _ _ _ c.recorder-r.result c.recorder-r.ensures _ c.phase.ensures _ _ c.set_up-done.ensures)
