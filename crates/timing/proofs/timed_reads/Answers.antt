use Rattle.timing.proofs.Laws.{store_is, reads_are}
use Rattle.timing.proofs.timed_reads.Goals as goal

pub returns : goal.returns
returns c = (store_is _ _ _ _ c.played-r.ensures, reads_are _ _ _ _ _ _ _ c.played-r.ensures c.read_often.ensures)
