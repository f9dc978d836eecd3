use Rattle.desk.proofs.Laws.{put_front}
use Rattle.desk.proofs.row.give.Goals as goal

pub returns : goal.returns
returns g c = (c.if-out-n.false, rw c.copy_from_slice.ensures.after (put_front _ _ c.if-out-n.false))
