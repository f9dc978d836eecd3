use Rattle.outstation.proofs.Laws.{copied}
use Rattle.outstation.proofs.copy.Goals as goal

pub returns : goal.returns
returns c = copied _ _ _ c.requires c.put_bytes.ensures.is
