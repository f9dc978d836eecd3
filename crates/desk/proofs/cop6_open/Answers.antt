use mathlib.Core.Path.{ap, ◌∙◌}
use Rattle.ledger.specs.Open.{Opening}
use Rattle.desk.proofs.Laws.{opened}
use Rattle.desk.proofs.cop6_open.Goals as goal

pub returns : goal.returns
returns c = (ap (λ (x : Opening). x.ledger) c.open.ensures, c.number.ensures ∙ rw c.and.ensures (opened _ _ _ _ _ c.open.result c.open.ensures))
