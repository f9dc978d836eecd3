use Rattle.station.proofs.Laws.{tells_put, none_put}
use Rattle.station.proofs.put_tells.Goals as goal

pub returns-then-at-row : goal.returns-then-at-row
returns-then-at-row c = search tells_put

pub returns-else-at-row : goal.returns-else-at-row
returns-else-at-row c = search none_put
