use Rattle.std.proofs.Common.{rules, ◌≡◌}
use Rattle.answers.specs.Answer.{answered}
use Rattle.desk.specs.Numbers.{number_of}
use Rattle.station.proofs.Laws.{read_sent}
use Rattle.station.proofs.read.Goals as goal

pub returns : goal.returns
returns c =
    let one : c.number.result ≡ number_of (answered c.read-read.result) = search rules in
    read_sent _ _ _ _ _ _ _ _ c.read-read.result one _ c.recorder.ensures c.read-read.ensures
