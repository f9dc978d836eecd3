use Rattle.std.proofs.Common.{rules, ◌≡◌}
use Rattle.answers.specs.Answer.{answered}
use Rattle.desk.specs.Numbers.{number_of}
use Rattle.station.proofs.Laws.{write_sent}
use Rattle.station.proofs.write.Goals as goal

pub returns : goal.returns
returns c =
    let one : c.number.result ≡ number_of (answered c.write-written.result) = search rules in
    write_sent _ _ _ _ _ _ _ _ c.write-written.result one _ c.header.ensures c.write-written.ensures
