use Rattle.std.proofs.Common.{rules, ◌≡◌}
use Rattle.answers.specs.Answer.{answered}
use Rattle.desk.specs.Numbers.{number_of}
use Rattle.desk.proofs.Tables.{week_given}
use Rattle.desk.proofs.table.cop6_table_week.Goals as goal

pub returns : goal.returns
returns c =
    let told : c.number.result ≡ number_of (answered c.week.result) = search rules in
    week_given _ _ _ _ _ (answered c.week.result) c.week.ensures.0 c.week.ensures.1 told
