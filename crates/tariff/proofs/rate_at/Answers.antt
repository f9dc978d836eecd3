use Rattle.std.proofs.Common.{rules, ◌≡◌, length}
use borrow.Author.Tests.{eq-eqb, le-ltb}
use Rattle.tariff.specs.Table.{table_size}
use Rattle.tariff.specs.Rate.{rate_at}
use Rattle.tariff.proofs.rate_at.Goals as goal

pub returns-then-t-ge-TIMES_IN_ALL : goal.returns-then-t-ge-TIMES_IN_ALL
unfolding rate_at
returns-then-t-ge-TIMES_IN_ALL c =
    let long : length c.args.l.now ≡ table_size = search rules in
    rw (eq-eqb (length c.args.l.now) table_size long, le-ltb c.args.t 3155760000 c.if-t-ge-TIMES_IN_ALL.true)
