use Rattle.std.proofs.Common.{rules, ◌∙◌}
use Rattle.tariff.specs.Rate.{ruled}
use Rattle.tariff.specs.Scans.{ruler_of, outranked}
use mathlib.Core.Path.{◌≡◌}
use Rattle.tariff.proofs.Turns.{ruler_none, ruler_next}
use Rattle.tariff.proofs.ruling.Goals as goal

pub returns : goal.returns
returns c =
    let k = c.args.k in
    c.fold.ensures (λ es. ruler_of (ruled k es)) (ruler_none k) (λ e es r h. let next : r ≡ outranked k e (ruler_of (ruled k es)) = search rules in next ∙ ruler_next k e es)
