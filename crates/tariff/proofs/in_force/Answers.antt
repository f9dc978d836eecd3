use Rattle.std.proofs.Common.{rules, ◌∙◌}
use mathlib.Core.Path.{◌≡◌}
use Rattle.tariff.specs.Rate.{latest}
use Rattle.tariff.specs.Scans.{force_of, followed}
use Rattle.tariff.proofs.Turns.{force_none, force_next}
use Rattle.tariff.proofs.in_force.Goals as goal

pub returns : goal.returns
returns c =
    let d = c.args.daytype in
    let m = c.args.clock in
    c.fold.ensures (λ es. force_of (latest d m es)) (force_none d m)
    (λ e es r h. let next : r ≡ followed d m e (force_of (latest d m es)) = search rules in next ∙ force_next d m e es)
