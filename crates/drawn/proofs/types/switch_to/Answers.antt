use Rattle.std.proofs.Common.{rules, ◌≡◌, ◌∙◌}
use Rattle.drawn.specs.Week.{switch, switch_to}
use Rattle.drawn.proofs.Lengths.{switch_none, switch_next}
use Rattle.drawn.proofs.types.switch_to.Goals as goal

pub returns : goal.returns
returns c =
    let d = c.args.daytype in
    let m = c.args.minute in
    c.fold.ensures (switch_to d m) (switch_none d m) (λ e es r h. let next : r ≡ switch d m e (switch_to d m es) = search rules in next ∙ switch_next d m e es)
