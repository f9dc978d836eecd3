use Rattle.std.proofs.Common.{rules}
use Rattle.printed.proofs.Written.{hex_none, hex_on, hex_all}
use Rattle.printed.proofs.hex.Goals as goal

pub loop-part-init : goal.loop-part-init
loop-part-init g c = hex_none _ _ _ _ _ (search rules) (search rules) (search rules)

pub loop-part-preserved : goal.loop-part-preserved
loop-part-preserved g c =
    hex_on _ _ _ _ _ _ _ _ _ _ _ _ c.loop-part.invariant c.in-Some.ensures.steps.0 c.in-Some.ensures.steps.1.0 c.in-Some.ensures.steps.1.1 c.hex-n.ensures.0 c.in_ok-write_all.ensures.bytes

pub returns : goal.returns
returns g c = hex_all _ _ _ _ _ _ _ c.writeln.result c.loop-part.invariant c.in-None.ensures.steps.1.0 c.writeln.ensures.bytes
