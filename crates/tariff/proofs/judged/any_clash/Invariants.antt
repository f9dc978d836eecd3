use mathlib.Core.Path.{◌≡◌}
use Rattle.tariff.specs.Judge.{clash_in}
use Rattle.tariff.specs.Table.{slots_to}
use Rattle.tariff.proofs.judged.any_clash.Given as goal

abbrev pub invariant-loop-i : goal.invariant-loop-i
invariant-loop-i l = l.found ≡ clash_in (slots_to l.l l.i)
