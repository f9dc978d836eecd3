use Rattle.std.proofs.Common.{rules}
use Rattle.tariff.specs.Table.{slots_of, is_time, is_exception, is_default}
use Rattle.tariff.specs.Judge.{entry_ok, served, sound}
use Rattle.tariff.proofs.judged.is_sound.Goals as goal

pub returns : goal.returns
unfolding sound
returns c =
    rw (
      c.all-2.ensures (served (slots_of c.args.l.now)) (λ e r h. search rules),
      c.any.ensures is_default (λ e r h. search rules),
      c.count-2.ensures is_exception (λ e r h. search rules),
      c.count.ensures is_time (λ e r h. search rules),
      c.all.ensures entry_ok (λ e r h. search rules),
    )
