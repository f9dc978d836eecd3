use native.Mathlib.Omega.{arith}
use mathlib.Core.Path.{◌≡◌}
use Rattle.laws.proofs.Bits.{bit_from}
use Rattle.desk.proofs.Laws.{put_part}
use Rattle.rows.specs.Rows.{last_eight, last_eight_at}
use Rattle.rows.proofs.put_last.Goals as goal

pub returns : goal.returns
returns c =
    let row : c.copy_from_slice.new.self ≡ last_eight c.args.r = cc (bit_from c.args.r.running.reverse, bit_from c.args.r.running.level2) in
    rw row (put_part c.args.out.now (last_eight c.args.r) last_eight_at (omega arith))
