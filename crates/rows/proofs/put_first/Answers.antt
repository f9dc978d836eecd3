use native.Mathlib.Omega.{arith}
use mathlib.Core.Path.{◌≡◌}
use Rattle.laws.proofs.Bits.{bit_from}
use Rattle.desk.proofs.Laws.{put_part}
use Rattle.rows.specs.Rows.{first_eight, first_eight_at}
use Rattle.rows.proofs.put_first.Goals as goal

pub returns : goal.returns
returns c =
    let row : c.copy_from_slice.new.self ≡ first_eight c.args.r = cc (bit_from c.args.r.clock.on) in
    rw row (put_part c.args.out.now (first_eight c.args.r) first_eight_at (omega arith))
