use Rattle.std.proofs.Common.{◌≡◌, ◌++◌, drop, length-take}
use native.Mathlib.Omega.{arith}
use lib.Seq.{sets}
use Rattle.desk.proofs.Laws.{put_front}
use Rattle.rows.specs.Rows.{recorder_row}
use Rattle.rows.proofs.Laws.{row_long, put_none, put_done}
use Rattle.rows.proofs.put_recorder.Goals as goal

pub copy_from_slice-requires : goal.copy_from_slice-requires
copy_from_slice-requires c = rw c.recorder_row.ensures (omega (arith, length-take 36 c.args.out.now, row_long c.args.r))

pub returns-then-out-ge-NUMBERS : goal.returns-then-out-ge-NUMBERS
returns-then-out-ge-NUMBERS c =
    let row = recorder_row c.args.r in
    let put : row ++ drop 36 c.args.out.now ≡ sets c.args.out.now 0 row = rw (row_long c.args.r) at (put_front c.args.out.now row (omega (arith, row_long c.args.r))) in
    rw (c.copy_from_slice.ensures.after, c.recorder_row.ensures) (put_done c.args.out.now c.args.r _ c.if-out-ge-NUMBERS.true put)

pub returns-else-out-ge-NUMBERS : goal.returns-else-out-ge-NUMBERS
returns-else-out-ge-NUMBERS c = search put_none
