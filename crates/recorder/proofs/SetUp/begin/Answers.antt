use Rattle.std.proofs.Common.{rules}
use Rattle.recorder.proofs.Setting.{store_goes, store_begun_lem}
use Rattle.recorder.proofs.SetUp.begin.Goals as goal

pub begin-requires : goal.begin-requires
begin-requires c = search store_goes

pub returns : goal.returns
returns c = let e = store_begun_lem c.args.self _ _ c.days.ensures.0 c.reading.ensures _ c.begin.ensures.is in search rules
