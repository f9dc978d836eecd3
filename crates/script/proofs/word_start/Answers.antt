use native.Mathlib.Omega.{arith}
use Rattle.script.proofs.Words.{passed_none, passed_on, passed_end, passed_all}
use Rattle.script.proofs.word_start.Goals as goal

pub returns-then-end-line : goal.returns-then-end-line
returns-then-end-line c = (omega arith, search passed_end)

pub loop-j-preserved : goal.loop-j-preserved
loop-j-preserved c = search passed_on

pub returns : goal.returns
returns c = (omega arith, search passed_all)
