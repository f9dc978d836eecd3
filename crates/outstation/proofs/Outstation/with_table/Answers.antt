use Rattle.laws.proofs.Exits.{exit_is}
use Rattle.outstation.proofs.Laws.{loaded_long, load_unready, load_high, load_bad, load_done}
use Rattle.outstation.proofs.Outstation.with_table.Goals as goal

pub returns-in_err-ready : goal.returns-in_err-ready
returns-in_err-ready c = rw (exit_is c.from_residual.ensures.1) (load_unready _ _ _ _ _ c.requires _ c.in_err-ready.ensures.judged c.in_err-ready.ensures.bare _)

pub returns-then-names_above : goal.returns-then-names_above
returns-then-names_above c = load_high _ _ _ _ _ c.requires c.in_ok-ready.ensures.judged _ _ c.most_rate.ensures _ c.names_above.ensures c.if-names_above.true

pub returns-in_err-judge : goal.returns-in_err-judge
returns-in_err-judge c = rw (exit_is c.from_residual-in_err-judge.ensures.1) (load_bad _ _ _ _ _ c.requires c.in_ok-ready.ensures.judged _ _ c.most_rate.ensures _ c.names_above.ensures c.if-names_above.false _ c.in_err-judge.ensures)

pub copy-requires : goal.copy-requires
copy-requires c = loaded_long _ _ c.in_ok-judge.ensures c.requires.long

pub returns : goal.returns
returns c =
    load_done _ _ _ _ _ c.requires c.in_ok-ready.ensures.judged _ _ c.most_rate.ensures _ c.names_above.ensures c.if-names_above.false c.in_ok-judge.ensures _ _ c.copy.ensures _ c.rate_then-self.ensures
