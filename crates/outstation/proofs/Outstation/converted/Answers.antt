use Rattle.laws.proofs.Exits.{exit_is}
use Rattle.outstation.proofs.Laws.{single_unready, single_named, single_done}
use Rattle.outstation.proofs.Outstation.converted.Goals as goal

pub returns-in_err-ready : goal.returns-in_err-ready
returns-in_err-ready c = rw (exit_is c.from_residual.ensures.1) (single_unready _ _ _ _ _ c.requires _ c.in_err-ready.ensures.judged c.in_err-ready.ensures.bare)

pub returns-then-self-names_above : goal.returns-then-self-names_above
returns-then-self-names_above c = single_named _ _ _ _ _ c.requires c.in_ok-ready.ensures.judged _ c.names_above.ensures c.if-self-names_above.true

pub returns : goal.returns
returns c = single_done _ _ _ _ _ c.requires c.in_ok-ready.ensures.judged _ c.names_above.ensures c.if-self-names_above.false _ _ c.rate_kept-self.ensures
