use Rattle.outstation.specs.Outstation.{happening}
use Rattle.outstation.proofs.Laws.{class_refused, length_refused, rate_refused, misfit_refused, roomy}
use Rattle.outstation.proofs.Outstation.happens.Goals as goal

pub returns-then-cap-eq0 : goal.returns-then-cap-eq0
returns-then-cap-eq0 c = class_refused _ _ _ _ _ _ _ c.cap.ensures.0 c.if-cap-eq0.true

pub returns-then-table-ne-TABLE : goal.returns-then-table-ne-TABLE
returns-then-table-ne-TABLE c = length_refused _ _ _ _ _ _ _ c.cap.ensures.0 c.if-cap-eq0.false c.if-table-ne-TABLE.true

pub returns-then-fits : goal.returns-then-fits
returns-then-fits c = rate_refused _ _ _ _ _ _ _ c.cap.ensures.0 c.if-cap-eq0.false c.if-table-ne-TABLE.false _ c.most_rate.ensures c.if-most_rate-self.true _ c.fits.ensures c.if-fits.true

pub returns-then-most_rate-self : goal.returns-then-most_rate-self
returns-then-most_rate-self c = misfit_refused _ _ _ _ _ _ _ c.cap.ensures.0 c.if-cap-eq0.false c.if-table-ne-TABLE.false _ c.most_rate.ensures c.if-most_rate-self.true _ c.fits.ensures c.if-fits.false

pub with_event-requires : goal.with_event-requires
with_event-requires c = roomy _ _ _ _ c.cap.ensures.0 c.if-cap-eq0.false c.if-table-ne-TABLE.false c.most_rate.ensures c.if-most_rate-self.false

pub with_table-requires : goal.with_table-requires
with_table-requires c = roomy _ _ _ _ c.cap.ensures.0 c.if-cap-eq0.false c.if-table-ne-TABLE.false c.most_rate.ensures c.if-most_rate-self.false

pub converted-requires : goal.converted-requires
converted-requires c = roomy _ _ _ _ c.cap.ensures.0 c.if-cap-eq0.false c.if-table-ne-TABLE.false c.most_rate.ensures c.if-most_rate-self.false

pub returns-in-Of : goal.returns-in-Of
unfolding happening
returns-in-Of c = rw c.in-Of.is c.with_event.ensures

pub returns-in-Load : goal.returns-in-Load
unfolding happening
returns-in-Load c = rw c.in-Load.is c.with_table.ensures

pub returns-in-Single : goal.returns-in-Single
unfolding happening
returns-in-Single c = rw c.in-Single.is c.converted.ensures
