-- `shape_faults::list_fault` meets its contract, test by test.
use borrow.Author.Tests.{eq-eqb, ne_eqb}
use Rattle.shape_faults.proofs.list_fault.Goals as goal

pub returns-then-len-width-ne0 : goal.returns-then-len-width-ne0
returns-then-len-width-ne0 c = rw (ne_eqb _ _ c.if-len-width-ne0.true)

pub returns : goal.returns
returns c = rw (eq-eqb _ _ c.if-len-width-ne0.false) c.limit_fault.ensures
