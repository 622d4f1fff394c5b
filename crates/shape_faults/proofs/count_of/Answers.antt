-- `shape_faults::count_of` meets its contract.
use borrow.Author.Tests.{eq-eqb, ne_eqb}
use Rattle.shape_faults.proofs.count_of.Goals as goal

pub returns-then-tag-w : goal.returns-then-tag-w
returns-then-tag-w c = rw (eq-eqb _ _ c.if-tag-w.true)

pub returns : goal.returns
returns c = rw (ne_eqb _ _ c.if-tag-w.false)
