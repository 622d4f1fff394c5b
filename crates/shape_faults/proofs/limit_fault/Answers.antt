-- `shape_faults::limit_fault` meets its contract.
use borrow.Author.Tests.{le-leb, lt-leb}
use Rattle.shape_faults.proofs.limit_fault.Goals as goal

pub returns-then-n-limit : goal.returns-then-n-limit
returns-then-n-limit c = rw (lt-leb _ _ c.if-n-limit.true)

pub returns : goal.returns
returns c = rw (le-leb _ _ c.if-n-limit.false)
