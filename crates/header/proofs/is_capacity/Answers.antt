-- `header::is_capacity` meets its contract.
use borrow.Author.Tests.{le-leb, lt-leb}
use Rattle.model.specs.Image.{is_capacity}
use Rattle.header.proofs.is_capacity.Goals as goal

pub returns-then-n-ge-LEAST_CAPACITY : goal.returns-then-n-ge-LEAST_CAPACITY
unfolding is_capacity
returns-then-n-ge-LEAST_CAPACITY c = rw (le-leb _ _ c.if-n-ge-LEAST_CAPACITY.true)

pub returns-else-n-ge-LEAST_CAPACITY : goal.returns-else-n-ge-LEAST_CAPACITY
unfolding is_capacity
returns-else-n-ge-LEAST_CAPACITY c = rw (lt-leb _ _ c.if-n-ge-LEAST_CAPACITY.false)
