-- `names::is_within` meets its contract: its tests are the definition's.
use borrow.Author.Tests.{lt-leb, le-leb}
use Rattle.judge.proofs.names.is_within.Goals as goal

pub returns-then-b-first : goal.returns-then-b-first
returns-then-b-first c = rw (lt-leb _ _ c.if-b-first.true)

pub returns : goal.returns
returns c = rw (le-leb _ _ c.if-b-first.false)
