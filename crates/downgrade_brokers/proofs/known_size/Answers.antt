-- `downgrade_brokers::known_size` meets its contract.
use Rattle.downgrade_brokers.proofs.Known.{size-gone, size_empty, size-whole}
use Rattle.downgrade_brokers.proofs.known_size.Goals as goal

pub returns-then-tag-gone : goal.returns-then-tag-gone
returns-then-tag-gone c = size-gone _ _ _ _ c.if-tag-gone.true

pub returns-then-tag-empty : goal.returns-then-tag-empty
returns-then-tag-empty c = size_empty _ _ _ _ c.if-tag-gone.false c.if-tag-empty.true

pub returns : goal.returns
returns c = size-whole _ _ _ _ c.if-tag-gone.false c.if-tag-empty.false
