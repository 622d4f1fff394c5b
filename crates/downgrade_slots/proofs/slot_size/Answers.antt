-- `downgrade_slots::slot_size` meets its contract.
use Rattle.downgrade_slots.proofs.Records.{size_none, size-one}
use Rattle.downgrade_slots.proofs.slot_size.Goals as goal

pub returns-then-same : goal.returns-then-same
returns-then-same c = size_none _ _ c.same.ensures c.if-same.true

pub returns : goal.returns
returns c = size-one _ _ c.same.ensures c.if-same.false
