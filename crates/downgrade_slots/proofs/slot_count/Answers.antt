-- `downgrade_slots::slot_count` meets its contract.
use Rattle.downgrade_slots.proofs.Partitions.{fewer_nodes, fewer_dirs}
use Rattle.downgrade_slots.proofs.slot_count.Goals as goal

pub returns-then-nodes-dirs : goal.returns-then-nodes-dirs
returns-then-nodes-dirs c = fewer_nodes _ _ _ _ _ c.value_at-p.ensures c.value_at-q.ensures c.if-nodes-dirs.true

pub returns : goal.returns
returns c = fewer_dirs _ _ _ _ _ c.value_at-p.ensures c.value_at-q.ensures c.if-nodes-dirs.false
