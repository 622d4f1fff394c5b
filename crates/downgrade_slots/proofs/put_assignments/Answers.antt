-- `downgrade_slots::put_assignments` meets its contract.
use Rattle.image_entries.proofs.Records.{headed}
use Rattle.downgrade_slots.proofs.Partitions.{may-put, all-put}
use Rattle.downgrade_slots.proofs.put_assignments.Goals as goal

pub value_at-name-requires : goal.value_at-name-requires
value_at-name-requires c = headed _ c.requires.0

pub value_at-number-requires : goal.value_at-number-requires
value_at-number-requires c = headed _ c.requires.0

pub value_at-nodes-requires : goal.value_at-nodes-requires
value_at-nodes-requires c = headed _ c.requires.0

pub value_at-dirs-requires : goal.value_at-dirs-requires
value_at-dirs-requires c = headed _ c.requires.0

pub slot_count-requires : goal.slot_count-requires
slot_count-requires c = headed _ c.requires.0

pub put_slots-requires : goal.put_slots-requires
put_slots-requires c =
    may-put _ c.requires.0 c.requires.1 _ _ _ _ _ _ c.value_at-name.ensures c.value_at-number.ensures c.value_at-dirs.ensures
    c.slot_count.ensures _ _ c.value_at-nodes.ensures c.args.out.now _ c.requires.2

pub returns : goal.returns
returns c =
    all-put _ c.requires.0 c.requires.1 _ _ _ _ _ _ c.value_at-name.ensures c.value_at-number.ensures c.value_at-dirs.ensures
    c.slot_count.ensures _ _ c.value_at-nodes.ensures c.args.out.now c.args.at c.put_slots.ensures
