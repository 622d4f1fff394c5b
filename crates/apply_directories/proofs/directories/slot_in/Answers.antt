-- `directories::slot_in` meets its contract: the replicas are lent, and the node is sought among them.
use Rattle.image_entries.proofs.Records.{headed}
use Rattle.apply_directories.proofs.Partitions.{node_width_lem, lent-whole, slot-found}
use Rattle.apply_directories.proofs.directories.slot_in.Goals as goal

pub value_at-p-requires : goal.value_at-p-requires
value_at-p-requires c = headed _ c.requires.0.is

pub node_at-requires : goal.node_at-requires
node_at-requires c = (headed _ c.requires.1.is, node_width_lem _ c.requires.1)

pub slot_of-requires : goal.slot_of-requires
slot_of-requires c =
    lent-whole _ c.args.rec.now c.requires.0 c.requires.1 _ _ c.value_at-p.ensures

pub returns : goal.returns
returns c =
    slot-found _ _ c.requires.0 c.requires.1 _ _ c.value_at-p.ensures c.node_at.ensures c.slot_of.ensures
