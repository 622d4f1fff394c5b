-- `apply_topics::replica_count` meets its contract.
use Rattle.image_entries.proofs.Records.{headed}
use Rattle.apply_topics.proofs.Moved.{counted}
use Rattle.apply_topics.proofs.replica_count.Goals as goal

pub value_at-p-requires : goal.value_at-p-requires
value_at-p-requires c = headed _ c.requires

pub returns : goal.returns
returns c = counted _ c.requires c.value_at-p.ensures
