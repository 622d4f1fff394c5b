-- `topics::unknown_partition` meets its contract: the first two fields are lent, and sought among the partitions.
use Rattle.keys.proofs.Fields.{lent-value}
use Rattle.find.proofs.Queries.{partition_query, partition_key_lem, lent_query, unless-there}
use Rattle.judge.proofs.topics.unknown_partition.Goals as goal

pub is_stored-requires : goal.is_stored-requires
is_stored-requires c =
    let p = lent-value _ _ _ _ c.value_at-p.ensures in
    let q = lent-value _ _ _ _ c.value_at-q.ensures in
    (c.requires.0, lent_query 2 p q (partition_query _ _ c.requires.2 c.requires.3))

pub returns : goal.returns
returns c =
    let p = lent-value _ _ _ _ c.value_at-p.ensures in
    let q = lent-value _ _ _ _ c.value_at-q.ensures in
    unless-there 2 p q _ (partition_key_lem _ _) 7 c.unless.ensures c.is_stored.ensures
