-- `apply_topics::delete_topic` meets its contract.
use Rattle.keys.proofs.Fields.{lent-value}
use Rattle.apply_topics.proofs.Moved.{deleted}
use Rattle.apply_topics.proofs.delete_topic.Goals as goal

pub returns : goal.returns
returns c =
    deleted _ (lent-value _ _ _ _ c.value_at-p.ensures) c.clear_old_named.ensures c.drop_topic.ensures
