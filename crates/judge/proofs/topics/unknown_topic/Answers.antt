-- `topics::unknown_topic` meets its contract: the first field is lent as the name.
use Rattle.keys.proofs.Fields.{lent-value, lent-short}
use Rattle.find.proofs.Queries.{unknown-lent}
use Rattle.judge.proofs.topics.unknown_topic.Goals as goal

pub unknown_name-requires : goal.unknown_name-requires
unknown_name-requires c = (c.requires.0, lent-short _ _ _ _ c.value_at-p.ensures 255 c.requires.2)

pub returns : goal.returns
returns c = unknown-lent _ (lent-value _ _ _ _ c.value_at-p.ensures) c.unknown_name.ensures
