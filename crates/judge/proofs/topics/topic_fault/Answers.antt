-- `topics::topic_fault` meets its contract: the first field is lent as the name, and the stored topic is asked after it.
use Rattle.keys.proofs.Fields.{lent-value}
use Rattle.judge.proofs.Lawful.{name_first}
use Rattle.judge.proofs.topics.topic_fault.Goals as goal

pub returns : goal.returns
returns c =
    name_first (lent-value _ _ _ _ c.value_at-p.ensures) c.is_lawful.ensures c.unless-unlawful.ensures c.topic_exists-exists.ensures
    c.or_then.ensures
