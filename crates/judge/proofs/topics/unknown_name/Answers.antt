-- `topics::unknown_name` meets its contract.
use mathlib.Core.Path.{refl}
use Rattle.find.proofs.Queries.{topic_query, topic_key_lem, unless-there}
use Rattle.judge.proofs.topics.unknown_name.Goals as goal

pub is_stored-requires : goal.is_stored-requires
is_stored-requires c = (c.requires.0, topic_query _ c.requires.1)

pub returns : goal.returns
returns c = unless-there 1 refl refl _ (topic_key_lem _) 7 c.unless.ensures c.is_stored.ensures
