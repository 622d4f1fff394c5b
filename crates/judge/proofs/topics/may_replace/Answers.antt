-- `topics::may_replace` meets its contract: the id, then the replication factor, then the count.
use Rattle.judge.proofs.Replaced.{other_id, other_factor, by_count}
use Rattle.judge.proofs.topics.may_replace.Goals as goal

pub returns-then-not-same_value : goal.returns-then-not-same_value
returns-then-not-same_value c = other_id _ _ _ c.same_value.ensures c.if-not-same_value.true-raw

pub returns-then-number_at : goal.returns-then-number_at
returns-then-number_at c =
    other_factor _ _ _ c.same_value.ensures c.if-not-same_value.false-raw c.number_at.ensures c.number_at-2.ensures c.if-number_at.true

pub returns : goal.returns
returns c =
    by_count _ _ _ c.same_value.ensures c.if-not-same_value.false-raw c.number_at.ensures c.number_at-2.ensures c.if-number_at.false c.place_in.ensures
