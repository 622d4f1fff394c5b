-- `image_ids::names` meets its contract: the second field is the id, and the flag says whether the topic is named for it.
use mathlib.Core.Path.{◌∙◌}
use borrow.Author.Tests.{not-true, not-false}
use Rattle.keys.proofs.Found.{lent_slice}
use Rattle.image_ids.proofs.Named.{headed, other_id, same_id}
use Rattle.image_ids.proofs.names.Goals as goal

pub value_at-p-requires : goal.value_at-p-requires
value_at-p-requires c = headed _ c.requires

pub returns-then-not-same : goal.returns-then-not-same
returns-then-not-same c =
    let p = c.value_at-p.ensures in
    other_id _ c.requires _ _ _ (lent_slice _ _ _ p.1 ∙ p.0) c.same.ensures
    (not-true _ c.if-not-same.true-raw)

pub returns : goal.returns
returns c =
    let p = c.value_at-p.ensures in
    same_id _ c.requires _ _ _ (lent_slice _ _ _ p.1 ∙ p.0) c.same.ensures
    (not-false _ c.if-not-same.false-raw) _ c.is_named.ensures
