-- `apply_patches::is_topic_with` meets its contract: the first byte tells a topic, and the field's value is compared where it stands.
use mathlib.Core.Path.{◌∙◌}
use native.Mathlib.Omega.{arith}
use Rattle.keys.proofs.Found.{lent_slice}
use Rattle.image_entries.proofs.Records.{headed}
use Rattle.apply_patches.proofs.Entries.{other_kind, field_says}
use Rattle.apply_patches.proofs.is_topic_with.Goals as goal

pub bounds-e-0 : goal.bounds-e-0
bounds-e-0 c = omega (arith, headed _ c.requires)

pub returns-then-e-ne-TOPIC : goal.returns-then-e-ne-TOPIC
returns-then-e-ne-TOPIC c = other_kind c.requires _ _ c.if-e-ne-TOPIC.true

pub value_at-p-requires : goal.value_at-p-requires
value_at-p-requires c = headed _ c.requires

pub returns : goal.returns
returns c =
    let p = c.value_at-p.ensures in
    field_says c.requires _ _ c.if-e-ne-TOPIC.false (lent_slice _ _ _ p.1 ∙ p.0) c.same.ensures
