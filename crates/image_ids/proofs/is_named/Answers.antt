-- `image_ids::is_named` meets its contract: the first byte tells a topic, and the five bytes of its flag spell 1 where it is named.
use native.Mathlib.Omega.{arith}
use Rattle.image_ids.proofs.Named.{headed, not_topic, flag_width, flag_says}
use Rattle.image_ids.proofs.is_named.Goals as goal

pub bounds-e-0 : goal.bounds-e-0
bounds-e-0 c = omega (arith, headed _ c.requires)

pub returns-then-e-ne-TOPIC : goal.returns-then-e-ne-TOPIC
returns-then-e-ne-TOPIC c = not_topic _ c.requires c.if-e-ne-TOPIC.true

pub number_at-requires : goal.number_at-requires
number_at-requires c = let i = c.requires in (headed _ i, omega arith, flag_width _ i c.if-e-ne-TOPIC.false)

pub returns : goal.returns
returns c = flag_says _ c.requires c.if-e-ne-TOPIC.false _ c.number_at.ensures
