-- `kafka_frame::skip_fields` meets its contract. The invariant: skipping those that are left is skipping all.
use Rattle.kafka_frame.proofs.Tagged.{Left}
use Rattle.kafka_frame.proofs.skip_fields.Given as goal

abbrev pub invariant-loop-left : goal.invariant-loop-left
invariant-loop-left l = Left l.s l.at l.count l.to l.left

abbrev pub decreases-loop-left : goal.decreases-loop-left
decreases-loop-left l = l.left
