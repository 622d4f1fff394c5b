-- `shape_faults::offset_fault` meets its contract: eight bytes, and an offset.
use Rattle.shape_faults.proofs.Leaves.{offset-length, offset_right, offset_wrong}
use Rattle.shape_faults.proofs.offset_fault.Goals as goal

pub returns-then-v-ne8 : goal.returns-then-v-ne8
returns-then-v-ne8 c = offset-length _ c.if-v-ne8.true

pub returns-then-is_offset : goal.returns-then-is_offset
returns-then-is_offset c =
    offset_right _ c.if-v-ne8.false c.get.ensures.0 c.is_offset.ensures c.if-is_offset.true

pub returns : goal.returns
returns c =
    offset_wrong _ c.if-v-ne8.false c.get.ensures.0 c.is_offset.ensures c.if-is_offset.false
