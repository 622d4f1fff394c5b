-- `shape_faults::below_fault` meets its contract: one byte, and below the bound.
use Rattle.shape_faults.proofs.Leaves.{below_length, below_right, below_wrong}
use Rattle.shape_faults.proofs.below_fault.Goals as goal

pub returns-then-v-ne1 : goal.returns-then-v-ne1
returns-then-v-ne1 c = below_length _ _ c.if-v-ne1.true

pub returns-then-size-bound : goal.returns-then-size-bound
returns-then-size-bound c = below_right _ _ _ c.if-v-ne1.false c.size.ensures.0 c.if-size-bound.true

pub returns : goal.returns
returns c = below_wrong _ _ _ c.if-v-ne1.false c.size.ensures.0 c.if-size-bound.false
