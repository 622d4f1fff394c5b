use native.Mathlib.Omega.{arith}
use Rattle.downgrade_slots.proofs.Walks.{count-start, count_low, count_turn, counted}
use Rattle.downgrade_slots.proofs.slots_size.Goals as goal

pub loop-i-init : goal.loop-i-init
loop-i-init c = count-start _ _ _

pub overflow_add-n : goal.overflow_add-n
overflow_add-n c = omega (arith, count_low c.loop-i.invariant c.requires.2 c.loop-i-test.true c.slot_size-n.ensures)

pub loop-i-preserved : goal.loop-i-preserved
loop-i-preserved c = count_turn c.loop-i.invariant c.requires.2 c.loop-i-test.true c.slot_size-n.ensures

pub returns : goal.returns
returns c = counted c.loop-i.invariant c.loop-i-test.false
