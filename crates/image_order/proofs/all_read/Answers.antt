use native.Mathlib.Omega.{arith}
use Rattle.image_order.proofs.Whole.{upto_start, upto_end, goes_on_lem, upto_next, upto_refused}
use Rattle.image_order.proofs.all_read.Goals as goal

pub loop-at-init : goal.loop-at-init
loop-at-init c = upto_start _

pub overflow_add-at : goal.overflow_add-at
overflow_add-at c = omega (arith, goes_on_lem c.loop-at.invariant _ c.read_from.ensures c.in-Used.is)

pub loop-at-smaller : goal.loop-at-smaller
loop-at-smaller c = omega (arith, goes_on_lem c.loop-at.invariant _ c.read_from.ensures c.in-Used.is)

pub loop-at-preserved : goal.loop-at-preserved
loop-at-preserved c = upto_next c.loop-at.invariant _ c.read_from.ensures c.in-Used.is

pub returns-in-Refused : goal.returns-in-Refused
returns-in-Refused c = upto_refused c.loop-at.invariant _ c.read_from.ensures c.in-Refused.is c.loop-at-test.true

pub returns : goal.returns
returns c = upto_end c.loop-at.invariant c.loop-at-test.false
