use native.Mathlib.Omega.{arith}
use borrow.Author.Tests.{not-false}
use Rattle.image_id_order.proofs.Orders.{ascends-start, ascends-next}
use Rattle.image_id_order.proofs.ascends_to.Goals as goal

pub loop-j-init : goal.loop-j-init
loop-j-init c = let a = c.args in (omega arith, ascends-start a.high.now a.low.now a.order.now)

pub returns-then-a-n : goal.returns-then-a-n
returns-then-a-n c = c.loop-j.invariant

pub returns-then-b-n : goal.returns-then-b-n
returns-then-b-n c = c.loop-j.invariant

pub returns-then-not-is_below : goal.returns-then-not-is_below
returns-then-not-is_below c = c.loop-j.invariant

pub loop-j-preserved : goal.loop-j-preserved
loop-j-preserved c =
    let a = c.args in
    (omega arith, ascends-next a.high.now a.low.now a.order.now c.loop-j.j c.loop-j.invariant.1 (c.is_below.ensures (not-false _ c.if-not-is_below.false-raw)))

pub returns : goal.returns
returns c = c.loop-j.invariant
