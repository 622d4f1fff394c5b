use mathlib.Core.Path.{refl}
use native.Mathlib.Omega.{arith}
use Rattle.laws.specs.Choice.{true_false}
use Rattle.image_id_order.proofs.Orders.{covers_start, covers_next}
use Rattle.image_id_order.proofs.covers.Goals as goal

pub loop-i-init : goal.loop-i-init
loop-i-init c = covers_start c.args.order.now c.args.n

pub returns-then-j-n : goal.returns-then-j-n
returns-then-j-n c = λ e. absurd (true_false e refl)

pub returns-then-order-j : goal.returns-then-order-j
returns-then-order-j c = λ e. absurd (true_false e refl)

pub loop-i-preserved : goal.loop-i-preserved
loop-i-preserved c =
    covers_next c.args.order.now _ _ c.loop-i.invariant _ c.if-j-n.false c.if-order-j.false

pub returns : goal.returns
returns c = λ e i h. c.loop-i.invariant i (omega arith)
