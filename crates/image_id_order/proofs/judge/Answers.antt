-- `image_id_order::judge` meets its contract: where the rows ascend in the order and each is in it, no two are the same.
use borrow.Author.Tests.{not-false}
use Rattle.image_id_order.proofs.Orders.{one_each}
use borrow.Author.Tests.{not-false}
use Rattle.image_id_order.proofs.judge.Goals as goal

pub returns : goal.returns
returns c =
    let a = c.args in
    one_each a.high.now a.low.now a.order.now _ c.ascends_to-j.ensures.1 c.if-j-n.false (c.covers.ensures (not-false _ c.if-not-covers.false-raw))
