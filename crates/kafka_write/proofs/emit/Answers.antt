-- `kafka_write::emit` meets its contract: there is no room, or the parts are written one after the other.
use native.Mathlib.Omega.{arith}
use lib.ListN.{length-set}
use Rattle.kafka_write.proofs.Emitted.{message-short, message-written}
use Rattle.kafka_write.proofs.emit.Goals as goal

pub returns-then-out-end : goal.returns-then-out-end
returns-then-out-end c = let a = c.args in message-short a.key a.first.now a.second.now a.third.now a.out.now c.if-out-end.true

pub shape_of-out : goal.shape_of-out
shape_of-out c =
    simp length-set (omega (arith, c.copy-3.auto.dst, c.copy-2.auto.dst, c.copy.auto.dst, c.put_frame.auto.out))

pub returns : goal.returns
returns c =
    let a = c.args in
    message-written a.key a.first.now a.second.now a.third.now a.out.now c.if-out-end.false c.put_frame.ensures c.copy.ensures c.copy-2.ensures
    c.copy-3.ensures
