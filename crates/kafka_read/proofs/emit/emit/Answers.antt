-- `kafka_read::emit::emit` meets its contract: there is no room, or the parts are written one after the other.
use Rattle.kafka_read.proofs.Emitted.{record-short, record-written}
use Rattle.kafka_read.proofs.emit.emit.Goals as goal

pub returns-then-out-size : goal.returns-then-out-size
returns-then-out-size c = let a = c.args in record-short a.kind a.first.now a.second.now a.others.now a.out.now a.used c.if-out-size.true

pub returns : goal.returns
returns c =
    let a = c.args in
    record-written a.kind a.first.now a.second.now a.others.now a.out.now a.used c.if-out-size.false c.put_head.ensures c.put_field.ensures
    c.put_field-2.ensures c.copy.ensures
