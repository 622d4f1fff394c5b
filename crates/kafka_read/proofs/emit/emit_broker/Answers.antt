-- `kafka_read::emit::emit_broker` meets its contract: the id's eight bytes are the first part.
use Rattle.kafka_read.proofs.Emitted.{broker_parts}
use Rattle.kafka_read.proofs.emit.emit_broker.Goals as goal

pub returns : goal.returns
returns c =
    let a = c.args in
    broker_parts a.kind a.broker a.s.now a.at a.others.now a.out.now a.used c.put.ensures c.emit.ensures
