-- `kafka_write::write_broker` meets its contract: the id is too large, or its four bytes are the first part.
use native.Mathlib.Omega.{arith}
use Rattle.kafka_write.proofs.Fields.{part_fits, broker_large, broker_sent}
use Rattle.kafka_write.proofs.write_broker.Goals as goal

pub returns-then-broker-ge-HALF : goal.returns-then-broker-ge-HALF
returns-then-broker-ge-HALF c = let a = c.args in broker_large a.s.now a.out.now a.key c.number_at-broker.ensures c.if-broker-ge-HALF.true

pub emit-requires : goal.emit-requires
emit-requires c =
    let a = c.args in (
      omega (arith, c.put.auto.s),
      part_fits a.s.now 2 _ _ c.value_at-epoch.ensures 255 c.requires.1.1,
      part_fits a.s.now 3 _ _ c.value_at-next.ensures 255 c.requires.1.2,
    )

pub returns : goal.returns
returns c =
    let a = c.args in
    broker_sent a.s.now a.out.now a.key c.number_at-broker.ensures c.if-broker-ge-HALF.false c.put.ensures _ _ _ _ c.value_at-epoch.ensures c.value_at-next.ensures
    c.emit.ensures
