-- `kafka_read::read_producers` meets its contract: the next id is the third field.
use mathlib.Core.Path.{refl}
use native.Mathlib.Omega.{arith}
use lib.ListN.{replicate}
use Rattle.kafka_read.proofs.Taken.{no_producers, producers-end, producers-written}
use Rattle.kafka_read.proofs.read_producers.Goals as goal

pub slice_bounds-put_field-end-in-Fields : goal.slice_bounds-put_field-end-in-Fields
slice_bounds-put_field-end-in-Fields c =
    let a = c.args in
    producers-end a.s.now a.out.now a.at c.read_broker.result c.read_broker.ensures c.in-Fields.is

pub emit_broker-requires : goal.emit_broker-requires
emit_broker-requires c =
    let a = c.args in
    (omega (arith, producers-end a.s.now a.out.now a.at c.read_broker.result c.read_broker.ensures c.in-Fields.is), omega (arith, c.put_field.auto.out))

pub returns-in-Refused : goal.returns-in-Refused
returns-in-Refused c =
    let a = c.args in
    no_producers a.s.now a.out.now a.at c.read_broker.result c.read_broker.ensures c.in-Refused.is

pub returns-in-Fields : goal.returns-in-Fields
returns-in-Fields c =
    let a = c.args in
    producers-written a.s.now a.out.now a.at c.read_broker.result c.read_broker.ensures c.in-Fields.is (replicate 11 0) refl c.put_field.ensures c.emit_broker.ensures
