-- `kafka_read::read_unregistration` meets its contract: there is no third field.
use native.Mathlib.Omega.{arith}
use Rattle.kafka_read.proofs.Taken.{no_unregistration, unregistration_end, unregistration_written}
use Rattle.kafka_read.proofs.read_unregistration.Goals as goal

pub emit_broker-requires : goal.emit_broker-requires
emit_broker-requires c =
    let a = c.args in
    (unregistration_end a.s.now a.out.now a.at c.read_broker.result c.read_broker.ensures c.in-Fields.is, omega arith)

pub returns-in-Refused : goal.returns-in-Refused
returns-in-Refused c =
    let a = c.args in
    no_unregistration a.s.now a.out.now a.at c.read_broker.result c.read_broker.ensures c.in-Refused.is

pub returns-in-Fields : goal.returns-in-Fields
returns-in-Fields c =
    let a = c.args in
    unregistration_written a.s.now a.out.now a.at c.read_broker.result c.read_broker.ensures c.in-Fields.is c.emit_broker.ensures
