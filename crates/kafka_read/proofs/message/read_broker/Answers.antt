-- `kafka_read::message::read_broker` meets its contract, an exit after the other.
use Rattle.kafka_read.proofs.Rests.{broker_cut, broker_negative, broker_refused, broker_read}
use Rattle.kafka_read.proofs.message.read_broker.Goals as goal

pub returns-then-s-at-lt4 : goal.returns-then-s-at-lt4
returns-then-s-at-lt4 c = let a = c.args in broker_cut a.s.now a.at a.width c.if-s-at-lt4.true

pub returns-then-broker-ge-HALF : goal.returns-then-broker-ge-HALF
returns-then-broker-ge-HALF c =
    let a = c.args in
    broker_negative a.s.now a.at a.width c.if-s-at-lt4.false c.get-broker.ensures.0 c.if-broker-ge-HALF.true

pub returns-in-Refused : goal.returns-in-Refused
returns-in-Refused c =
    let a = c.args in
    broker_refused a.s.now a.at a.width c.if-s-at-lt4.false c.get-broker.ensures.0 c.if-broker-ge-HALF.false c.read_rest.result c.read_rest.ensures c.in-Refused.is

pub returns-in-To : goal.returns-in-To
returns-in-To c =
    let a = c.args in
    broker_read a.s.now a.at a.width c.if-s-at-lt4.false c.get-broker.ensures.0 c.if-broker-ge-HALF.false c.read_rest.result c.read_rest.ensures c.in-To.is
