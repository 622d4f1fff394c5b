-- `kafka_frame::skip_tagged` meets its contract, an exit after the other.
use Rattle.kafka_frame.proofs.Versions.{varint-onward}
use Rattle.kafka_frame.proofs.Tagged.{count-refused, count-read}
use Rattle.kafka_frame.proofs.skip_tagged.Goals as goal

pub skip_fields-requires : goal.skip_fields-requires
skip_fields-requires c =
    let a = c.args in
    (varint-onward a.s.now a.at c.read_varint.result c.read_varint.ensures c.in-Is.is).1

pub returns-in-Refused : goal.returns-in-Refused
returns-in-Refused c =
    let a = c.args in
    count-refused a.s.now a.at c.read_varint.result c.read_varint.ensures c.in-Refused.is

pub returns-in-Is : goal.returns-in-Is
returns-in-Is c =
    let a = c.args in
    count-read a.s.now a.at c.read_varint.result c.read_varint.ensures c.in-Is.is c.skip_fields.result c.skip_fields.ensures
