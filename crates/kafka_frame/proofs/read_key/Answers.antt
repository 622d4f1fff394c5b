-- `kafka_frame::read_key` meets its contract, an exit after the other.
use Rattle.kafka_frame.proofs.Versions.{varint-onward}
use Rattle.kafka_frame.proofs.Frames.{key-refused, key-read}
use Rattle.kafka_frame.proofs.read_key.Goals as goal

pub read_message_version-requires : goal.read_message_version-requires
read_message_version-requires c =
    let a = c.args in
    (varint-onward a.s.now a.at c.read_varint.result c.read_varint.ensures c.in-Is.is).1

pub returns-in-Refused : goal.returns-in-Refused
returns-in-Refused c =
    let a = c.args in
    key-refused a.s.now a.at c.read_varint.result c.read_varint.ensures c.in-Refused.is

pub returns-in-Is : goal.returns-in-Is
returns-in-Is c =
    let a = c.args in
    key-read a.s.now a.at c.read_varint.result c.read_varint.ensures c.in-Is.is c.kind_of.result c.kind_of.ensures c.read_message_version.result
    c.read_message_version.ensures
