-- `kafka_read::message::read_name` meets its contract, an exit after the other.
use Rattle.kafka_frame.proofs.Versions.{varint-onward}
use Rattle.kafka_read.proofs.Texts.{name_refused, name_read}
use Rattle.kafka_read.proofs.message.read_name.Goals as goal

pub read_text-requires : goal.read_text-requires
read_text-requires c =
    let a = c.args in
    (varint-onward a.s.now a.at c.read_varint.result c.read_varint.ensures c.in-Is.is).1

pub returns-in-Refused : goal.returns-in-Refused
returns-in-Refused c =
    let a = c.args in
    name_refused a.s.now a.at c.read_varint.result c.read_varint.ensures c.in-Refused.is

pub returns-in-Is : goal.returns-in-Is
returns-in-Is c =
    let a = c.args in
    name_read a.s.now a.at c.read_varint.result c.read_varint.ensures c.in-Is.is c.read_text.result c.read_text.ensures
