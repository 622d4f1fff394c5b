-- `kafka_frame::skip_field` meets its contract, an exit after the other.
use Rattle.kafka_frame.proofs.Versions.{varint-onward}
use Rattle.kafka_frame.proofs.Tagged.{tag_refused, tag_read}
use Rattle.kafka_frame.proofs.skip_field.Goals as goal

pub skip_sized-requires : goal.skip_sized-requires
skip_sized-requires c =
    let a = c.args in
    (varint-onward a.s.now a.at c.read_varint.result c.read_varint.ensures c.in-Is.is).1

pub returns-in-Refused : goal.returns-in-Refused
returns-in-Refused c =
    let a = c.args in
    tag_refused a.s.now a.at c.read_varint.result c.read_varint.ensures c.in-Refused.is

pub returns-in-Is : goal.returns-in-Is
returns-in-Is c =
    let a = c.args in
    tag_read a.s.now a.at c.read_varint.result c.read_varint.ensures c.in-Is.is c.skip_sized.result c.skip_sized.ensures
