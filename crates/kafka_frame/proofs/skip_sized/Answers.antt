-- `kafka_frame::skip_sized` meets its contract, an exit after the other.
use Rattle.kafka_frame.proofs.Versions.{varint-onward}
use Rattle.kafka_frame.proofs.Tagged.{size-refused, size-read}
use Rattle.kafka_frame.proofs.skip_sized.Goals as goal

pub pass_bytes-requires : goal.pass_bytes-requires
pass_bytes-requires c =
    let a = c.args in
    (varint-onward a.s.now a.at c.read_varint.result c.read_varint.ensures c.in-Is.is).1

pub returns-in-Refused : goal.returns-in-Refused
returns-in-Refused c =
    let a = c.args in
    size-refused a.s.now a.at c.read_varint.result c.read_varint.ensures c.in-Refused.is

pub returns-in-Is : goal.returns-in-Is
returns-in-Is c =
    let a = c.args in
    size-read a.s.now a.at c.read_varint.result c.read_varint.ensures c.in-Is.is c.pass_bytes.result c.pass_bytes.ensures
