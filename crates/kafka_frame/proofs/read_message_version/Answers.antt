-- `kafka_frame::read_message_version` meets its contract, an exit after the other.
use Rattle.kafka_frame.proofs.Frames.{message-refused, message_begins}
use Rattle.kafka_frame.proofs.read_message_version.Goals as goal

pub returns-in-Refused : goal.returns-in-Refused
returns-in-Refused c =
    let a = c.args in
    message-refused a.s.now a.at a.kind c.if-kind-eq-NONE.false c.read_version.result c.read_version.ensures c.in-Refused.is

pub returns-in-To : goal.returns-in-To
returns-in-To c =
    let a = c.args in
    message_begins a.s.now a.at a.kind c.if-kind-eq-NONE.false c.read_version.result c.read_version.ensures c.in-To.is
