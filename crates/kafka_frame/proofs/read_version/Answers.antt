-- `kafka_frame::read_version` meets its contract, an exit after the other.
use Rattle.kafka_frame.proofs.Versions.{version_refused, version_wrong, version_right}
use Rattle.kafka_frame.proofs.read_version.Goals as goal

pub returns-then-n-version : goal.returns-then-n-version
returns-then-n-version c =
    let a = c.args in
    version_wrong a.s.now a.at c.read_varint.result c.read_varint.ensures a.version c.in-Is.is c.if-n-version.true

pub returns-in-Refused : goal.returns-in-Refused
returns-in-Refused c =
    let a = c.args in
    version_refused a.s.now a.at c.read_varint.result c.read_varint.ensures a.version c.in-Refused.is

pub returns-else-n-version : goal.returns-else-n-version
returns-else-n-version c =
    let a = c.args in
    version_right a.s.now a.at c.read_varint.result c.read_varint.ensures a.version c.in-Is.is c.if-n-version.false
