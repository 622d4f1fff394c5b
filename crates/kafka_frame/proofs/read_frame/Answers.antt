-- `kafka_frame::read_frame` meets its contract, an exit after the other.
use mathlib.Core.Path.{subst}
use Rattle.kafka_frame.specs.Parts.{Behind}
use Rattle.kafka_frame.proofs.Frames.{frame_refused, frame_read}
use Rattle.kafka_frame.proofs.read_frame.Goals as goal

pub read_key-requires : goal.read_key-requires
read_key-requires c =
    let a = c.args in
    (subst (Behind a.s.now 0) c.in-To.is c.read_version.ensures.1).1

pub returns-in-Refused : goal.returns-in-Refused
returns-in-Refused c =
    let a = c.args in
    frame_refused a.s.now c.read_version.result c.read_version.ensures c.in-Refused.is

pub returns-in-To : goal.returns-in-To
returns-in-To c =
    let a = c.args in
    frame_read a.s.now c.read_version.result c.read_version.ensures c.in-To.is c.read_key.result c.read_key.ensures
