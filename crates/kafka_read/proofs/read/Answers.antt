-- `kafka_read::read` meets its contract: the frame, then its message.
use Rattle.kafka_read.proofs.Taken.{frame_within, no_frame, frame_answered}
use Rattle.kafka_read.proofs.read.Goals as goal

pub read_message-requires : goal.read_message-requires
read_message-requires c =
    let a = c.args in
    frame_within a.input.now a.out.now c.read_frame.result c.read_frame.ensures c.in-Message.is

pub returns-in-Refused : goal.returns-in-Refused
returns-in-Refused c =
    let a = c.args in
    let the_whole = no_frame a.input.now a.out.now c.read_frame.result c.read_frame.ensures c.in-Refused.is in record { result_value = the_whole.0; out_after = the_whole.1 }

pub returns-in-Message : goal.returns-in-Message
returns-in-Message c =
    let a = c.args in
    let the_whole = frame_answered a.input.now a.out.now c.read_frame.result c.read_frame.ensures c.in-Message.is c.read_message.ensures in record { result_value = the_whole.0; out_after = the_whole.1 }
