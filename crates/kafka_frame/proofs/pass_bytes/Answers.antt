-- `kafka_frame::pass_bytes` meets its contract: the bytes are there, or the input ends inside them.
use Rattle.kafka_frame.proofs.Tagged.{bytes_cut, bytes-passed}
use Rattle.kafka_frame.proofs.pass_bytes.Goals as goal

pub returns-then-left-len : goal.returns-then-left-len
returns-then-left-len c = bytes_cut c.args.s.now c.args.at c.args.len c.requires c.if-left-len.true

pub returns : goal.returns
returns c = bytes-passed c.args.s.now c.args.at c.args.len c.requires c.if-left-len.false
