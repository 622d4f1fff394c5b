-- `kafka_read::message::read_rest` meets its contract: the bytes are there and the tagged fields decide, or the input ends inside them.
use Rattle.kafka_read.proofs.Rests.{rest_cut, rest_skipped}
use Rattle.kafka_read.proofs.message.read_rest.Goals as goal

pub returns-then-s-at : goal.returns-then-s-at
returns-then-s-at c = let a = c.args in rest_cut a.s.now a.at a.width c.if-s-at.true

pub returns : goal.returns
returns c =
    let a = c.args in
    rest_skipped a.s.now a.at a.width c.if-s-at.false c.skip_tagged.result c.skip_tagged.ensures
