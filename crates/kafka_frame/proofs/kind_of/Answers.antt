-- `kafka_frame::kind_of` meets its contract, a key after the other.
use Rattle.kafka_frame.proofs.Frames.{key_unregister, key_topic, key-level, key-producers, key-none}
use Rattle.kafka_frame.proofs.kind_of.Goals as goal

pub returns-then-key-eq1 : goal.returns-then-key-eq1
returns-then-key-eq1 c = key_unregister c.if-key-eq1.true

pub returns-then-key-eq2 : goal.returns-then-key-eq2
returns-then-key-eq2 c = key_topic c.if-key-eq2.true

pub returns-then-key-eq12 : goal.returns-then-key-eq12
returns-then-key-eq12 c = key-level c.if-key-eq12.true

pub returns-then-key-eq15 : goal.returns-then-key-eq15
returns-then-key-eq15 c = key-producers c.if-key-eq15.true

pub returns : goal.returns
returns c = key-none c.if-key-eq1.false c.if-key-eq2.false c.if-key-eq12.false c.if-key-eq15.false
