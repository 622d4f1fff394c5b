-- `find::returned_size` meets its contract.
use native.Mathlib.Omega.{arith}
use Rattle.find.proofs.Puts.{size_topic, size_other}
use Rattle.find.proofs.show.returned_size.Goals as goal

pub overflow_sub-result : goal.overflow_sub-result
overflow_sub-result c = omega (arith, c.requires.flagged c.if-e-eq-TOPIC.true)

pub returns-then-e-eq-TOPIC : goal.returns-then-e-eq-TOPIC
returns-then-e-eq-TOPIC c = size_topic c.args.e.now c.if-e-eq-TOPIC.true

pub returns : goal.returns
returns c = size_other c.args.e.now c.if-e-eq-TOPIC.false
