-- `find::put_returned` meets its contract.
use native.Mathlib.Omega.{arith}
use Rattle.find.proofs.Puts.{size_topic, size_other, topic_put, other_put}
use Rattle.find.proofs.show.put_returned.Goals as goal

pub overflow_sub-end : goal.overflow_sub-end
overflow_sub-end c =
    omega (arith, c.requires.0.flagged c.if-e-eq-TOPIC.true, size_topic c.args.e.now c.if-e-eq-TOPIC.true)

pub overflow_sub-end-then-e-eq-TOPIC : goal.overflow_sub-end-then-e-eq-TOPIC
overflow_sub-end-then-e-eq-TOPIC c =
    omega (arith, c.requires.0.flagged c.if-e-eq-TOPIC.true, size_topic c.args.e.now c.if-e-eq-TOPIC.true)

pub put_head-requires : goal.put_head-requires
put_head-requires c =
    omega (arith, c.requires.0.flagged c.if-e-eq-TOPIC.true, size_topic c.args.e.now c.if-e-eq-TOPIC.true)

pub slice_bounds-copy-count : goal.slice_bounds-copy-count
slice_bounds-copy-count c =
    omega (arith, c.requires.0.flagged c.if-e-eq-TOPIC.true, size_topic c.args.e.now c.if-e-eq-TOPIC.true)

pub slice_bounds-copy-start : goal.slice_bounds-copy-start
slice_bounds-copy-start c =
    omega (arith, c.requires.0.flagged c.if-e-eq-TOPIC.true, size_topic c.args.e.now c.if-e-eq-TOPIC.true)

pub copy-requires : goal.copy-requires
copy-requires c =
    omega (arith, c.requires.0.flagged c.if-e-eq-TOPIC.true, size_topic c.args.e.now c.if-e-eq-TOPIC.true)

pub returns-then-e-eq-TOPIC : goal.returns-then-e-eq-TOPIC
returns-then-e-eq-TOPIC c =
    topic_put c.args.e.now c.if-e-eq-TOPIC.true c.args.out.now c.put_head.new.out c.copy.new.dst c.args.at c.requires.0 c.requires.1
    c.put_head.ensures c.copy.ensures

pub copy-requires-2 : goal.copy-requires-2
copy-requires-2 c = omega (arith, size_other c.args.e.now c.if-e-eq-TOPIC.false)

pub returns : goal.returns
returns c =
    let a = c.args in
    other_put a.e.now c.if-e-eq-TOPIC.false a.out.now c.copy-2.new.dst a.at c.copy-2.ensures
