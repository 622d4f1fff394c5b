-- `kafka_read::read_message` meets its contract, a kind after the other.
use native.Mathlib.Omega.{arith}
use Rattle.kafka_read.proofs.Taken.{topic_named_lem, level-named, by_topic, by_level, by_producers, by_unregistration}
use Rattle.kafka_read.proofs.read_message.Goals as goal

pub read_named-requires : goal.read_named-requires
read_named-requires c = (c.requires, omega arith, omega arith, topic_named_lem)

pub returns-then-kind-eq-TOPIC : goal.returns-then-kind-eq-TOPIC
returns-then-kind-eq-TOPIC c = let a = c.args in by_topic a.s.now a.out.now a.kind a.at _ _ c.if-kind-eq-TOPIC.true c.read_named.ensures

pub read_named-requires-then-kind-eq-FEATURE_LEVEL : goal.read_named-requires-then-kind-eq-FEATURE_LEVEL
read_named-requires-then-kind-eq-FEATURE_LEVEL c = (c.requires, omega arith, omega arith, level-named)

pub returns-then-kind-eq-FEATURE_LEVEL : goal.returns-then-kind-eq-FEATURE_LEVEL
returns-then-kind-eq-FEATURE_LEVEL c = let a = c.args in by_level a.s.now a.out.now a.kind a.at _ _ c.if-kind-eq-FEATURE_LEVEL.true c.read_named-then-kind-eq-FEATURE_LEVEL.ensures

pub returns-then-kind-eq-PRODUCER_IDS : goal.returns-then-kind-eq-PRODUCER_IDS
returns-then-kind-eq-PRODUCER_IDS c = let a = c.args in by_producers a.s.now a.out.now a.kind a.at _ _ c.if-kind-eq-PRODUCER_IDS.true c.read_producers.ensures

pub returns : goal.returns
returns c =
    let a = c.args in
    by_unregistration a.s.now a.out.now a.kind a.at _ _ c.if-kind-eq-TOPIC.false c.if-kind-eq-FEATURE_LEVEL.false c.if-kind-eq-PRODUCER_IDS.false c.read_unregistration.ensures
