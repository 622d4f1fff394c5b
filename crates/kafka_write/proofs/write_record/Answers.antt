-- `kafka_write::write_record` meets its contract, a kind after the other.
use Rattle.keys.specs.Keys.{kind_in, run_in}
use Rattle.kafka_write.proofs.Sent.{by_topic, by_level, by_producers, by_unregistration, by_none}
use Rattle.kafka_write.proofs.write_record.Goals as goal

pub write_named-requires : goal.write_named-requires
write_named-requires c = (c.requires.headed, c.requires.topic c.if-kind-eq-TOPIC.true)

pub returns-then-kind-eq-TOPIC : goal.returns-then-kind-eq-TOPIC
returns-then-kind-eq-TOPIC c = let a = c.args in by_topic (kind_in a.s.now) (run_in a.s.now) a.out.now c.if-kind-eq-TOPIC.true c.write_named.ensures

pub write_named-requires-then-kind-eq-FEATURE_LEVEL : goal.write_named-requires-then-kind-eq-FEATURE_LEVEL
write_named-requires-then-kind-eq-FEATURE_LEVEL c = (c.requires.headed, c.requires.level c.if-kind-eq-FEATURE_LEVEL.true)

pub returns-then-kind-eq-FEATURE_LEVEL : goal.returns-then-kind-eq-FEATURE_LEVEL
returns-then-kind-eq-FEATURE_LEVEL c = let a = c.args in by_level (kind_in a.s.now) (run_in a.s.now) a.out.now c.if-kind-eq-FEATURE_LEVEL.true c.write_named-then-kind-eq-FEATURE_LEVEL.ensures

pub write_broker-requires : goal.write_broker-requires
write_broker-requires c = (c.requires.headed, c.requires.producers c.if-kind-eq-PRODUCER_IDS.true)

pub returns-then-kind-eq-PRODUCER_IDS : goal.returns-then-kind-eq-PRODUCER_IDS
returns-then-kind-eq-PRODUCER_IDS c = let a = c.args in by_producers (kind_in a.s.now) (run_in a.s.now) a.out.now c.if-kind-eq-PRODUCER_IDS.true c.write_broker.ensures

pub write_broker-requires-then-kind-eq-UNREGISTER_BROKER : goal.write_broker-requires-then-kind-eq-UNREGISTER_BROKER
write_broker-requires-then-kind-eq-UNREGISTER_BROKER c = (c.requires.headed, c.requires.unregistration c.if-kind-eq-UNREGISTER_BROKER.true)

pub returns-then-kind-eq-UNREGISTER_BROKER : goal.returns-then-kind-eq-UNREGISTER_BROKER
returns-then-kind-eq-UNREGISTER_BROKER c = let a = c.args in by_unregistration (kind_in a.s.now) (run_in a.s.now) a.out.now c.if-kind-eq-UNREGISTER_BROKER.true c.write_broker-then-kind-eq-UNREGISTER_BROKER.ensures

pub returns : goal.returns
returns c = let a = c.args in by_none (kind_in a.s.now) (run_in a.s.now) a.out.now c.if-kind-eq-TOPIC.false c.if-kind-eq-FEATURE_LEVEL.false c.if-kind-eq-PRODUCER_IDS.false c.if-kind-eq-UNREGISTER_BROKER.false
