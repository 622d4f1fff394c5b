-- What tells the entries of a group apart, by form: 0 nothing, 1 the field of tag 1, 2 tags 1 and 2, 3 tags 2 and 1, 4 tag 1 and the partition's
-- number, 5 the entities and tag 2.
use Rattle.std.specs.Prelude.{◌≡◌, cond, eqb, length}
use Prim.Native.Nat.{ℕ, Ordering}
use Rattle.model.specs.Choice.{given}
use Rattle.model.specs.Order.{compare_bytes, then_by}
use Rattle.model.specs.Run.{Run, value, values}
use Rattle.model.specs.Kind.{kind_of}
use Rattle.model.specs.Key.{partition_part}
use Rattle.model.specs.declared.Kind.{Kind}
use Rattle.model.specs.declared.Kind.TheVariants.{Topic, Partition, BrokerRegistration, DeleteTopic, TopicConfig, BrokerConfig, ClientQuota, ProducerIds, UnregisterBroker, KRaftVersion, FeatureLevel, ClientMetricsConfig, FeaturesEpoch, PartitionDirAssignment}
use Rattle.model.specs.declared.Kind.TheVariants.{PartitionOffsetAdvance, GroupConfig, ControllerRegistration, TopicFreeze, BreakGlassProposal, DeleteBreakGlassProposal, PartitionElr, PartitionRecovery, PartitionUpdate, BrokerRegistrationChange, UnregisterController, LogOffset}
use Rattle.laws_records.specs.Fields.{Ascending}
use Rattle.keys.specs.Entities.{compare_entities}

unfoldable pub key_form : Kind → ℕ
key_form Topic = 1
key_form Partition = 4
key_form BrokerRegistration = 1
key_form DeleteTopic = 0
key_form TopicConfig = 1
key_form BrokerConfig = 2
key_form ClientQuota = 5
key_form ProducerIds = 0
key_form UnregisterBroker = 0
key_form KRaftVersion = 0
key_form FeatureLevel = 1
key_form ClientMetricsConfig = 1
key_form FeaturesEpoch = 0
key_form PartitionDirAssignment = 0
key_form PartitionOffsetAdvance = 4
key_form GroupConfig = 1
key_form ControllerRegistration = 1
key_form TopicFreeze = 3
key_form BreakGlassProposal = 1
key_form DeleteBreakGlassProposal = 0
key_form PartitionElr = 4
key_form PartitionRecovery = 4
key_form PartitionUpdate = 0
key_form BrokerRegistrationChange = 0
key_form UnregisterController = 0
key_form LogOffset = 0

unfoldable pub form_of : ℕ → ℕ
form_of n = given (kind_of n) 0 key_form

abbrev fields : ℕ → Run → Run → Ordering
fields tag r q = compare_bytes (value tag r) (value tag q)

-- the order of two records by a form
abbrev pub by_form : ℕ → Run → Run → Ordering
by_form form r q =
    cond (eqb form 1) (fields 1 r q)
    (cond (eqb form 2) (then_by (fields 1 r q) (fields 2 r q))
    (cond (eqb form 3) (then_by (fields 2 r q) (fields 1 r q))
    (cond (eqb form 4) (then_by (fields 1 r q) (compare_bytes (partition_part (value 2 r)) (partition_part (value 2 q))))
    (cond (eqb form 5) (then_by (compare_entities (values 1 r) (values 1 q)) (fields 2 r q)) Ordering.eq))))

-- what a form asks of a record: a partition's number has four bytes, a quota's entities come first
abbrev pub FormFits : ℕ → Run → Type 0
FormFits form r = (form ≡ 4 → length (value 2 r) ≡ 4) × (form ≡ 5 → Ascending 1 r)
