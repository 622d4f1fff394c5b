-- Keys and their order: 01, "A snapshot follows `to_records`' groups, each ascending by key (strings and ids by bytes, numbers by value;
-- quota entities element by element, type then name, an absent name first, a list before its longer continuations; literal before prefixed
-- scopes)".
use Rattle.std.specs.Prelude.{ℕ, Bool, true, false, cond, ◌&&◌, List, [], ◌∷◌, leb}
use Rattle.std.proofs.Math.Option.{Option, none, some}
use Rattle.model.specs.Number.{Bytes, number, place}
use Rattle.model.specs.Order.{Key, same_bytes}
use Rattle.model.specs.Run.{Run, run_of, field, value, values}
use Rattle.model.specs.declared.Kind.{Kind}
use Rattle.model.specs.declared.Kind.TheVariants.{Topic, Partition, BrokerRegistration, DeleteTopic, TopicConfig, BrokerConfig, ClientQuota, ProducerIds, UnregisterBroker, KRaftVersion, FeatureLevel, ClientMetricsConfig, FeaturesEpoch, PartitionDirAssignment}
use Rattle.model.specs.declared.Kind.TheVariants.{PartitionOffsetAdvance, GroupConfig, ControllerRegistration, TopicFreeze, BreakGlassProposal, DeleteBreakGlassProposal, PartitionElr, PartitionRecovery, PartitionUpdate, BrokerRegistrationChange, UnregisterController, LogOffset}

-- a group's place in a snapshot, in the order of `to_records`' code; 0 for what is in no group
unfoldable pub rank : Kind → ℕ
rank BrokerRegistration = 1
rank ControllerRegistration = 2
rank BrokerConfig = 3
rank Topic = 4
rank Partition = 5
rank PartitionOffsetAdvance = 6
rank PartitionElr = 7
rank PartitionRecovery = 8
rank TopicConfig = 9
rank ClientQuota = 10
rank ProducerIds = 11
rank ClientMetricsConfig = 12
rank GroupConfig = 13
rank TopicFreeze = 14
rank BreakGlassProposal = 15
rank FeatureLevel = 16
rank FeaturesEpoch = 17
rank KRaftVersion = 18
rank DeleteTopic = 0
rank UnregisterBroker = 0
rank PartitionDirAssignment = 0
rank DeleteBreakGlassProposal = 0
rank PartitionUpdate = 0
rank BrokerRegistrationChange = 0
rank UnregisterController = 0
rank LogOffset = 0

abbrev pub rank_part : Kind → Bytes
rank_part k = rank k ∷ []

-- parts: an unsigned number, a partition's number (signed), an entity's name
abbrev pub number_part : Bytes → Bytes
number_part v = number v ∷ []

abbrev pub partition_part : Bytes → Bytes
partition_part v = place 4 (number v) ∷ []

abbrev pub name_part : Option Bytes → Bytes
name_part none = 0 ∷ []
name_part (some n) = 1 ∷ n

-- the entities of a quota, each the bytes of its run, and what comes after them
unfoldable pub entities_key : List Bytes → Key → Key
entities_key [] k = [] ∷ k
entities_key (e ∷ es) k = (1 ∷ value 1 (run_of e)) ∷ name_part (field 2 (run_of e)) ∷ entities_key es k

-- what tells entries of one group apart
unfoldable pub subject : Kind → Run → Key
subject BrokerRegistration r = number_part (value 1 r) ∷ []
subject ControllerRegistration r = number_part (value 1 r) ∷ []
subject BrokerConfig r = number_part (value 1 r) ∷ value 2 r ∷ []
subject Topic r = value 1 r ∷ []
subject Partition r = value 1 r ∷ partition_part (value 2 r) ∷ []
subject PartitionOffsetAdvance r = value 1 r ∷ partition_part (value 2 r) ∷ []
subject PartitionElr r = value 1 r ∷ partition_part (value 2 r) ∷ []
subject PartitionRecovery r = value 1 r ∷ partition_part (value 2 r) ∷ []
subject TopicConfig r = value 1 r ∷ []
subject ClientQuota r = entities_key (values 1 r) (value 2 r ∷ [])
subject ProducerIds r = []
subject ClientMetricsConfig r = value 1 r ∷ []
subject GroupConfig r = value 1 r ∷ []
subject TopicFreeze r = value 2 r ∷ value 1 r ∷ []
subject BreakGlassProposal r = value 1 r ∷ []
subject FeatureLevel r = value 1 r ∷ []
subject FeaturesEpoch r = []
subject KRaftVersion r = []
subject DeleteTopic r = []
subject UnregisterBroker r = []
subject PartitionDirAssignment r = []
subject DeleteBreakGlassProposal r = []
subject PartitionUpdate r = []
subject BrokerRegistrationChange r = []
subject UnregisterController r = []
subject LogOffset r = []

unfoldable pub key_of : Kind → Run → Key
key_of k r = rank_part k ∷ subject k r

-- keys by what they name
abbrev pub topic_key : Bytes → Key
topic_key name = rank_part Topic ∷ name ∷ []

-- a partition's entry of a group (the partition itself, its offset, ELR or recovery), by topic and number
abbrev pub partition_key : Kind → Bytes → Bytes → Key
partition_key group name number = rank_part group ∷ name ∷ partition_part number ∷ []

-- an entry by a node, an id or a name alone
abbrev pub node_key : Kind → Bytes → Key
node_key group node = rank_part group ∷ number_part node ∷ []

abbrev pub name_key : Kind → Bytes → Key
name_key group name = rank_part group ∷ name ∷ []

abbrev pub producer_key : Key
producer_key = rank_part ProducerIds ∷ []

abbrev pub config_key : Bytes → Bytes → Key
config_key node name = rank_part BrokerConfig ∷ number_part node ∷ name ∷ []

abbrev pub freeze_key : Bytes → Bytes → Key
freeze_key pattern scope = rank_part TopicFreeze ∷ pattern ∷ scope ∷ []

-- what a key says of its entry
unfoldable pub key_rank : Key → ℕ
key_rank [] = 0
key_rank ([] ∷ k) = 0
key_rank ((n ∷ p) ∷ k) = n

unfoldable pub key_name : Key → Bytes
key_name [] = []
key_name (p ∷ []) = []
key_name (p ∷ q ∷ k) = q

-- the topic that an entry stands under: topics, partitions, offsets, ELR, recovery and topic configs have one
unfoldable pub topic_of : Key → Option Bytes
topic_of k = cond (leb (rank Topic) (key_rank k) && leb (key_rank k) (rank TopicConfig)) (some (key_name k)) none

-- a key without its last part: of a broker config its node, of a quota its entities
unfoldable pub group_key : Key → Key
group_key [] = []
group_key (p ∷ []) = []
group_key (p ∷ q ∷ k) = p ∷ group_key (q ∷ k)

unfoldable pub starts_with : Key → Key → Bool
starts_with [] k = true
starts_with (p ∷ g) [] = false
starts_with (p ∷ g) (q ∷ k) = same_bytes p q && starts_with g k

-- a freeze's scope
unfoldable pub key_scope : Key → Bytes
key_scope [] = []
key_scope (p ∷ []) = []
key_scope (p ∷ q ∷ []) = []
key_scope (p ∷ q ∷ r ∷ k) = r
