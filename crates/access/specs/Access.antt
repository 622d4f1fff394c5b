-- What the record at the start of some bytes holds, by tag and by name.
use Rattle.std.specs.Prelude.{cond, [], ℕ, suc, ◌+◌, ◌-◌, ◌<◌, leb, eqb, ℤ, pos, negsuc, length, get_or}
use Rattle.std.proofs.Math.Option.{Option, none, some}
use Rattle.std.proofs.Math.Seq.{slice}
use Rattle.model.specs.Choice.{given}
use Rattle.model.specs.Number.{Bytes, number, span, is_negative}
use Rattle.model.specs.Run.{run_of, field}
use Rattle.model.specs.Kind.{kind_number, kind_of}
use Rattle.model.specs.declared.Kind.{Kind}
use Rattle.model.specs.declared.Kind.TheVariants.{Topic, Partition, BrokerRegistration, DeleteTopic, TopicConfig, BrokerConfig, ClientQuota, ProducerIds, UnregisterBroker, KRaftVersion, FeatureLevel, ClientMetricsConfig, FeaturesEpoch, PartitionDirAssignment}
use Rattle.model.specs.declared.Kind.TheVariants.{PartitionOffsetAdvance, GroupConfig, ControllerRegistration, TopicFreeze, BreakGlassProposal, DeleteBreakGlassProposal, PartitionElr, PartitionRecovery, PartitionUpdate, BrokerRegistrationChange, UnregisterController, LogOffset}
use Rattle.quota.specs.Quota.{quota_of}
use Rattle.access.specs.declared.Number.{Number}
use Rattle.access.specs.declared.Number.TheVariants.{Is, Missing}
use Rattle.access.specs.declared.Node.{Node}
use Rattle.access.specs.declared.Node.TheVariants.{Is as node, Missing as no_node}
use Rattle.access.specs.declared.Epoch.{Epoch}
use Rattle.access.specs.declared.Epoch.TheVariants.{Is as epoch, Missing as no_epoch}
use Rattle.access.specs.declared.QuotaValue.{QuotaValue}
use Rattle.access.specs.declared.QuotaValue.TheVariants.{Is as quota_value, Missing as no_quota}

-- where the record ends by its header; past the input where header or body is cut
abbrev pub record_end : Bytes → ℕ
record_end s = 3 + number (slice 1 3 s)

-- the record's body, nothing where it is cut
unfoldable pub body_in : Bytes → Bytes
body_in s = cond (leb (record_end s) (length s)) (slice 3 (record_end s) s) []

-- the first field of a tag
unfoldable pub record_field : Bytes → ℕ → Option Bytes
record_field s tag = field tag (run_of (body_in s))

-- the number of a value of a width
abbrev pub width_number : ℕ → Bytes → Option ℕ
width_number width v = cond (eqb (length v) width) (some (number v)) none

unfoldable pub field_number : Bytes → ℕ → ℕ → Option ℕ
field_number s tag width = given (record_field s tag) none (width_number width)

-- the same of a record of a kind
unfoldable pub number_in : Bytes → ℕ → ℕ → ℕ → Option ℕ
number_in s kind tag width = cond (eqb (get_or s 0 0) kind) (field_number s tag width) none

-- the signed number of the same bytes, in two's complement
abbrev pub signed : ℕ → ℕ → ℤ
signed width n = cond (is_negative width n) (negsuc (span width - suc n)) (pos n)

-- The tag of a kind's node, 0 for a kind that has none. Every field of the table that is a u64 is a node: leader, node_id, broker_id, replica.
unfoldable pub node_tag : Kind → ℕ
node_tag Topic = 0
node_tag Partition = 3
node_tag BrokerRegistration = 1
node_tag DeleteTopic = 0
node_tag TopicConfig = 0
node_tag BrokerConfig = 1
node_tag ClientQuota = 0
node_tag ProducerIds = 1
node_tag UnregisterBroker = 1
node_tag KRaftVersion = 0
node_tag FeatureLevel = 0
node_tag ClientMetricsConfig = 0
node_tag FeaturesEpoch = 0
node_tag PartitionDirAssignment = 3
node_tag PartitionOffsetAdvance = 0
node_tag GroupConfig = 0
node_tag ControllerRegistration = 1
node_tag TopicFreeze = 0
node_tag BreakGlassProposal = 0
node_tag DeleteBreakGlassProposal = 0
node_tag PartitionElr = 0
node_tag PartitionRecovery = 0
node_tag PartitionUpdate = 0
node_tag BrokerRegistrationChange = 1
node_tag UnregisterController = 1
node_tag LogOffset = 0

unfoldable pub kind_tag : ℕ → ℕ
kind_tag n = given (kind_of n) 0 node_tag

-- a node, in the field of a tag
abbrev pub node_at : Bytes → ℕ → Node
node_at s tag = cond (eqb tag 0) no_node (given (field_number s tag 8) no_node (λ n. node (record { 0 = n })))

-- a record's node, by its kind
unfoldable pub node_in : Bytes → Node
node_in s = node_at s (kind_tag (get_or s 0 0))

-- a Partition's leader epoch
unfoldable pub epoch_in : Bytes → Epoch
epoch_in s = given (number_in s (kind_number Partition) 6 4) no_epoch (λ n. epoch (record { 0 = signed 4 n }))

-- a ClientQuota's value
unfoldable pub quota_in : Bytes → QuotaValue
quota_in s = given (number_in s (kind_number ClientQuota) 3 8) no_quota (λ n. quota_value (quota_of n))

-- what an answer of `field_number` says
unfoldable pub found_number : Number → Option ℕ
found_number (Is n) = some n
found_number Missing = none

unfoldable pub Below : ℕ → Number → Type 0
Below bound (Is n) = n < bound
Below bound Missing = Unit {0}
