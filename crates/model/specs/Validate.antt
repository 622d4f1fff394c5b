-- *Validate*: "1, buffer is no image of this port; Read's; then by kind".
use Rattle.std.specs.Prelude.{ℕ, ◌+◌, Bool, true, false, cond, ◌&&◌, ◌||◌, not, List, [], ◌∷◌, leb, ltb, eqb, length}
use Rattle.std.proofs.Math.Option.{Option, none, some}
use Rattle.model.specs.Choice.{or_then, unless, is_some, is_empty, every}
use Rattle.model.specs.Number.{Bytes, number, half, place}
use Rattle.model.specs.Text.{within, to}
use Rattle.model.specs.Order.{same_bytes}
use Rattle.model.specs.Run.{Run, run_of, value, values}
use Rattle.model.specs.Shape.{logged}
use Rattle.model.specs.Record.{Rec, read, on_got}
use Rattle.model.specs.Key.{topic_key, partition_key, node_key, name_key}
use Rattle.model.specs.Map.{get}
use Rattle.model.specs.Contents.{Entry, topic, part, plain, key, partitions}
use Rattle.model.specs.Image.{is_image, contents_of}
use Rattle.model.specs.Move.{run_at, broker_at, at_epoch, stored_next, is_above}
use Rattle.model.specs.Reply.{Reply, refused}
use Rattle.model.specs.declared.Kind.{Kind}
use Rattle.model.specs.declared.Kind.TheVariants.{Topic, Partition, BrokerRegistration, DeleteTopic, TopicConfig, BrokerConfig, ClientQuota, ProducerIds, UnregisterBroker, KRaftVersion, FeatureLevel, ClientMetricsConfig, FeaturesEpoch, PartitionDirAssignment}
use Rattle.model.specs.declared.Kind.TheVariants.{PartitionOffsetAdvance, GroupConfig, ControllerRegistration, TopicFreeze, BreakGlassProposal, DeleteBreakGlassProposal, PartitionElr, PartitionRecovery, PartitionUpdate, BrokerRegistrationChange, UnregisterController, LogOffset}

-- 6 `TopicExists`: "a stored name with another id or replication factor, or a record count not above the stored partitions' number"
unfoldable pub topic_exists : Run → ℕ → Option Entry → ℕ
topic_exists f parts none = 0
topic_exists f parts (some (topic name id count factor named)) =
    unless (same_bytes (value 2 f) id && eqb (number (value 4 f)) factor && ltb (parts + half 4) (place 4 (number (value 3 f)))) 6
topic_exists f parts (some (part r)) = 0
topic_exists f parts (some (plain r)) = 0

-- 7 `UnknownTopic`
abbrev pub unknown_topic : Option Entry → ℕ
unknown_topic e = unless (is_some e) 7

-- 14 consumed, 15 withdrawn, 16 "new approvals do not begin with the stored ones"
unfoldable pub extends : List Bytes → List Bytes → Bool
extends [] new = true
extends (a ∷ old) [] = false
extends (a ∷ old) (b ∷ new) = same_bytes a b && extends old new

abbrev pub proposal_fault : Run → Option Run → ℕ
proposal_fault f none = 0
proposal_fault f (some p) =
    or_then (unless (eqb (number (value 9 p)) 0) 14)
    (or_then (unless (not (eqb (number (value 10 p)) 1)) 15) (unless (extends (values 8 p) (values 8 f)) 16))

-- 02, 7: "all letters, digits, ".", "_" or "-" in ASCII"
abbrev pub is_name_byte : ℕ → Bool
is_name_byte b =
    within (to 0x61 0x7a) b || within (to 0x41 0x5a) b || within (to 0x30 0x39) b || eqb b 0x2e || eqb b 0x5f || eqb b 0x2d

abbrev pub most_name : ℕ
most_name = 249

-- 02, 7: "its name has 1 to 249 bytes, all" of these, "and is neither "." nor "..""
unfoldable pub lawful_name : Bytes → Bool
lawful_name name =
    leb 1 (length name) && leb (length name) most_name && every is_name_byte name && not (same_bytes name (0x2e ∷ [])) &&
    not (same_bytes name (0x2e ∷ 0x2e ∷ []))

-- what the record says by itself: 13, "empty freeze scope"; 24, "unlawful topic name"
unfoldable pub alone : Kind → Run → ℕ
alone TopicFreeze f = unless (not (is_empty (value 1 f))) 13
alone Topic f = unless (lawful_name (value 1 f)) 24
alone Partition f = 0
alone BrokerRegistration f = 0
alone DeleteTopic f = 0
alone TopicConfig f = 0
alone BrokerConfig f = 0
alone ClientQuota f = 0
alone ProducerIds f = 0
alone UnregisterBroker f = 0
alone KRaftVersion f = 0
alone FeatureLevel f = 0
alone ClientMetricsConfig f = 0
alone FeaturesEpoch f = 0
alone PartitionDirAssignment f = 0
alone PartitionOffsetAdvance f = 0
alone GroupConfig f = 0
alone ControllerRegistration f = 0
alone BreakGlassProposal f = 0
alone DeleteBreakGlassProposal f = 0
alone PartitionElr f = 0
alone PartitionRecovery f = 0
alone PartitionUpdate f = 0
alone BrokerRegistrationChange f = 0
alone UnregisterController f = 0
alone LogOffset f = 0

-- what the stored entries say of it
unfoldable pub against : Kind → Run → List Entry → ℕ
against Topic f l = topic_exists f (partitions (value 1 f) l) (get key (topic_key (value 1 f)) l)
against Partition f l = unknown_topic (get key (topic_key (value 1 f)) l)
against PartitionUpdate f l = unknown_topic (get key (topic_key (value 1 (run_of (value 1 f)))) l)
against DeleteTopic f l = unknown_topic (get key (topic_key (value 1 f)) l)
against TopicConfig f l = unknown_topic (get key (topic_key (value 1 f)) l)
against PartitionElr f l = unknown_topic (get key (partition_key Partition (value 1 f) (value 2 f)) l)
against PartitionRecovery f l = unknown_topic (get key (partition_key Partition (value 1 f) (value 2 f)) l)
against BrokerRegistrationChange f l = unless (at_epoch (value 2 f) (broker_at (value 1 f) l)) 8
against UnregisterBroker f l = unless (at_epoch (value 2 f) (broker_at (value 1 f) l)) 9
against UnregisterController f l = unless (is_some (get key (node_key ControllerRegistration (value 1 f)) l)) 10
against ProducerIds f l =
    or_then (unless (is_above 8 (value 3 f) (stored_next l)) 11) (unless (at_epoch (value 2 f) (broker_at (value 1 f) l)) 12)
against BreakGlassProposal f l = proposal_fault f (run_at (name_key BreakGlassProposal (value 1 f)) l)
against BrokerRegistration f l = 0
against BrokerConfig f l = 0
against ClientQuota f l = 0
against KRaftVersion f l = 0
against FeatureLevel f l = 0
against ClientMetricsConfig f l = 0
against FeaturesEpoch f l = 0
against PartitionDirAssignment f l = 0
against PartitionOffsetAdvance f l = 0
against GroupConfig f l = 0
against ControllerRegistration f l = 0
against TopicFreeze f l = 0
against DeleteBreakGlassProposal f l = 0
against LogOffset f l = 0

unfoldable pub judge : Rec → List Entry → ℕ
judge r l = or_then (alone r.kind r.run) (against r.kind r.run l)

unfoldable pub validate_of : Bytes → Bytes → Reply
validate_of image input =
    cond (is_image image) (on_got (read logged input) refused (λ r used. refused (judge r (contents_of image).real))) (refused 1)
