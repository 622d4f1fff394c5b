-- Records by their bytes, and their keys.
use Rattle.std.specs.Prelude.{◌≡◌, [], ℕ, ◌≤◌, length, get_or, drop}
use Rattle.std.proofs.Math.Option.{some}
use Rattle.model.specs.Choice.{given}
use Rattle.model.specs.Number.{Bytes}
use Rattle.model.specs.Order.{Key}
use Rattle.model.specs.Run.{Run, run_of, value}
use Rattle.model.specs.Kind.{kind_of}
use Rattle.model.specs.Key.{rank, key_of}
use Rattle.model.specs.declared.Kind.{Kind}
use Rattle.model.specs.declared.Kind.TheVariants.{Topic, Partition, BrokerRegistration, DeleteTopic, TopicConfig, BrokerConfig, ClientQuota, ProducerIds, UnregisterBroker, KRaftVersion, FeatureLevel, ClientMetricsConfig, FeaturesEpoch, PartitionDirAssignment}
use Rattle.model.specs.declared.Kind.TheVariants.{PartitionOffsetAdvance, GroupConfig, ControllerRegistration, TopicFreeze, BreakGlassProposal, DeleteBreakGlassProposal, PartitionElr, PartitionRecovery, PartitionUpdate, BrokerRegistrationChange, UnregisterController, LogOffset}
use Rattle.laws_records.specs.Fields.{Ascending}

-- a record's kind and fields, by its bytes: all that come after its header
abbrev pub kind_in : Bytes → ℕ
kind_in s = get_or s 0 0

abbrev pub run_in : Bytes → Run
run_in s = run_of (drop 3 s)

-- the rank of a kind number, 0 for what is never stored
unfoldable pub rank_of : ℕ → ℕ
rank_of n = given (kind_of n) 0 rank

unfoldable pub key_in : Bytes → Key
key_in s = given (kind_of (kind_in s)) [] (λ k. key_of k (run_in s))

-- the numbers of a key have their widths, and a quota's entities come first
abbrev pub WidthsFit : Kind → Run → Type 0
WidthsFit BrokerRegistration r = length (value 1 r) ≡ 8
WidthsFit ControllerRegistration r = length (value 1 r) ≡ 8
WidthsFit BrokerConfig r = length (value 1 r) ≡ 8
WidthsFit Partition r = length (value 2 r) ≡ 4
WidthsFit PartitionOffsetAdvance r = length (value 2 r) ≡ 4
WidthsFit PartitionElr r = length (value 2 r) ≡ 4
WidthsFit PartitionRecovery r = length (value 2 r) ≡ 4
WidthsFit ClientQuota r = Ascending 1 r
WidthsFit Topic r = Unit {0}
WidthsFit TopicConfig r = Unit {0}
WidthsFit ProducerIds r = Unit {0}
WidthsFit ClientMetricsConfig r = Unit {0}
WidthsFit GroupConfig r = Unit {0}
WidthsFit TopicFreeze r = Unit {0}
WidthsFit BreakGlassProposal r = Unit {0}
WidthsFit FeatureLevel r = Unit {0}
WidthsFit FeaturesEpoch r = Unit {0}
WidthsFit KRaftVersion r = Unit {0}
WidthsFit DeleteTopic r = Unit {0}
WidthsFit UnregisterBroker r = Unit {0}
WidthsFit PartitionDirAssignment r = Unit {0}
WidthsFit DeleteBreakGlassProposal r = Unit {0}
WidthsFit PartitionUpdate r = Unit {0}
WidthsFit BrokerRegistrationChange r = Unit {0}
WidthsFit UnregisterController r = Unit {0}
WidthsFit LogOffset r = Unit {0}

-- bytes that have a key: of a stored record, or of as much of one as its key needs
pub record Keyed (s : Bytes) : Type 0 where
  pub headed : 3 ≤ length s
  pub kind : Kind
  pub known : kind_of (kind_in s) ≡ some kind
  pub widths : WidthsFit kind (run_in s)
