-- The kinds and their numbers: 01, "Kinds: 1 Topic, 2 Partition, .."; 02, 5: 26, the log offset that a snapshot starts with.
use Rattle.std.specs.Prelude.{ℕ, zero, suc, List, [], ◌∷◌}
use Rattle.std.proofs.Math.Option.{Option, none}
use Rattle.std.proofs.Math.ListN.{get_elem?}
use Rattle.model.specs.declared.Kind.{Kind}
use Rattle.model.specs.declared.Kind.TheVariants.{Topic, Partition, BrokerRegistration, DeleteTopic, TopicConfig, BrokerConfig, ClientQuota, ProducerIds, UnregisterBroker, KRaftVersion, FeatureLevel, ClientMetricsConfig, FeaturesEpoch, PartitionDirAssignment}
use Rattle.model.specs.declared.Kind.TheVariants.{PartitionOffsetAdvance, GroupConfig, ControllerRegistration, TopicFreeze, BreakGlassProposal, DeleteBreakGlassProposal, PartitionElr, PartitionRecovery, PartitionUpdate, BrokerRegistrationChange, UnregisterController, LogOffset}

-- in the order of their numbers, the first being 1
unfoldable pub kinds : List Kind
kinds =
    Topic ∷ Partition ∷ BrokerRegistration ∷ DeleteTopic ∷ TopicConfig ∷ BrokerConfig ∷ ClientQuota ∷ ProducerIds ∷ UnregisterBroker ∷
    KRaftVersion ∷ FeatureLevel ∷ ClientMetricsConfig ∷ FeaturesEpoch ∷ PartitionDirAssignment ∷ PartitionOffsetAdvance ∷ GroupConfig ∷
    ControllerRegistration ∷ TopicFreeze ∷ BreakGlassProposal ∷ DeleteBreakGlassProposal ∷ PartitionElr ∷ PartitionRecovery ∷
    PartitionUpdate ∷ BrokerRegistrationChange ∷ UnregisterController ∷ LogOffset ∷ []

-- the kind of a number, 0 and all above 26 being none
unfoldable pub kind_of : ℕ → Option Kind
unfolding kinds
kind_of zero = none
kind_of (suc n) = get_elem? kinds n

unfoldable pub kind_number : Kind → ℕ
kind_number Topic = 1
kind_number Partition = 2
kind_number BrokerRegistration = 3
kind_number DeleteTopic = 4
kind_number TopicConfig = 5
kind_number BrokerConfig = 6
kind_number ClientQuota = 7
kind_number ProducerIds = 8
kind_number UnregisterBroker = 9
kind_number KRaftVersion = 10
kind_number FeatureLevel = 11
kind_number ClientMetricsConfig = 12
kind_number FeaturesEpoch = 13
kind_number PartitionDirAssignment = 14
kind_number PartitionOffsetAdvance = 15
kind_number GroupConfig = 16
kind_number ControllerRegistration = 17
kind_number TopicFreeze = 18
kind_number BreakGlassProposal = 19
kind_number DeleteBreakGlassProposal = 20
kind_number PartitionElr = 21
kind_number PartitionRecovery = 22
kind_number PartitionUpdate = 23
kind_number BrokerRegistrationChange = 24
kind_number UnregisterController = 25
kind_number LogOffset = 26
