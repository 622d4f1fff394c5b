-- A group's rank tells its kind.
use Rattle.std.specs.Prelude.{◌≡◌, refl, List, [], ◌∷◌, ℕ, zero, suc, ◌<◌}
use Rattle.std.proofs.Common.{ap, arith}
use Rattle.std.proofs.Math.Option.{Option, none, some}
use Rattle.std.proofs.Math.ListN.{get_elem?}
use Rattle.model.specs.Run.{Run}
use Rattle.model.specs.Key.{rank, key_rank, key_of}
use Rattle.model.specs.declared.Kind.{Kind}
use Rattle.model.specs.declared.Kind.TheVariants.{Topic, Partition, BrokerRegistration, DeleteTopic, TopicConfig, BrokerConfig, ClientQuota, ProducerIds, UnregisterBroker, KRaftVersion, FeatureLevel, ClientMetricsConfig, FeaturesEpoch}
use Rattle.model.specs.declared.Kind.TheVariants.{PartitionDirAssignment, PartitionOffsetAdvance, GroupConfig, ControllerRegistration, TopicFreeze, BreakGlassProposal, DeleteBreakGlassProposal, PartitionElr, PartitionRecovery, PartitionUpdate, BrokerRegistrationChange, UnregisterController, LogOffset}

-- the kinds that have a rank, in its order, the first being 1
ranked : List Kind
ranked =
    BrokerRegistration ∷ ControllerRegistration ∷ BrokerConfig ∷ Topic ∷ Partition ∷ PartitionOffsetAdvance ∷ PartitionElr ∷
    PartitionRecovery ∷ TopicConfig ∷ ClientQuota ∷ ProducerIds ∷ ClientMetricsConfig ∷ GroupConfig ∷ TopicFreeze ∷ BreakGlassProposal ∷
    FeatureLevel ∷ FeaturesEpoch ∷ KRaftVersion ∷ []

kind_at : ℕ → Option Kind
kind_at zero = none
kind_at (suc n) = get_elem? ranked n

kind_rank : (k : Kind) → 0 < rank k → kind_at (rank k) ≡ some k
unfolding kind_at ranked rank
kind_rank LogOffset h = elim h [ ]
kind_rank BrokerRegistration h = refl
kind_rank ControllerRegistration h = refl
kind_rank BrokerConfig h = refl
kind_rank Topic h = refl
kind_rank Partition h = refl
kind_rank PartitionOffsetAdvance h = refl
kind_rank PartitionElr h = refl
kind_rank PartitionRecovery h = refl
kind_rank TopicConfig h = refl
kind_rank ClientQuota h = refl
kind_rank ProducerIds h = refl
kind_rank ClientMetricsConfig h = refl
kind_rank GroupConfig h = refl
kind_rank TopicFreeze h = refl
kind_rank BreakGlassProposal h = refl
kind_rank FeatureLevel h = refl
kind_rank FeaturesEpoch h = refl
kind_rank KRaftVersion h = refl
kind_rank DeleteTopic h = absurd (omega arith)
kind_rank UnregisterBroker h = absurd (omega arith)
kind_rank PartitionDirAssignment h = absurd (omega arith)
kind_rank DeleteBreakGlassProposal h = absurd (omega arith)
kind_rank PartitionUpdate h = absurd (omega arith)
kind_rank BrokerRegistrationChange h = absurd (omega arith)
kind_rank UnregisterController h = absurd (omega arith)

pub rank_injective : (a b : Kind) → rank a ≡ rank b → 0 < rank b → a ≡ b
rank_injective a b e h = let p = kind_rank a (rw e h) in let q = kind_rank b h in let f = ap kind_at e in cc

pub key_rank_lem : (k : Kind) (r : Run) → key_rank (key_of k r) ≡ rank k
unfolding key_rank key_of
key_rank_lem k r = refl
