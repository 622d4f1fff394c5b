-- Which entries stand under a topic: those of six groups, by the name that their keys begin with.
use mathlib.Core.Path.{◌≡◌, refl, ap, ◌∙◌}
use mathlib.Core.Bool.{Bool, true, not}
use mathlib.Core.Option.{none, some}
use Prim.Native.Nat.{ℕ, ◌≤◌, ◌<◌}
use native.Mathlib.Omega.{arith}
use borrow.Author.Tests.{le-leb, lt-leb}
use Rattle.model.specs.Number.{Bytes}
use Rattle.model.specs.Order.{same_bytes}
use Rattle.model.specs.Run.{Run, value}
use Rattle.model.specs.Key.{rank, subject, key_of, key_rank, key_name, topic_of}
use Rattle.model.specs.Move.{apart_from}
use Rattle.model.specs.declared.Kind.{Kind}
use Rattle.model.specs.declared.Kind.TheVariants.{Topic, Partition, BrokerRegistration, DeleteTopic, TopicConfig, BrokerConfig, ClientQuota, ProducerIds, UnregisterBroker, KRaftVersion, FeatureLevel, ClientMetricsConfig, FeaturesEpoch, PartitionDirAssignment}
use Rattle.model.specs.declared.Kind.TheVariants.{PartitionOffsetAdvance, GroupConfig, ControllerRegistration, TopicFreeze, BreakGlassProposal, DeleteBreakGlassProposal, PartitionElr, PartitionRecovery, PartitionUpdate, BrokerRegistrationChange, UnregisterController, LogOffset}
use Rattle.keys.specs.Keys.{kind_in, run_in, rank_of, key_in, Keyed}

-- 1. By kind

name_of : (k : Kind) (r : Run) → 4 ≤ rank k → rank k ≤ 9 → key_name (key_of k r) ≡ value 1 r
unfolding rank key_name key_of subject
name_of Topic r low high = refl
name_of Partition r low high = refl
name_of PartitionOffsetAdvance r low high = refl
name_of PartitionElr r low high = refl
name_of PartitionRecovery r low high = refl
name_of TopicConfig r low high = refl
name_of BrokerRegistration r low high = absurd (omega arith)
name_of ControllerRegistration r low high = absurd (omega arith)
name_of BrokerConfig r low high = absurd (omega arith)
name_of ClientQuota r low high = absurd (omega arith)
name_of ProducerIds r low high = absurd (omega arith)
name_of ClientMetricsConfig r low high = absurd (omega arith)
name_of GroupConfig r low high = absurd (omega arith)
name_of TopicFreeze r low high = absurd (omega arith)
name_of BreakGlassProposal r low high = absurd (omega arith)
name_of FeatureLevel r low high = absurd (omega arith)
name_of FeaturesEpoch r low high = absurd (omega arith)
name_of KRaftVersion r low high = absurd (omega arith)
name_of DeleteTopic r low high = absurd (omega arith)
name_of UnregisterBroker r low high = absurd (omega arith)
name_of PartitionDirAssignment r low high = absurd (omega arith)
name_of DeleteBreakGlassProposal r low high = absurd (omega arith)
name_of PartitionUpdate r low high = absurd (omega arith)
name_of BrokerRegistrationChange r low high = absurd (omega arith)
name_of UnregisterController r low high = absurd (omega arith)
name_of LogOffset r low high = absurd (omega arith)

module _ (k : Kind) (r : Run) where
  low_topic : rank k < 4 → topic_of (key_of k r) ≡ none
  unfolding topic_of key_rank key_of rank
  low_topic h = rw (lt-leb 4 (rank k) h)

  high_topic : 9 < rank k → topic_of (key_of k r) ≡ none
  unfolding topic_of key_rank key_of rank
  high_topic h = rw (le-leb 4 (rank k) (omega arith), lt-leb (rank k) 9 h)

  named_topic : 4 ≤ rank k → rank k ≤ 9 → topic_of (key_of k r) ≡ some (value 1 r)
  unfolding topic_of key_rank key_of rank
  named_topic low high = rw (le-leb 4 (rank k) low, le-leb (rank k) 9 high, name_of k r low high)

-- 2. By an entry's bytes

module _ (s : Bytes) (keyed : Keyed s) (n : ℕ) (e : n ≡ rank_of (kind_in s)) where
  key_of_lem : key_in s ≡ key_of keyed.kind (run_in s)
  unfolding key_in
  key_of_lem = rw keyed.known

  rank_is : n ≡ rank keyed.kind
  unfolding rank_of
  rank_is = e ∙ rw keyed.known

  pub topic_low : n < 4 → topic_of (key_in s) ≡ none
  topic_low h = rw key_of_lem (low_topic keyed.kind (run_in s) (omega (arith, rank_is)))

  pub topic_high : 9 < n → topic_of (key_in s) ≡ none
  topic_high h = rw key_of_lem (high_topic keyed.kind (run_in s) (omega (arith, rank_is)))

  pub topic_named_lem : 4 ≤ n → n ≤ 9 → topic_of (key_in s) ≡ some (value 1 (run_in s))
  topic_named_lem low high = rw key_of_lem (named_topic keyed.kind (run_in s) (omega (arith, rank_is)) (omega (arith, rank_is)))

  -- 3. Apart from a topic

  module _ (name : Bytes) where
    pub apart_low : n < 4 → true ≡ apart_from name (key_in s)
    unfolding apart_from
    apart_low h = rw (topic_low h)

    pub apart_high : 9 < n → true ≡ apart_from name (key_in s)
    unfolding apart_from
    apart_high h = rw (topic_high h)

    pub apart_named : 4 ≤ n → n ≤ 9 → (v : Bytes) (b : Bool) → v ≡ value 1 (run_in s) → b ≡ same_bytes v name → not b ≡ apart_from name (key_in s)
    unfolding apart_from
    apart_named low high v b is same = rw (topic_named_lem low high) (ap not (same ∙ ap (λ x. same_bytes x name) is))
