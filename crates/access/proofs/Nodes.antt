-- The tags of nodes: the code's constant is the definition's, and the table's row at each is a required number of eight bytes.
use mathlib.Core.Path.{◌≡◌, refl, sym}
use mathlib.Core.Bool.{cond}
use mathlib.Core.List.{List, [], ◌∷◌, map}
use mathlib.Core.Option.{none, some}
use Prim.Native.Nat.{ℕ, zero, suc, ◌≤◌}
use native.Mathlib.Omega.{arith}
use lib.Dec.{eqb}
use lib.ListN.{get_or, get_elem?}
use Rattle.model.specs.Choice.{given}
use Rattle.model.specs.Kind.{kind_of, kinds}
use Rattle.model.specs.Shape.{Row, record_of, fixed, required, rows_of, row_at}
use Rattle.model.specs.declared.Kind.{Kind}
use Rattle.model.specs.declared.Kind.TheVariants.{Topic, Partition, BrokerRegistration, DeleteTopic, TopicConfig, BrokerConfig, ClientQuota, ProducerIds, UnregisterBroker, KRaftVersion, FeatureLevel, ClientMetricsConfig, FeaturesEpoch, PartitionDirAssignment}
use Rattle.model.specs.declared.Kind.TheVariants.{PartitionOffsetAdvance, GroupConfig, ControllerRegistration, TopicFreeze, BreakGlassProposal, DeleteBreakGlassProposal, PartitionElr, PartitionRecovery, PartitionUpdate, BrokerRegistrationChange, UnregisterController, LogOffset}
use Rattle.laws.specs.Lists.{get_elem?_past}
use Rattle.access.specs.Access.{node_tag, kind_tag}

given-map : (l : List Kind) (n : ℕ) → given (get_elem? l n) 0 node_tag ≡ get_or (map node_tag l) n 0
given-map [] n = refl
given-map (k ∷ l) zero = refl
given-map (k ∷ l) (suc n) = given-map l n

-- the tags as the code has them
abbrev pub tags : List ℕ
tags = 0 ∷ 0 ∷ 3 ∷ 1 ∷ 0 ∷ 0 ∷ 1 ∷ 0 ∷ 1 ∷ 1 ∷ 0 ∷ 0 ∷ 0 ∷ 0 ∷ 3 ∷ 0 ∷ 0 ∷ 1 ∷ 0 ∷ 0 ∷ 0 ∷ 0 ∷ 0 ∷ 0 ∷ 1 ∷ 1 ∷ 0 ∷ []

pub tags_are : (n : ℕ) → get_or tags n 0 ≡ kind_tag n
unfolding kind_tag kind_of kinds node_tag
tags_are zero = refl
tags_are (suc n) = sym (given-map kinds n)

pub tag_past : (n : ℕ) → 27 ≤ n → 0 ≡ kind_tag n
unfolding kind_tag kind_of kinds
tag_past zero h = refl
tag_past (suc n) h = rw (get_elem?_past kinds n (omega arith))

-- by the table: where a kind has a node, the field is there, and has eight bytes
pub node_row : (k : Kind) → row_at (rows_of (record_of k)) (node_tag k) ≡ cond (eqb (node_tag k) 0) none (some (record { form = fixed 8; presence = required }))
unfolding node_tag rows_of
node_row Topic = refl
node_row Partition = refl
node_row BrokerRegistration = refl
node_row DeleteTopic = refl
node_row TopicConfig = refl
node_row BrokerConfig = refl
node_row ClientQuota = refl
node_row ProducerIds = refl
node_row UnregisterBroker = refl
node_row KRaftVersion = refl
node_row FeatureLevel = refl
node_row ClientMetricsConfig = refl
node_row FeaturesEpoch = refl
node_row PartitionDirAssignment = refl
node_row PartitionOffsetAdvance = refl
node_row GroupConfig = refl
node_row ControllerRegistration = refl
node_row TopicFreeze = refl
node_row BreakGlassProposal = refl
node_row DeleteBreakGlassProposal = refl
node_row PartitionElr = refl
node_row PartitionRecovery = refl
node_row PartitionUpdate = refl
node_row BrokerRegistrationChange = refl
node_row UnregisterController = refl
node_row LogOffset = refl
