-- What a record asks for among the entries, and the key of it.
use mathlib.Core.Path.{◌≡◌, refl, ap, ap₂, ◌∙◌}
use mathlib.Core.Bool.{Bool}
use mathlib.Core.List.{List, []}
use Prim.Native.Nat.{ℕ, ◌≤◌}
use native.Mathlib.Omega.{arith}
use lib.ListN.{length}
use Rattle.model.specs.Choice.{unless, is_some}
use Rattle.model.specs.Number.{Bytes}
use Rattle.model.specs.Order.{Key}
use Rattle.model.specs.Run.{field}
use Rattle.model.specs.Kind.{kind_of, kinds}
use Rattle.model.specs.Key.{key_of, subject, topic_key, partition_key, node_key, name_key, producer_key}
use Rattle.model.specs.Map.{get}
use Rattle.model.specs.Contents.{Entry, key}
use Rattle.model.specs.Validate.{unknown_topic}
use Rattle.model.specs.declared.Kind.TheVariants.{Topic, Partition, BrokerRegistration, ProducerIds, ControllerRegistration, BreakGlassProposal}
use Rattle.entries.specs.Entries.{Placed}
use Rattle.find.specs.Found.{Query, query_key}

pub topic_query : (name : Bytes) → length name ≤ 255 → Query 1 name []
unfolding kind_of kinds
topic_query name h = record { of = Topic; known = refl; first_fits = h; second_fits = omega arith; widths = tt }

pub topic_key_lem : (name : Bytes) → query_key 1 name [] ≡ topic_key name
unfolding query_key kind_of kinds key_of subject field
topic_key_lem name = refl

pub partition_query : (name number : Bytes) → length name ≤ 255 → length number ≡ 4 → Query 2 name number
unfolding kind_of kinds field
partition_query name number h k = record { of = Partition; known = refl; first_fits = h; second_fits = omega arith; widths = k }

pub partition_key_lem : (name number : Bytes) → query_key 2 name number ≡ partition_key Partition name number
unfolding query_key kind_of kinds key_of subject field
partition_key_lem name number = refl

pub broker_query : (node : Bytes) → length node ≡ 8 → Query 3 node []
unfolding kind_of kinds field
broker_query node k = record { of = BrokerRegistration; known = refl; first_fits = omega arith; second_fits = omega arith; widths = k }

pub broker_key : (node : Bytes) → query_key 3 node [] ≡ node_key BrokerRegistration node
unfolding query_key kind_of kinds key_of subject field
broker_key node = refl

pub producer_query : Query 8 [] []
unfolding kind_of kinds
producer_query = record { of = ProducerIds; known = refl; first_fits = omega arith; second_fits = omega arith; widths = tt }

pub producer_key_lem : query_key 8 [] [] ≡ producer_key
unfolding query_key kind_of kinds key_of subject
producer_key_lem = refl

pub controller_query : (node : Bytes) → length node ≡ 8 → Query 17 node []
unfolding kind_of kinds field
controller_query node k = record { of = ControllerRegistration; known = refl; first_fits = omega arith; second_fits = omega arith; widths = k }

pub controller_key : (node : Bytes) → query_key 17 node [] ≡ node_key ControllerRegistration node
unfolding query_key kind_of kinds key_of subject field
controller_key node = refl

pub proposal_query : (id : Bytes) → length id ≤ 255 → Query 19 id []
unfolding kind_of kinds
proposal_query id h = record { of = BreakGlassProposal; known = refl; first_fits = h; second_fits = omega arith; widths = tt }

pub proposal_key : (id : Bytes) → query_key 19 id [] ≡ name_key BreakGlassProposal id
unfolding query_key kind_of kinds key_of subject field
proposal_key id = refl

-- an entry that is asked for by what is lent, and refused where it is not there
module _ (kind : ℕ) {first second : Bytes} {v w : Bytes} (e : v ≡ first) (f : w ≡ second) where
  pub lent_query : Query kind first second → Query kind v w
  lent_query q = rw (e, f) q

  pub lent-place : (s : Bytes) {at end : ℕ} → Placed s (query_key kind v w) at end → Placed s (query_key kind first second) at end
  lent-place s {at} {end} p = rw (e, f) at p

  pub unless-there : (l : List Entry) {k : Key} → query_key kind first second ≡ k → (n : ℕ) {b : Bool} {r : ℕ} → r ≡ unless b n
      → b ≡ is_some (get key (query_key kind v w) l) → r ≡ unless (is_some (get key k l)) n
  unless-there l is n p q = p ∙ ap (λ x. unless x n) (q ∙ ap (λ x. is_some (get key x l)) (ap₂ (query_key kind) e f ∙ is))

pub unknown-lent : (l : List Entry) {v name : Bytes} → v ≡ name → {r : ℕ} → r ≡ unknown_topic (get key (topic_key v) l)
    → r ≡ unknown_topic (get key (topic_key name) l)
unknown-lent l e p = p ∙ ap (λ x. unknown_topic (get key (topic_key x) l)) e
