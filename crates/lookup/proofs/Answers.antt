-- Lookups, exit by exit.
use mathlib.Core.Path.{◌≡◌, refl, sym, ap, ◌∙◌}
use mathlib.Core.Bool.{Bool, true, false, not}
use mathlib.Core.List.{List, [], ◌∷◌, map}
use mathlib.Core.Option.{Option, none, some}
use Prim.Native.Nat.{ℕ, zero, suc, ◌-◌, ◌≤◌}
use native.Mathlib.Omega.{arith}
use borrow.Author.Tests.{not-true, not-false, ne_eqb}
use lib.ListN.{length, take, drop}
use Rattle.model.specs.Number.{Bytes, bytes}
use Rattle.model.specs.Order.{Key}
use Rattle.model.specs.Shape.{string_limit, text_fault}
use Rattle.model.specs.Key.{topic_key, partition_key, node_key}
use Rattle.model.specs.Record.{Rec}
use Rattle.model.specs.Map.{get}
use Rattle.model.specs.Contents.{Entry, key}
use Rattle.model.specs.Image.{head_size, fixed_in, entry_of, is_image, contents_of}
use Rattle.model.specs.Reply.{Reply, accepted, refused, Ended}
use Rattle.model.specs.Snapshot.{emit}
use Rattle.model.specs.Lookup.{found, named, named_by, topic_by_name, topic_by_id, partition_of, broker_of, epoch_of, offset_of, short_count, short_of, throttle, throttle_name, leader_rate, follower_rate, alter_log_dirs_rate, freeze, as_list, as_values, freeze_of, throttle_of}
use Rattle.model.specs.declared.Kind.TheVariants.{Partition, BrokerRegistration}
use Rattle.laws_image.specs.Tests.{capacity-least, image_holds}
use Rattle.entries.specs.Entries.{records_in}
use Rattle.find.specs.Found.{query_key, found_in}
use Rattle.find.specs.Reals.{Reals}
use Rattle.find.proofs.Lent.{lent-held}
use Rattle.find.proofs.Queries.{topic_key_lem, partition_key_lem, broker_key}
use Rattle.lookup_rates.specs.Rates.{rated}
use Rattle.lookup_rates.specs.declared.Rate.{Rate}
use Rattle.model.specs.Answers.{rating}
use Rattle.lookup.specs.Values.{rated_as}
use Rattle.model.specs.declared.answers.Rated.{Rated}

-- 1. The real entries, as they are lent

pub lent_found : (image : Bytes) {end : ℕ} → Reals image end → (k : Key)
    → found_in k (take (end - head_size) (drop head_size image)) ≡ found (get key k (contents_of image).real)
unfolding found_in
lent_found image r k = ap (λ l. found (get key k l)) (lent-held image r)

-- 2. What is asked for

pub image_head : (image : Bytes) → is_image image ≡ true → head_size ≤ length image
image_head image h = omega (arith, capacity-least (length image) (image_holds image h).within)

pub rate_as : (image : Bytes) {end : ℕ} (h : Reals image end) (node : ℕ) (name : Bytes) (r : Rate)
    → rated r ≡ throttle node name (map entry_of (records_in (take (end - head_size) (drop head_size image)))) → rated_as (rated r) ≡ rated_as (throttle node name (contents_of image).real)
rate_as image {end} h node name r e = ap rated_as (e ∙ ap (throttle node name) (lent-held image h))

-- 3. The answers

abbrev Same : Reply → Bytes → Ended → Type 0
Same r o e = (r ≡ e.reply) × (o ≡ e.buffer)

-- what is emitted of a key's entry, for what is emitted of another name of the key
same_key_lem : (image out : Bytes) (k l : Key) → k ≡ l → {r : Reply} {o : Bytes} → Same r o (emit (found (get key k (contents_of image).real)) out)
    → Same r o (emit (found (get key l (contents_of image).real)) out)
same_key_lem image out k l e s = rw (← e) s

module _ (image out : Bytes) {is : Bool} (ei : is ≡ is_image image) where
  module _ (no : not is ≡ true) where
    pub topic_no_image : (name : Bytes) → Same (refused 1) out (topic_by_name image name out)
    unfolding topic_by_name
    topic_no_image name = rw (← ei, not-true is no) (refl, refl)

    pub id_no_image : (id : Bytes) → Same (refused 1) out (topic_by_id image id out)
    unfolding topic_by_id
    id_no_image id = rw (← ei, not-true is no) (refl, refl)

    pub partition_no_image : (name : Bytes) (n : ℕ) → Same (refused 1) out (partition_of image name n out)
    unfolding partition_of
    partition_no_image name n = rw (← ei, not-true is no) (refl, refl)

    pub broker_no_image : (node : ℕ) → Same (refused 1) out (broker_of image node out)
    unfolding broker_of
    broker_no_image node = rw (← ei, not-true is no) (refl, refl)

    pub freeze_no_image : (name : Bytes) → Same (refused 1) out (freeze_of image name out)
    unfolding freeze_of
    freeze_no_image name = rw (← ei, not-true is no) (refl, refl)

    pub throttle_no_image : (node kind : ℕ) → refused 1 ≡ throttle_of image node kind
    unfolding throttle_of
    throttle_no_image node kind = rw (← ei, not-true is no)

    pub epoch_no_image : refused 1 ≡ epoch_of image
    unfolding epoch_of
    epoch_no_image = rw (← ei, not-true is no)

    pub offset_no_image : refused 1 ≡ offset_of image
    unfolding offset_of
    offset_no_image = rw (← ei, not-true is no)

    pub short_no_image : refused 1 ≡ short_of image
    unfolding short_of
    short_no_image = rw (← ei, not-true is no)

  module _ (yes' : not is ≡ false) where
    pub image_is : is_image image ≡ true
    image_is = sym ei ∙ not-false is yes'

    -- a name that is refused
    module _ (name : Bytes) {f : ℕ} (ef : f ≡ text_fault string_limit name) (wrong : f ≡ 0 → ⊥) where
      refused_name : (rs : List Rec) → Same (refused f) out (named (text_fault string_limit name) rs out)
      refused_name rs = rw (← ef) (go f wrong)
        where
          go : (n : ℕ) → (n ≡ 0 → ⊥) → Same (refused n) out (named n rs out)
          go zero w = absurd (w refl)
          go (suc n) w = (refl, refl)

      pub topic_refused : Same (refused f) out (topic_by_name image name out)
      unfolding topic_by_name
      topic_refused = rw image_is (refused_name (found (get key (topic_key name) (contents_of image).real)))

      pub freeze-refused : Same (refused f) out (freeze_of image name out)
      unfolding freeze_of
      freeze-refused = rw image_is (refused_name (as_list (freeze name (contents_of image).real)))

      pub partition-refused : (n : ℕ) → Same (refused f) out (partition_of image name n out)
      unfolding partition_of
      partition-refused n = rw image_is (refused_name (found (get key (partition_key Partition name (bytes 4 n)) (contents_of image).real)))

    -- what is found
    module _ {r : Reply} {o : Bytes} where
      pub topic_found : (name : Bytes) → 0 ≡ text_fault string_limit name → Same r o (emit (found (get key (query_key 1 name []) (contents_of image).real)) out)
          → Same r o (topic_by_name image name out)
      unfolding topic_by_name
      topic_found name e s = rw (image_is, ← e) (same_key_lem image out (query_key 1 name []) (topic_key name) (topic_key_lem name) s)

      pub partition-found : (name : Bytes) (n : ℕ) (number : Bytes) → number ≡ bytes 4 n → 0 ≡ text_fault string_limit name
          → Same r o (emit (found (get key (query_key 2 name number) (contents_of image).real)) out) → Same r o (partition_of image name n out)
      unfolding partition_of
      partition-found name n number q e s =
          rw (image_is, ← e) (same_key_lem image out (query_key 2 name number) (partition_key Partition name (bytes 4 n)) (partition_key_lem name number ∙ ap (partition_key Partition name) q) s)

      pub broker_found : (n : ℕ) (node : Bytes) → node ≡ bytes 8 n → Same r o (emit (found (get key (query_key 3 node []) (contents_of image).real)) out)
          → Same r o (broker_of image n out)
      unfolding broker_of
      broker_found n node q s =
          rw image_is (same_key_lem image out (query_key 3 node []) (node_key BrokerRegistration (bytes 8 n)) (broker_key node ∙ ap (node_key BrokerRegistration) q) s)

      pub freeze-found : (name : Bytes) {l : List Entry} → 0 ≡ text_fault string_limit name → l ≡ (contents_of image).real → Same r o (emit (as_list (freeze name l)) out)
          → Same r o (freeze_of image name out)
      unfolding freeze_of
      freeze-found name e q s = rw (image_is, ← e, ← q) s

      pub id_found : (id : Bytes) {l : List Entry} → l ≡ (contents_of image).real → Same r o (emit (found (named_by id l)) out) → Same r o (topic_by_id image id out)
      unfolding topic_by_id
      id_found id e s = rw (image_is, ← e) s

    -- the three kinds of a rate, and the others
    module _ (node : ℕ) {x : Rated} where
      said : (name : Bytes) → x ≡ rated_as (throttle node name (contents_of image).real) → rating x ≡ accepted (as_values (throttle node name (contents_of image).real))
      said name e = ap rating e ∙ go (throttle node name (contents_of image).real)
        where
          go : (o : Option ℕ) → rating (rated_as o) ≡ accepted (as_values o)
          go none = refl
          go (some n) = refl

      pub leader_said : (kind : ℕ) → kind ≡ 0 → x ≡ rated_as (throttle node leader_rate (contents_of image).real) → rating x ≡ throttle_of image node kind
      unfolding throttle_of throttle_name
      leader_said kind k e = rw (image_is, k) (said leader_rate e)

      pub follower_said : (kind : ℕ) → kind ≡ 1 → x ≡ rated_as (throttle node follower_rate (contents_of image).real) → rating x ≡ throttle_of image node kind
      unfolding throttle_of throttle_name
      follower_said kind k e = rw (image_is, k) (said follower_rate e)

      pub dirs_said : (kind : ℕ) → kind ≡ 2 → x ≡ rated_as (throttle node alter_log_dirs_rate (contents_of image).real) → rating x ≡ throttle_of image node kind
      unfolding throttle_of throttle_name
      dirs_said kind k e = rw (image_is, k) (said alter_log_dirs_rate e)

    pub no_such_rate : (node kind : ℕ) → (kind ≡ 0 → ⊥) → (kind ≡ 1 → ⊥) → (kind ≡ 2 → ⊥) → refused 4 ≡ throttle_of image node kind
    unfolding throttle_of throttle_name
    no_such_rate node kind a b c = rw (image_is, ne_eqb kind 0 a, ne_eqb kind 1 b, ne_eqb kind 2 c) refl

    pub epoch-found : {n : ℕ} → n ≡ (fixed_in image).epoch → accepted (n ∷ []) ≡ epoch_of image
    unfolding epoch_of contents_of
    epoch-found e = rw (image_is, ← e)

    pub offset-found : {n : ℕ} → n ≡ (fixed_in image).offset → accepted (n ∷ []) ≡ offset_of image
    unfolding offset_of contents_of
    offset-found e = rw (image_is, ← e)

    pub short-found : {n : ℕ} {l : List Entry} → l ≡ (contents_of image).real → n ≡ short_count l → accepted (n ∷ []) ≡ short_of image
    unfolding short_of
    short-found q e = rw (image_is, ← q, ← e)
