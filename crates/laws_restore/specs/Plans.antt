-- The plan of a stored entry's record, where its key is new: the record itself is put, and a level raises the epoch.
use Rattle.std.specs.Prelude.{◌≡◌, refl, List, [], ◌∷◌, Bool, true, false, ◌&&◌, not, ltb, eqb, length}
use Rattle.std.proofs.Common.{sym, ◌∙◌, ap, arith, eqb-true, ltb-true, lt-ltb, le-ltb, leb-false, eq-eqb, ne_eqb}
use Rattle.std.proofs.Math.Option.{none, some}
use Prim.Native.Nat.{ℕ, ◌+◌, ◌-◌, Ordering}
use Rattle.std.proofs.lemmas.Bool.{lt-leb, not-true}
use Rattle.model.specs.Choice.{choose, is_some}
use Rattle.model.specs.Number.{Bytes, AreBytes, number, bytes, span, half, place, is_negative}
use Rattle.model.specs.Order.{is_below}
use Rattle.model.specs.Run.{Run, done, torn, item, field, or_empty, value, values, set_field, drop_field, items}
use Rattle.model.specs.Kind.{kind_number}
use Rattle.model.specs.Shape.{rows_of, shape_of, logged, fault}
use Rattle.model.specs.Record.{Rec, rec}
use Rattle.model.specs.Key.{rank, subject, key_of, key_rank}
use Rattle.model.specs.Map.{get}
use Rattle.model.specs.Contents.{Entry, key, record_key, entity_key, entity_order, entities_in_order, storable}
use Rattle.model.specs.Move.{Move, put_m, join_m, bump_m, fields, insert_entity, sorted_entities, sorted_quota}
use Rattle.model.specs.Move.{offset_sum, sum_leaves, sum_bytes, stored_offset, plan, overflows}
use Rattle.model.specs.Snapshot.{is_level}
use Rattle.model.specs.declared.Kind.{Kind}
use Rattle.model.specs.declared.Kind.TheVariants.{Topic, Partition, BrokerRegistration, DeleteTopic, TopicConfig, BrokerConfig, ClientQuota, ProducerIds, UnregisterBroker, KRaftVersion, FeatureLevel, ClientMetricsConfig, FeaturesEpoch, PartitionDirAssignment}
use Rattle.model.specs.declared.Kind.TheVariants.{PartitionOffsetAdvance, GroupConfig, ControllerRegistration, TopicFreeze, BreakGlassProposal, DeleteBreakGlassProposal, PartitionElr, PartitionRecovery, PartitionUpdate, BrokerRegistrationChange, UnregisterController, LogOffset}
use Rattle.laws.specs.Choice.{impossible, true_false, and_left, and_right}
use Rattle.laws.specs.Order.{gt_lt, keys_total}
use Rattle.laws.specs.Numbers.{number_bound, bytes-number, place-bound, place_nonnegative, place-place}
use Rattle.laws_records.specs.Kinds.{number_injective}
use Rattle.laws_records.specs.Runs.{AreFields}
use Rattle.laws_records.specs.Fields.{Against, before, at, past, against, Ascending, ascending_from, values-below, value_are_bytes}
use Rattle.laws_records.specs.Faults.{fault-ascends, fault_required, fault-value, fault-set_field}

-- 1. Quotas: entities in order are sorted, and a run's first fields go back where they stood

pub sorted_same : (es : List Bytes) → entities_in_order es ≡ true → sorted_entities es ≡ es
unfolding entities_in_order sorted_entities insert_entity
sorted_same [] h = refl
sorted_same (e ∷ []) h = refl
sorted_same (e ∷ f ∷ es) h =
    rw (sorted_same (f ∷ es) (and_right (not below) (entities_in_order (f ∷ es)) h)) (go (entity_order e f) refl)
  where
    below : Bool
    below = is_below (entity_order f e)

    go : (o : Ordering) → entity_order e f ≡ o
        → choose o (e ∷ f ∷ es) (e ∷ f ∷ es) (f ∷ insert_entity e es) ≡ e ∷ f ∷ es
    go Ordering.lt q = refl
    go Ordering.eq q = refl
    go Ordering.gt q =
        absurd (true_false (rw (gt_lt keys_total (entity_key e) (entity_key f) q))
        (not-true below (and_left (not below) (entities_in_order (f ∷ es)) h)))

pub items-values : (tag : ℕ) (r : Run) → Ascending tag r → items tag (values tag r) (drop_field tag r) ≡ r
unfolding items values drop_field
items-values tag done a = refl
items-values tag torn a = refl
items-values tag (item t v r) a = go (against t tag) (items-values tag r (ascending_from tag t r a.0 a.1))
  where
    go : Against t tag → items tag (values tag r) (drop_field tag r) ≡ r
        → items tag (values tag (item t v r)) (drop_field tag (item t v r)) ≡ item t v r
    go (before k) i = absurd (omega arith)
    go (at e) i = rw (e, eq-eqb tag tag refl, i)
    go (past k) i =
        let apart : t ≡ tag → ⊥ = λ e. omega arith in
        let gone = values-below t tag r a.1 k in
        rw (ne_eqb t tag apart, gone) (ap (item t v) (rw gone at i))

pub sorted_quota_lem : (f : Run) → Ascending 1 f → entities_in_order (values 1 f) ≡ true → sorted_quota f ≡ rec ClientQuota f
unfolding sorted_quota
sorted_quota_lem f a h = rw (sorted_same (values 1 f) h, items-values 1 f a)

-- 2. Offsets: an advance from 0 is the offset itself, and never leaves i64

pub advance-zero : (v : Bytes) → AreBytes v → length v ≡ 8 → sum_bytes (offset_sum (bytes 8 0) v) ≡ v
advance-zero v b h =
    let e : half 8 + place 8 (number v) - half 8 ≡ place 8 (number v) = omega arith in
    rw (e, place-place 8 (number v) (rw h at (number_bound v b))) (rw h at (bytes-number v b))

pub advance-zero-within : (v : Bytes) → sum_leaves (offset_sum (bytes 8 0) v) ≡ false
advance-zero-within v =
    let h = place-bound 8 (number v) in
    rw (le-ltb (half 8 + place 8 (number v)) (half 8) (omega arith), lt-leb (half 8 + span 8) (half 8 + place 8 (number v)) (omega arith))

-- a record whose key is new does not overflow
pub overflows-new : (r : Rec) (l : List Entry) → get key (record_key r) l ≡ none → overflows r l ≡ false
unfolding overflows fields
overflows-new r l h = go (eqb (kind_number r.kind) (kind_number PartitionOffsetAdvance)) refl
  where
    go : (b : Bool) → eqb (kind_number r.kind) (kind_number PartitionOffsetAdvance) ≡ b
        → b && sum_leaves (offset_sum (stored_offset r.run l) (value 3 r.run)) ≡ false
    go true e =
        let k = number_injective r.kind PartitionOffsetAdvance (eqb-true (kind_number r.kind) (kind_number PartitionOffsetAdvance) e) in
        let n : get key (key_of PartitionOffsetAdvance r.run) l ≡ none = rw k at h in
        rw n (advance-zero-within (value 3 r.run))
    go false e = refl

-- the value that is stored first is the record's own
offset-new : (f : Run) (l : List Entry) → fault logged PartitionOffsetAdvance f ≡ 0 → AreFields f
    → get key (key_of PartitionOffsetAdvance f) l ≡ none → set_field 3 (sum_bytes (offset_sum (stored_offset f l) (value 3 f))) f ≡ f
unfolding rows_of shape_of fields
offset-new f l ok b h =
    let wide : length (value 3 f) ≡ 8 = fault-value logged PartitionOffsetAdvance f ok 3 refl refl in
    let there = fault_required logged PartitionOffsetAdvance f ok 3 refl refl in
    let same : field 3 f ≡ some (value 3 f) = there.1 ∙ ap some (sym (ap or_empty there.1)) in
    rw (h, advance-zero (value 3 f) (value_are_bytes 3 f b) wide) (fault-set_field logged PartitionOffsetAdvance f ok 3 (value 3 f) same)

-- 3. Producer ids: a next id above 0 is above none

next-above : (n : ℕ) → ltb 0 n && not (is_negative 8 n) ≡ true → ltb (place 8 0) (place 8 n) ≡ true
next-above n h =
    let up = ltb-true 0 n (and_left (ltb 0 n) (not (is_negative 8 n)) h) in
    let low = leb-false (half 8) n (not-true (is_negative 8 n) (and_right (ltb 0 n) (not (is_negative 8 n)) h)) in
    rw (place_nonnegative 8 n low) (lt-ltb (half 8) (n + half 8) (omega arith))

-- 4. Plans

-- the moves that store a record as it is; a level's are told apart
pub data Stores (r : Rec) : Bool → List Move → Type 0 where
  puts : Stores r false (put_m r ∷ [])
  joins : Stores r false (join_m r ∷ [])
  bumps : Stores r true (bump_m ∷ put_m r ∷ [])

pub plan_stores : (k : Kind) (f : Run) (l : List Entry) → storable k f ≡ true → fault logged k f ≡ 0 → AreFields f
    → get key (key_of k f) l ≡ none → Stores (rec k f) (is_level (key_of k f)) (plan k f l)
unfolding plan storable is_level key_of subject rank key_rank fields
plan_stores BrokerRegistration f l s ok b h = puts
plan_stores ControllerRegistration f l s ok b h = puts
plan_stores BreakGlassProposal f l s ok b h = puts
plan_stores TopicConfig f l s ok b h = rw s puts
plan_stores ClientMetricsConfig f l s ok b h = rw s puts
plan_stores GroupConfig f l s ok b h = rw s puts
plan_stores TopicFreeze f l s ok b h = rw s puts
plan_stores PartitionElr f l s ok b h = rw s puts
plan_stores PartitionRecovery f l s ok b h = rw s puts
plan_stores PartitionOffsetAdvance f l s ok b h = rw (offset-new f l ok b h) puts
plan_stores ProducerIds f l s ok b h = rw (h, next-above (number (value 3 f)) s) puts
plan_stores BrokerConfig f l s ok b h = rw s joins
plan_stores ClientQuota f l s ok b h =
    let ordered = and_right (is_some (field 3 f)) (entities_in_order (values 1 f)) s in
    rw (and_left (is_some (field 3 f)) (entities_in_order (values 1 f)) s, sorted_quota_lem f (fault-ascends logged ClientQuota f ok) ordered) joins
plan_stores FeatureLevel f l s ok b h = rw s bumps
plan_stores Topic f l s ok b h = impossible cc
plan_stores Partition f l s ok b h = impossible cc
plan_stores FeaturesEpoch f l s ok b h = impossible cc
plan_stores KRaftVersion f l s ok b h = impossible cc
plan_stores DeleteTopic f l s ok b h = impossible cc
plan_stores UnregisterBroker f l s ok b h = impossible cc
plan_stores PartitionDirAssignment f l s ok b h = impossible cc
plan_stores DeleteBreakGlassProposal f l s ok b h = impossible cc
plan_stores PartitionUpdate f l s ok b h = impossible cc
plan_stores BrokerRegistrationChange f l s ok b h = impossible cc
plan_stores UnregisterController f l s ok b h = impossible cc
plan_stores LogOffset f l s ok b h = impossible cc
