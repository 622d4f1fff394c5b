-- Every move of the plan of a record that passes is lawful.
use Rattle.std.specs.Prelude.{◌≡◌, Bool, true, false, cond, ◌||◌, not, ℕ, ◌-◌, ◌<◌, eqb, length}
use Rattle.std.proofs.Math.Path.{refl, ap}
use Rattle.std.proofs.Common.{sym, ◌∙◌, lit<}
use mathlib.Core.List.{List, [], ◌∷◌}
use Rattle.std.proofs.Math.Option.{Option, none, some}
use Rattle.std.proofs.Math.Bool.{or-true}
use Rattle.std.proofs.lemmas.Bool.{not-true, eqb-false}
use Rattle.model.specs.Choice.{every, given, is_some}
use Rattle.model.specs.Number.{Bytes, AreBytes, number, bytes, span, place, half}
use Rattle.model.specs.Order.{Key}
use Rattle.model.specs.Run.{Run, run_of, field, value, values, set_field}
use Rattle.model.specs.Kind.{kind_number}
use Rattle.model.specs.Shape.{rows_of, shape_of, logged, stored, fault}
use Rattle.model.specs.Record.{Rec, rec}
use Rattle.model.specs.Key.{rank, key_rank, key_of, node_key, name_key, partition_key}
use Rattle.model.specs.Contents.{Entry, storable, entities_in_order, is_config}
use Rattle.model.specs.Move.{Move, put_m, drop_m, directories_m, filled, assigned, set_or_drop, join_or_leave, elr_rec, elr_move, recovery_rec, recovery_move, update_moves}
use Rattle.model.specs.Move.{run_at, broker_at, at_epoch, or_done, stored_next, is_above, changed_broker, replicas, directories, node_count, slot_of}
use Rattle.model.specs.Move.{directory_moves, sorted_quota, offset_sum, sum_bytes, stored_offset, plan}
use Rattle.model.specs.declared.Kind.{Kind}
use Rattle.model.specs.declared.Kind.TheVariants.{Topic, Partition, BrokerRegistration, DeleteTopic, TopicConfig, BrokerConfig, ClientQuota, ProducerIds, UnregisterBroker, KRaftVersion, FeatureLevel, ClientMetricsConfig, FeaturesEpoch, PartitionDirAssignment}
use Rattle.model.specs.declared.Kind.TheVariants.{PartitionOffsetAdvance, GroupConfig, ControllerRegistration, TopicFreeze, BreakGlassProposal, DeleteBreakGlassProposal, PartitionElr, PartitionRecovery, PartitionUpdate, BrokerRegistrationChange, UnregisterController, LogOffset}
use Rattle.laws.specs.Choice.{impossible}
use Rattle.laws.specs.Lists.{All, all_imp, every_true, all_append}
use Rattle.laws.specs.Numbers.{number_bound, length-bytes, bytes_are_bytes}
use Rattle.laws_records.specs.Runs.{AreFields}
use Rattle.laws_records.specs.Fields.{value_are_bytes}
use Rattle.laws_records.specs.Faults.{fault-value}
use Rattle.laws_image.specs.Fits.{Readable}
use Rattle.laws_image.specs.Groups.{Grouped, config, quota}
use Rattle.laws_image.specs.Ranks.{key_rank_lem}
use Rattle.laws_apply.specs.Entries.{Stored, AreNameAndId, replicas_few, AreDirectories}
use Rattle.laws_apply.specs.Topics.{Elsewhere}
use Rattle.laws_apply.specs.Lawful.{Lawful}
use Rattle.laws_apply.specs.Readable.{logged_readable, set_readable}
use Rattle.laws_apply.specs.Changes.{changed_readable, update_partition, elr_readable, recovery_readable}
use Rattle.laws_apply.specs.Changes.{slot-below, assigned-directories}
use Rattle.laws_apply.specs.Quotas.{sorted_in_order, sorted_values, sorted_value, sorted_readable}
use Rattle.laws_apply.specs.Found.{found, found_readable, above-storable}

-- 1. Kinds whose entries are no topic, no partition and no member of a group

abbrev is_single : Kind → Bool
is_single kind = every (λ other. not (eqb (rank kind) (rank other))) (Topic ∷ Partition ∷ BrokerConfig ∷ ClientQuota ∷ [])

module _ (kind : Kind) (single : is_single kind ≡ true) where
  apart : All (λ other. rank kind ≡ rank other → ⊥) (Topic ∷ Partition ∷ BrokerConfig ∷ ClientQuota ∷ [])
  apart =
      let others = Topic ∷ Partition ∷ BrokerConfig ∷ ClientQuota ∷ [] in
      all_imp (λ other. not (eqb (rank kind) (rank other)) ≡ true) (λ other. rank kind ≡ rank other → ⊥)
      (λ other h. eqb-false (rank kind) (rank other) (not-true (eqb (rank kind) (rank other)) h)) others
      (every_true (λ other. not (eqb (rank kind) (rank other))) others single)

  single_elsewhere : (k : Key) → key_rank k ≡ rank kind → Elsewhere k
  single_elsewhere k e = record { no_topic = λ q. apart.0 (sym e ∙ q); no_partition = λ q. apart.1.0 (sym e ∙ q) }

  single_ungrouped : Grouped kind → ⊥
  single_ungrouped g = go kind g apart
    where
      go : (k : Kind) → Grouped k → All (λ other. rank k ≡ rank other → ⊥) (Topic ∷ Partition ∷ BrokerConfig ∷ ClientQuota ∷ []) → ⊥
      go k config a = a.1.1.0 refl
      go k quota a = a.1.1.1.0 refl

  single_topic : kind ≡ Topic → ⊥
  single_topic e = apart.0 (ap rank e)

  module _ (run : Run) (r : Readable (rec kind run)) where
    single_put : storable kind run ≡ true → Lawful (put_m (rec kind run))
    single_put s = (record { readable = r; storable = s }, single_ungrouped)

    -- stored where it is such as Apply stores, else taken out
    single_set : Lawful (set_or_drop (storable kind run) (rec kind run))
    single_set = go (storable kind run) refl
      where
        go : (b : Bool) → storable kind run ≡ b → Lawful (set_or_drop b (rec kind run))
        go true e = single_put e
        go false e = single_elsewhere (key_of kind run) (key_rank_lem kind run)

-- moves that are made where a test holds
when : (b : Bool) (ms : List Move) → (b ≡ true → All Lawful ms) → All Lawful (cond b ms [])
when true ms h = h refl
when false ms h = tt

-- 2. Plans of several moves, and of what is stored

number-below : (width : ℕ) (v : Bytes) → AreBytes v → length v ≡ width → number v < span width
number-below width v b h = rw h at (number_bound v b)

-- a member joins where it has a value, else it leaves
join_or_leave_lem : (r : Rec) → Readable r → Grouped r.kind → is_config r || entities_in_order (values 1 r.run) ≡ true
    → (b : Bool) → (b ≡ true → storable r.kind r.run ≡ true) → Lawful (join_or_leave b r)
join_or_leave_lem r p g ordered true h = (record { readable = p; storable = h refl }, g)
join_or_leave_lem r p g ordered false h = record { readable = p; grouped = g; ordered = ordered }

module _ (f : Run) (b : AreFields f) where
  topic_lawful : fault logged Topic f ≡ 0 → AreNameAndId (value 1 f) (value 2 f) × (number (value 4 f) < span 2)
  unfolding rows_of shape_of
  topic_lawful ok = (
    record {
      name_fits = fault-value logged Topic f ok 1 refl refl;
      id_fits = fault-value logged Topic f ok 2 refl refl;
      name_bytes = value_are_bytes 1 f b;
      id_bytes = value_are_bytes 2 f b;
    },
    number-below 2 (value 4 f) (value_are_bytes 4 f b) (fault-value logged Topic f ok 4 refl refl),
  )

  quota_lawful : fault logged ClientQuota f ≡ 0 → Lawful (join_or_leave (is_some (field 3 f)) (sorted_quota f))
  unfolding sorted_quota storable
  quota_lawful ok =
      let ordered = ap entities_in_order (sorted_values f) ∙ sorted_in_order (values 1 f) in
      join_or_leave_lem (sorted_quota f) (sorted_readable f ok b) quota (rw (ordered, or-true)) (is_some (field 3 f))
      (λ e. rw (sorted_value f, ordered, e))

  producer_lawful : (l : List Entry) → All Stored l → fault logged ProducerIds f ≡ 0
      → All Lawful (cond (is_above 8 (value 3 f) (stored_next l)) (put_m (rec ProducerIds f) ∷ []) [])
  unfolding rows_of shape_of rank
  producer_lawful l u ok = when (is_above 8 (value 3 f) (stored_next l)) (put_m (rec ProducerIds f) ∷ []) λ e.
      let wide = fault-value logged ProducerIds f ok 3 refl refl in
      let r = logged_readable ProducerIds (λ q. impossible cc) f ok b in
      (single_put ProducerIds refl f r (above-storable l u f (value_are_bytes 3 f b) wide e), tt)

  offset_lawful : (l : List Entry) → fault logged PartitionOffsetAdvance f ≡ 0
      → Lawful (put_m (rec PartitionOffsetAdvance (set_field 3 (sum_bytes (offset_sum (stored_offset f l) (value 3 f))) f)))
  unfolding rows_of shape_of kind_number rank storable
  offset_lawful l ok =
      let n = place 8 (offset_sum (stored_offset f l) (value 3 f) - half 8) in
      let r = logged_readable PartitionOffsetAdvance (λ q. impossible cc) f ok b in
      single_put PartitionOffsetAdvance refl (set_field 3 (bytes 8 n) f)
      (set_readable PartitionOffsetAdvance f r 3 refl refl (lit< tt) (bytes 8 n) (bytes_are_bytes 8 n) (length-bytes 8 n)) refl

  change_lawful : (l : List Entry) → All Stored l → fault logged BrokerRegistrationChange f ≡ 0
      → let o = broker_at (value 1 f) l in
      All Lawful (cond (at_epoch (value 2 f) o) (put_m (rec BrokerRegistration (changed_broker f (or_done o))) ∷ []) [])
  unfolding rank key_rank storable
  change_lawful l u ok = go (broker_at (value 1 f) l) refl
    where
      go : (o : Option Run) → broker_at (value 1 f) l ≡ o
          → All Lawful (cond (at_epoch (value 2 f) o) (put_m (rec BrokerRegistration (changed_broker f (or_done o))) ∷ []) [])
      go none e = tt
      go (some run) e =
          let r = found_readable (found l u (node_key BrokerRegistration (value 1 f)) BrokerRegistration refl (lit< tt) run e) in
          when (at_epoch (value 2 f) (some run)) (put_m (rec BrokerRegistration (changed_broker f run)) ∷ []) λ q.
          (single_put BrokerRegistration refl (changed_broker f run) (changed_readable f ok b run r) refl, tt)

  directories_lawful : (l : List Entry) → All Stored l → fault logged PartitionDirAssignment f ≡ 0
      → All Lawful (given (run_at (partition_key Partition (value 1 f) (value 2 f)) l) [] (directory_moves f))
  unfolding directory_moves rank key_rank rows_of shape_of kind_number
  directories_lawful l u ok = go (run_at (partition_key Partition (value 1 f) (value 2 f)) l) refl
    where
      one : (p : Run) → Readable (rec Partition p) → (o : Option ℕ) → slot_of (node_count (replicas p)) (value 3 f) (replicas p) ≡ o
          → All Lawful (given o [] (λ slot.
          directories_m (key_of Partition p) (assigned slot (value 4 f) (filled (node_count (replicas p)) (directories p))) ∷ []))
      one p r none e = tt
      one p r (some slot) e =
          let few = replicas_few p r.passes in
          let low = slot-below (node_count (replicas p)) (value 3 f) (replicas p) slot e in
          let wide = fault-value logged PartitionDirAssignment f ok 4 refl refl in
          let whole = fault-value stored Partition p r.passes 9 refl refl in
          let dirs : AreDirectories (directories p) =
          record { are_bytes = value_are_bytes 9 p r.fields; whole = whole.0; few = whole.1 } in
          (assigned-directories (node_count (replicas p)) slot (value 4 f) (directories p) few low wide (value_are_bytes 4 f b) dirs, tt)

      go : (o : Option Run) → run_at (partition_key Partition (value 1 f) (value 2 f)) l ≡ o → All Lawful (given o [] (directory_moves f))
      go none e = tt
      go (some p) e =
          one p (found_readable (found l u (partition_key Partition (value 1 f) (value 2 f)) Partition refl (lit< tt) p e))
          (slot_of (node_count (replicas p)) (value 3 f) (replicas p)) refl

  update_lawful : fault logged PartitionUpdate f ≡ 0 → All Lawful (update_moves f)
  unfolding update_moves rank storable
  update_lawful ok = (
    update_partition f ok b,
    all_append Lawful
        (given (field 2 f) [] (λ eligible. given (field 3 f) [] (λ known. elr_move (elr_rec name number eligible known) ∷ [])))
        (given (field 4 f) [] (λ state. recovery_move (recovery_rec name number state) ∷ []))
        (eligible_lawful (field 2 f) refl) (state_lawful (field 4 f) refl),
  )
    where
      name : Bytes
      name = value 1 (run_of (value 1 f))

      number : Bytes
      number = value 2 (run_of (value 1 f))

      known_lawful : (eligible : Bytes) → field 2 f ≡ some eligible → (o : Option Bytes) → field 3 f ≡ o
          → All Lawful (given o [] (λ known. elr_move (elr_rec name number eligible known) ∷ []))
      known_lawful eligible p none q = tt
      known_lawful eligible p (some known) q =
          (single_set PartitionElr refl (elr_rec name number eligible known).run (elr_readable f ok b eligible known p q), tt)

      eligible_lawful : (o : Option Bytes) → field 2 f ≡ o
          → All Lawful (given o [] (λ eligible. given (field 3 f) [] (λ known. elr_move (elr_rec name number eligible known) ∷ [])))
      eligible_lawful none p = tt
      eligible_lawful (some eligible) p = known_lawful eligible p (field 3 f) refl

      state_lawful : (o : Option Bytes) → field 4 f ≡ o
          → All Lawful (given o [] (λ state. recovery_move (recovery_rec name number state) ∷ []))
      state_lawful none p = tt
      state_lawful (some state) p =
          (single_set PartitionRecovery refl (recovery_rec name number state).run (recovery_readable f ok b state p), tt)

-- 3. Plans by kind

-- a record of a kind of its own that is logged
module _ (kind : Kind) (single : is_single kind ≡ true) (f : Run) (ok : fault logged kind f ≡ 0) (b : AreFields f) where
  puts : storable kind f ≡ true → Lawful (put_m (rec kind f))
  puts s = single_put kind single f (logged_readable kind (single_topic kind single) f ok b) s

  sets : Lawful (set_or_drop (storable kind f) (rec kind f))
  sets = single_set kind single f (logged_readable kind (single_topic kind single) f ok b)

pub plan_lawful : (kind : Kind) (f : Run) (l : List Entry) → fault logged kind f ≡ 0 → AreFields f → All Stored l
    → All Lawful (plan kind f l)
unfolding plan rank storable key_rank rows_of shape_of
plan_lawful Topic f l ok b u = (topic_lawful f b ok, tt)
plan_lawful Partition f l ok b u = (logged_readable Partition (λ e. impossible cc) f ok b, tt)
plan_lawful BrokerRegistration f l ok b u = (puts BrokerRegistration refl f ok b refl, tt)
plan_lawful DeleteTopic f l ok b u = (tt, tt)
plan_lawful TopicConfig f l ok b u = (sets TopicConfig refl f ok b, tt)
plan_lawful BrokerConfig f l ok b u =
    let r = logged_readable BrokerConfig (λ e. impossible cc) f ok b in
    (join_or_leave_lem (rec BrokerConfig f) r config (unfold kind_number in refl) (is_some (field 3 f)) (λ e. e), tt)
plan_lawful ClientQuota f l ok b u = (quota_lawful f b ok, tt)
plan_lawful ProducerIds f l ok b u = producer_lawful f b l u ok
plan_lawful UnregisterBroker f l ok b u =
    let k = node_key BrokerRegistration (value 1 f) in
    when (at_epoch (value 2 f) (broker_at (value 1 f) l)) (drop_m k ∷ []) λ e. (single_elsewhere BrokerRegistration refl k refl, tt)
plan_lawful KRaftVersion f l ok b u =
    (number-below 2 (value 1 f) (value_are_bytes 1 f b) (fault-value logged KRaftVersion f ok 1 refl refl), tt)
plan_lawful FeatureLevel f l ok b u = (tt, (sets FeatureLevel refl f ok b, tt))
plan_lawful ClientMetricsConfig f l ok b u = (sets ClientMetricsConfig refl f ok b, tt)
plan_lawful FeaturesEpoch f l ok b u =
    (number-below 8 (value 1 f) (value_are_bytes 1 f b) (fault-value logged FeaturesEpoch f ok 1 refl refl), tt)
plan_lawful PartitionDirAssignment f l ok b u = directories_lawful f b l u ok
plan_lawful PartitionOffsetAdvance f l ok b u = (offset_lawful f b l ok, tt)
plan_lawful GroupConfig f l ok b u = (sets GroupConfig refl f ok b, tt)
plan_lawful ControllerRegistration f l ok b u = (puts ControllerRegistration refl f ok b refl, tt)
plan_lawful TopicFreeze f l ok b u = (sets TopicFreeze refl f ok b, tt)
plan_lawful BreakGlassProposal f l ok b u = (puts BreakGlassProposal refl f ok b refl, tt)
plan_lawful DeleteBreakGlassProposal f l ok b u =
    (single_elsewhere BreakGlassProposal refl (name_key BreakGlassProposal (value 1 f)) refl, tt)
plan_lawful PartitionElr f l ok b u = (sets PartitionElr refl f ok b, tt)
plan_lawful PartitionRecovery f l ok b u = (sets PartitionRecovery refl f ok b, tt)
plan_lawful PartitionUpdate f l ok b u = update_lawful f b ok
plan_lawful BrokerRegistrationChange f l ok b u = change_lawful f b l u ok
plan_lawful UnregisterController f l ok b u =
    (single_elsewhere ControllerRegistration refl (node_key ControllerRegistration (value 1 f)) refl, tt)
plan_lawful LogOffset f l ok b u = tt
