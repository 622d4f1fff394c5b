-- A move leaves the entry of every key that it does not touch; a record leaves the entries of other groups than its own, past those of topics.
use Rattle.std.specs.Prelude.{◌≡◌, Bool, ◌&&◌, ℕ, ◌+◌, ◌<◌, leb}
use Rattle.std.proofs.Math.Path.{refl, ap}
use Rattle.std.proofs.Common.{sym, ◌∙◌, arith}
use mathlib.Core.List.{List, [], ◌∷◌, map}
use Rattle.std.proofs.Math.Option.{Option, none, some}
use Rattle.std.proofs.Math.Bool.{true, false, cond, not}
use Rattle.std.proofs.Math.Dec.{eqb}
use borrow.Author.Tests.{not-false, ne_eqb, lt-leb}
use Rattle.model.specs.Choice.{given, is_some, is_empty}
use Rattle.model.specs.Number.{Bytes, number}
use Rattle.model.specs.Run.{Run, run_of, field, value, set_field}
use Rattle.model.specs.Order.{Key, compare_keys, same_bytes, is_same}
use Rattle.model.specs.Record.{Rec, rec}
use Rattle.model.specs.Key.{rank, rank_part, number_part, subject, key_rank, key_name, key_of, topic_key, partition_key, node_key, topic_of}
use Rattle.model.specs.Map.{get}
use Rattle.model.specs.Contents.{Entry, topic, part, plain, key, record_key, Contents}
use Rattle.model.specs.Move.{Move, put_m, drop_m, join_m, leave_m, topic_m, part_m, directories_m, delete_m, bump_m, epoch_m, kraft_m}
use Rattle.model.specs.Move.{clear_named, clear_old_named, count_of, count_partition, set_directories, apart_from, partition_topic, on_real, move, moves, touches}
use Rattle.model.specs.Move.{set_or_drop, join_or_leave, elr_rec, elr_move, recovery_rec, recovery_move, update_moves, run_at, broker_at, at_epoch, or_done}
use Rattle.model.specs.Move.{stored_next, is_above, changed_broker, replicas, directories, node_count, slot_of, filled, assigned, directory_moves}
use Rattle.model.specs.Move.{sorted_quota, offset_sum, sum_bytes, stored_offset, plan, moved}
use Rattle.model.specs.declared.Kind.{Kind}
use Rattle.model.specs.declared.Kind.TheVariants.{Topic, Partition, BrokerRegistration, DeleteTopic, TopicConfig, BrokerConfig, ClientQuota, ProducerIds, UnregisterBroker, KRaftVersion, FeatureLevel, ClientMetricsConfig, FeaturesEpoch, PartitionDirAssignment}
use Rattle.model.specs.declared.Kind.TheVariants.{PartitionOffsetAdvance, GroupConfig, ControllerRegistration, TopicFreeze, BreakGlassProposal, DeleteBreakGlassProposal, PartitionElr, PartitionRecovery, PartitionUpdate, BrokerRegistrationChange, UnregisterController, LogOffset}
use Rattle.laws.specs.Choice.{true_false, or_left, or_right, over}
use Rattle.laws.specs.Order.{same_bytes_true, same_keys_true, same_keys_false, apart_same_keys}
use Rattle.laws.specs.Lists.{All, all_append}
use Rattle.laws.specs.Map.{Asc, get_in, get-map, get-put_other, get_remove_other, get-keep, map_asc}
use Rattle.laws_apply.specs.Entries.{key-clear_named, key-clear_old_named, told, key-told, key-directories}
use Rattle.laws_apply.specs.Moves.{asc_move}

-- 1. Moves

-- entries that are changed one by one, where the key's own stays
same_at : (f : Entry → Entry) → ((e : Entry) → key (f e) ≡ key e) → (k : Key) → ((e : Entry) → key e ≡ k → f e ≡ e)
    → (l : List Entry) → get key k (map f l) ≡ get key k l
same_at f same k still l = get-map key key f same k l ∙ go (get key k l) refl
  where
    go : (o : Option Entry) → get key k l ≡ o → over f o ≡ o
    go none e = refl
    go (some x) e = ap some (still x (get_in key k l x e).1)

-- an entry of a key of another rank is no topic
topic_still : (f : Entry → Entry) → ((r : _) → f (part r) ≡ part r) → ((r : _) → f (plain r) ≡ plain r)
    → (k : Key) → eqb (key_rank k) (rank Topic) ≡ false → (e : Entry) → key e ≡ k → f e ≡ e
unfolding key rank key_rank
topic_still f p q k h (topic name id n g b) e = absurd (true_false (sym (ap (λ (x : Key). eqb (key_rank x) 4) e)) h)
topic_still f p q k h (part r) e = p r
topic_still f p q k h (plain r) e = q r

no_topic_key : (k : Key) (name : Bytes) → eqb (key_rank k) (rank Topic) ≡ false → k ≡ topic_key name → ⊥
unfolding rank key_rank
no_topic_key k name h e = true_false (ap (λ (x : Key). eqb (key_rank x) 4) e) h

old-part : (o : Option Entry) (r : _) → clear_old_named o (part r) ≡ part r
unfolding clear_old_named clear_named
old-part none r = refl
old-part (some (topic name id n f b)) r = refl
old-part (some (part s)) r = refl
old-part (some (plain s)) r = refl

old_plain : (o : Option Entry) (r : _) → clear_old_named o (plain r) ≡ plain r
unfolding clear_old_named clear_named
old_plain none r = refl
old_plain (some (topic name id n f b)) r = refl
old_plain (some (part s)) r = refl
old_plain (some (plain s)) r = refl

apart : (a k : Key) → is_same (compare_keys a k) ≡ false → k ≡ a → ⊥
apart a k h e = same_keys_false a k h (sym e)

module _ (k : Key) where
  count-still : (r : _) (n m : ℕ) → is_same (compare_keys (topic_key (partition_topic r)) k) ≡ false → (e : Entry) → key e ≡ k
      → count_partition (partition_topic r) n m e ≡ e
  unfolding count_partition key
  count-still r n m h (topic name id c f b) e = go (same_bytes name (partition_topic r)) refl
    where
      go : (t : Bool) → same_bytes name (partition_topic r) ≡ t
          → cond t (topic name id (c + n) m b) (topic name id c f b) ≡ topic name id c f b
      go true q = absurd (apart (topic_key (partition_topic r)) k h (sym e ∙ ap topic_key (same_bytes_true name (partition_topic r) q)))
      go false q = refl
  count-still r n m h (part s) e = refl
  count-still r n m h (plain s) e = refl

  directories-still : (p : Key) (v : Bytes) → is_same (compare_keys p k) ≡ false → (e : Entry) → key e ≡ k → set_directories p v e ≡ e
  unfolding set_directories key
  directories-still p v h (topic name id c f b) e = refl
  directories-still p v h (part r) e = go (is_same (compare_keys (key_of Partition r) p)) refl
    where
      go : (t : Bool) → is_same (compare_keys (key_of Partition r) p) ≡ t → part (cond t (set_field 9 v r) r) ≡ part r
      go true q = absurd (apart p k h (sym e ∙ same_keys_true (key_of Partition r) p q))
      go false q = refl
  directories-still p v h (plain r) e = refl

  pub untouched : (m : Move) → touches m k ≡ false → (l : List Entry) → Asc key l → get key k (on_real m l) ≡ get key k l
  unfolding touches on_real key
  untouched (put_m r) h l a = get-put_other key k (plain r) (apart (record_key r) k h) l
  untouched (join_m r) h l a = get-put_other key k (plain r) (apart (record_key r) k h) l
  untouched (drop_m d) h l a = get_remove_other key k d (apart d k h) l a
  untouched (leave_m r) h l a = get_remove_other key k (record_key r) (apart (record_key r) k h) l a
  untouched (topic_m name id factor) h l a =
      let old = get key (topic_key name) l in
      let e = topic name id (count_of old) factor true in
      get-put_other key k e (no_topic_key k name h) (map (clear_named id) (map (clear_old_named old) l))
      ∙ same_at (clear_named id) (key-clear_named id) k (topic_still (clear_named id) (λ r. unfold clear_named in refl) (λ r. unfold clear_named in refl) k h) (map (clear_old_named old) l)
      ∙ same_at (clear_old_named old) (key-clear_old_named old) k (topic_still (clear_old_named old) (old-part old) (old_plain old) k h) l
  untouched (part_m r) h l a =
      let one = is_same (compare_keys (key_of Partition r) k) in
      let two = is_same (compare_keys (topic_key (partition_topic r)) k) in
      get-put_other key k (part r) (apart (key_of Partition r) k (or_left one two h)) (map (told r l) l)
      ∙ same_at (told r l) (key-told r l) k (count-still r _ _ (or_right one two h)) l
  untouched (directories_m p v) h l a = same_at (set_directories p v) (key-directories p v) k (directories-still p v h) l
  untouched (delete_m name) h l a =
      let old = get key (topic_key name) l in
      let ranked = eqb (key_rank k) (rank Topic) in
      let here = or_left ranked (not (apart_from name k)) h in
      get-keep key (apart_from name) k (map (clear_old_named old) l) (map_asc key key (clear_old_named old) (key-clear_old_named old) l a)
      ∙ rw (not-false (apart_from name k) (or_right ranked (not (apart_from name k)) h))
      (same_at (clear_old_named old) (key-clear_old_named old) k (topic_still (clear_old_named old) (old-part old) (old_plain old) k here) l)
  untouched bump_m h l a = refl
  untouched (epoch_m e) h l a = refl
  untouched (kraft_m v) h l a = refl

  pub all_untouched : (ms : List Move) (c : Contents) → Asc key c.real → All (λ m. touches m k ≡ false) ms → get key k (moves ms c).real ≡ get key k c.real
  unfolding moves move
  all_untouched [] c a h = refl
  all_untouched (m ∷ ms) c a h = all_untouched ms (move m c) (asc_move m c.real a) h.1 ∙ untouched m h.0 c.real a

-- 2. Records

-- a key of a group past those of topics; proposals are left out, since records of another kind remove them
module _ (n : ℕ) (past : rank TopicConfig < n) (no_proposal : rank BreakGlassProposal ≡ n → ⊥) (s : Key) where
  abbrev k : Key
  k = (n ∷ []) ∷ s

  abbrev Misses : Move → Type 0
  Misses m = touches m k ≡ false

  other_group : (group : Kind) (x : Key) → (rank group ≡ n → ⊥) → is_same (compare_keys (rank_part group ∷ x) k) ≡ false
  other_group group x h = apart_same_keys (rank_part group ∷ x) k (λ e. h cc)

  record-misses : (r : Rec) → (rank r.kind ≡ n → ⊥) → is_same (compare_keys (record_key r) k) ≡ false
  unfolding key_of
  record-misses r h = other_group r.kind (subject r.kind r.run) h

  set_misses : (r : Rec) → (rank r.kind ≡ n → ⊥) → (b : Bool) → Misses (set_or_drop b r)
  unfolding touches
  set_misses r h true = record-misses r h
  set_misses r h false = record-misses r h

  join_misses : (r : Rec) → (rank r.kind ≡ n → ⊥) → (b : Bool) → Misses (join_or_leave b r)
  unfolding touches
  join_misses r h true = record-misses r h
  join_misses r h false = record-misses r h

  put_misses : (r : Rec) → (rank r.kind ≡ n → ⊥) → Misses (put_m r)
  unfolding touches
  put_misses r h = record-misses r h

  drop_misses : (group : Kind) (x : Key) → (rank group ≡ n → ⊥) → Misses (drop_m (rank_part group ∷ x))
  unfolding touches
  drop_misses group x h = other_group group x h

  when_misses : (b : Bool) (ms : List Move) → All Misses ms → All Misses (cond b ms [])
  when_misses true ms h = h
  when_misses false ms h = tt

  given_misses : {A : Type 0} (o : Option A) (f : A → List Move) → ((a : A) → All Misses (f a)) → All Misses (given o [] f)
  given_misses none f h = tt
  given_misses (some a) f h = h a

  no_topic : eqb n (rank Topic) ≡ false
  unfolding rank
  no_topic = ne_eqb n 4 (λ e. omega arith)

  topic_move_misses : (name id : Bytes) (factor : ℕ) → Misses (topic_m name id factor)
  unfolding touches key_rank
  topic_move_misses name id factor = no_topic

  delete_misses : (name : Bytes) → Misses (delete_m name)
  unfolding touches key_rank apart_from topic_of rank
  delete_misses name = rw (no_topic, lt-leb n 9 past) (go (leb 4 n))
    where
      go : (b : Bool) → not (given (cond (b && false) (some (key_name k)) none) true (λ m. not (same_bytes m name))) ≡ false
      go true = refl
      go false = refl

  part_misses : (p : Run) → Misses (part_m p)
  unfolding touches key_of rank
  part_misses p = rw (other_group Partition (subject Partition p) (λ e. omega arith), other_group Topic (partition_topic p ∷ []) (λ e. omega arith)) refl

  directory_misses : (f p : Run) → All Misses (directory_moves f p)
  unfolding directory_moves touches key_of rank
  directory_misses f p =
      given_misses (slot_of (node_count (replicas p)) (value 3 f) (replicas p))
      (λ slot. directories_m (key_of Partition p) (assigned slot (value 4 f) (filled (node_count (replicas p)) (directories p))) ∷ [])
      (λ slot. (other_group Partition (subject Partition p) (λ e. omega arith), tt))

  update_misses : (f : Run) → All Misses (update_moves f)
  unfolding update_moves rank
  update_misses f = (
    part_misses p,
    all_append Misses (given (field 2 f) [] (λ eligible. given (field 3 f) [] (elr eligible))) (given (field 4 f) [] recovery)
        (given_misses (field 2 f) (λ eligible. given (field 3 f) [] (elr eligible)) (λ eligible. given_misses (field 3 f) (elr eligible) (elr_misses eligible)))
        (given_misses (field 4 f) recovery recovery_misses),
  )
    where
      p : Run
      p = run_of (value 1 f)

      elr : Bytes → Bytes → List Move
      elr eligible known = elr_move (elr_rec (value 1 p) (value 2 p) eligible known) ∷ []

      recovery : Bytes → List Move
      recovery state = recovery_move (recovery_rec (value 1 p) (value 2 p) state) ∷ []

      elr_misses : (eligible known : Bytes) → All Misses (elr eligible known)
      elr_misses eligible known =
          let r = elr_rec (value 1 p) (value 2 p) eligible known in
          (set_misses r (λ e. omega arith) (not (is_empty (value 3 r.run) && is_empty (value 4 r.run))), tt)

      recovery_misses : (state : Bytes) → All Misses (recovery state)
      recovery_misses state =
          let r = recovery_rec (value 1 p) (value 2 p) state in
          (set_misses r (λ e. omega arith) (not (eqb (number (value 3 r.run)) 0)), tt)

  plan_misses : (kind : Kind) (f : Run) (l : List Entry) → (rank kind ≡ n → ⊥) → All Misses (plan kind f l)
  unfolding plan touches rank
  plan_misses Topic f l h = (topic_move_misses (value 1 f) (value 2 f) (number (value 4 f)), tt)
  plan_misses Partition f l h = (part_misses f, tt)
  plan_misses BrokerRegistration f l h = (put_misses (rec BrokerRegistration f) h, tt)
  plan_misses DeleteTopic f l h = (delete_misses (value 1 f), tt)
  plan_misses TopicConfig f l h = (set_misses (rec TopicConfig f) h (is_some (field 2 f)), tt)
  plan_misses BrokerConfig f l h = (join_misses (rec BrokerConfig f) h (is_some (field 3 f)), tt)
  plan_misses ClientQuota f l h = (join_misses (sorted_quota f) (unfold sorted_quota in h) (is_some (field 3 f)), tt)
  plan_misses ProducerIds f l h = when_misses (is_above 8 (value 3 f) (stored_next l)) (put_m (rec ProducerIds f) ∷ []) (put_misses (rec ProducerIds f) h, tt)
  plan_misses UnregisterBroker f l h =
      when_misses (at_epoch (value 2 f) (broker_at (value 1 f) l)) (drop_m (node_key BrokerRegistration (value 1 f)) ∷ [])
      (drop_misses BrokerRegistration (number_part (value 1 f) ∷ []) (λ e. omega arith), tt)
  plan_misses KRaftVersion f l h = (refl, tt)
  plan_misses FeatureLevel f l h = (refl, (set_misses (rec FeatureLevel f) h (not (eqb (number (value 2 f)) 0)), tt))
  plan_misses ClientMetricsConfig f l h = (set_misses (rec ClientMetricsConfig f) h (is_some (field 2 f)), tt)
  plan_misses FeaturesEpoch f l h = (refl, tt)
  plan_misses PartitionDirAssignment f l h =
      given_misses (run_at (partition_key Partition (value 1 f) (value 2 f)) l) (directory_moves f) (directory_misses f)
  plan_misses PartitionOffsetAdvance f l h =
      (put_misses (rec PartitionOffsetAdvance (set_field 3 (sum_bytes (offset_sum (stored_offset f l) (value 3 f))) f)) h, tt)
  plan_misses GroupConfig f l h = (set_misses (rec GroupConfig f) h (is_some (field 2 f)), tt)
  plan_misses ControllerRegistration f l h = (put_misses (rec ControllerRegistration f) h, tt)
  plan_misses TopicFreeze f l h = (set_misses (rec TopicFreeze f) h (eqb (number (value 3 f)) 1), tt)
  plan_misses BreakGlassProposal f l h = (put_misses (rec BreakGlassProposal f) h, tt)
  plan_misses DeleteBreakGlassProposal f l h = (drop_misses BreakGlassProposal (value 1 f ∷ []) no_proposal, tt)
  plan_misses PartitionElr f l h = (set_misses (rec PartitionElr f) h (not (is_empty (value 3 f) && is_empty (value 4 f))), tt)
  plan_misses PartitionRecovery f l h = (set_misses (rec PartitionRecovery f) h (not (eqb (number (value 3 f)) 0)), tt)
  plan_misses PartitionUpdate f l h = update_misses f
  plan_misses BrokerRegistrationChange f l h =
      let b = changed_broker f (or_done (broker_at (value 1 f) l)) in
      when_misses (at_epoch (value 2 f) (broker_at (value 1 f) l)) (put_m (rec BrokerRegistration b) ∷ [])
      (put_misses (rec BrokerRegistration b) (λ e. omega arith), tt)
  plan_misses UnregisterController f l h = (drop_misses ControllerRegistration (number_part (value 1 f) ∷ []) (λ e. omega arith), tt)
  plan_misses LogOffset f l h = tt

  pub moved_other : (r : Rec) (c : Contents) → Asc key c.real → (rank r.kind ≡ n → ⊥) → get key k (moved r c).real ≡ get key k c.real
  unfolding moved
  moved_other r c a h = all_untouched k (plan r.kind r.run c.real) c a (plan_misses r.kind r.run c.real h)
