-- A record that Validate accepts keeps contents good, where the contents before and after meet the premises and no epoch is negative.
use Rattle.std.specs.Prelude.{◌≡◌, List, [], ◌∷◌, ◌++◌, map, Bool, true, false, cond, ◌&&◌, not, ℕ, ◌+◌, ltb, eqb}
use Rattle.std.proofs.Math.Path.{refl}
use Rattle.std.proofs.Math.Option.{Option, none, some}
use Rattle.std.proofs.Common.{arith, ltb-true}
use Rattle.std.proofs.lemmas.Bool.{lt-leb}
use Rattle.model.specs.Choice.{given, is_some, is_empty}
use Rattle.model.specs.Number.{Bytes, number, half, is_negative}
use Rattle.model.specs.Run.{Run, run_of, field, value}
use Rattle.model.specs.Record.{Rec, rec}
use Rattle.model.specs.Key.{rank, key_rank, key_of, topic_key, partition_key, node_key}
use Rattle.model.specs.Map.{put, get}
use Rattle.model.specs.Contents.{Entry, topic, part, plain, key, record_key, Fixed, Contents, partitions}
use Rattle.model.specs.Move.{Move, put_m, drop_m, join_m, leave_m, topic_m, part_m, directories_m, delete_m, bump_m, epoch_m, kraft_m}
use Rattle.model.specs.Move.{clear_named, clear_old_named, count_of, partition_topic, replicas, node_count, set_directories, apart_from}
use Rattle.model.specs.Move.{on_real, bumped, on_fixed, move, moves, set_or_drop, join_or_leave, elr_move, recovery_move, update_moves}
use Rattle.model.specs.Move.{run_at, broker_at, at_epoch, or_done, stored_next, is_above, elr_rec, recovery_rec, changed_broker, slot_of, directory_moves}
use Rattle.model.specs.Move.{sorted_quota, plan, moved}
use Rattle.model.specs.Snapshot.{is_level}
use Rattle.model.specs.Validate.{topic_exists, unknown_topic, alone, against, judge}
use Rattle.model.specs.declared.Kind.{Kind}
use Rattle.model.specs.declared.Kind.TheVariants.{Topic, Partition, BrokerRegistration, DeleteTopic, TopicConfig, BrokerConfig, ClientQuota, ProducerIds, UnregisterBroker, KRaftVersion, FeatureLevel, ClientMetricsConfig, FeaturesEpoch, PartitionDirAssignment}
use Rattle.model.specs.declared.Kind.TheVariants.{PartitionOffsetAdvance, GroupConfig, ControllerRegistration, TopicFreeze, BreakGlassProposal, DeleteBreakGlassProposal, PartitionElr, PartitionRecovery, PartitionUpdate, BrokerRegistrationChange, UnregisterController, LogOffset}
use Rattle.laws.specs.Choice.{true_false, or_then_right}
use Rattle.laws.specs.Lists.{All, all_append, all_map}
use Rattle.laws.specs.Map.{Asc, all-put, all_remove, all_keep}
use Rattle.laws_image.specs.Snapshot.{Loggable}
use Rattle.laws_image.specs.Groups.{Grouped, config, quota}
use Rattle.laws_apply.specs.Entries.{key-clear_named, key-clear_old_named, told, key-told, key-directories}
use Rattle.laws_apply.specs.Topics.{Elsewhere, storable_elsewhere}
use Rattle.laws_apply.specs.Lawful.{Puts, Lawful}
use Rattle.laws_apply.specs.Moves.{Holds, move-holds}
use Rattle.laws_apply.specs.Plans.{plan_lawful}
use Rattle.history.specs.Good.{Premises, Accurate, NoLevels, Early, Good}
use Rattle.history.specs.Accurate.{part_accurate, exists_id, topic_accurate, delete_accurate}
use Rattle.history.specs.Accurate.{put_accurate, remove_accurate, directories_accurate}

-- 1. Levels: only a level's own record puts one

no_levels-map : (f : Entry → Entry) → ((e : Entry) → key (f e) ≡ key e) → (l : List Entry) → NoLevels l → NoLevels (map f l)
no_levels-map f same l u = all_map (λ e. is_level (key e) ≡ false) (λ e. is_level (key e) ≡ false) f (λ e h. rw (same e) h) l u

-- the moves that put no level
abbrev Unlevelled : Move → Type 0
Unlevelled (put_m r) = is_level (record_key r) ≡ false
Unlevelled (join_m r) = is_level (record_key r) ≡ false
Unlevelled (drop_m k) = Unit {0}
Unlevelled (leave_m r) = Unit {0}
Unlevelled (topic_m name id factor) = Unit {0}
Unlevelled (part_m r) = Unit {0}
Unlevelled (directories_m k v) = Unit {0}
Unlevelled (delete_m name) = Unit {0}
Unlevelled bump_m = Unit {0}
Unlevelled (epoch_m e) = Unit {0}
Unlevelled (kraft_m v) = Unit {0}

no_levels-move : (m : Move) → Unlevelled m → (l : List Entry) → NoLevels l → NoLevels (on_real m l)
unfolding on_real key is_level key_of key_rank rank
no_levels-move (put_m r) h l u = all-put key (λ e. is_level (key e) ≡ false) (plain r) l u h
no_levels-move (join_m r) h l u = all-put key (λ e. is_level (key e) ≡ false) (plain r) l u h
no_levels-move (drop_m k) h l u = all_remove key (λ e. is_level (key e) ≡ false) k l u
no_levels-move (leave_m r) h l u = all_remove key (λ e. is_level (key e) ≡ false) (record_key r) l u
no_levels-move (topic_m name id factor) h l u =
    let old = get key (topic_key name) l in
    let others = map (clear_old_named old) l in
    all-put key (λ e. is_level (key e) ≡ false) (topic name id (count_of old) factor true) (map (clear_named id) others)
    (no_levels-map (clear_named id) (key-clear_named id) others (no_levels-map (clear_old_named old) (key-clear_old_named old) l u)) refl
no_levels-move (part_m r) h l u =
    all-put key (λ e. is_level (key e) ≡ false) (part r) (map (told r l) l) (no_levels-map (told r l) (key-told r l) l u) refl
no_levels-move (directories_m k v) h l u = no_levels-map (set_directories k v) (key-directories k v) l u
no_levels-move (delete_m name) h l u =
    let old = get key (topic_key name) l in
    all_keep key (λ e. is_level (key e) ≡ false) (apart_from name) (map (clear_old_named old) l)
    (no_levels-map (clear_old_named old) (key-clear_old_named old) l u)
no_levels-move bump_m h l u = u
no_levels-move (epoch_m e) h l u = u
no_levels-move (kraft_m v) h l u = u

-- 2. The epoch

bumped_raised : (e : ℕ) → is_negative 8 (bumped e) ≡ false
unfolding bumped
bumped_raised e = go (is_negative 8 e) refl (ltb (e + 1) (half 8)) refl
  where
    go : (b : Bool) → is_negative 8 e ≡ b → (s : Bool) → ltb (e + 1) (half 8) ≡ s → is_negative 8 (cond b 0 (cond s (e + 1) e)) ≡ false
    go true p s q = refl
    go false p true q = lt-leb (half 8) (e + 1) (ltb-true (e + 1) (half 8) q)
    go false p false q = p

-- an epoch that is not negative asks nothing
early_raised : (e : ℕ) (l : List Entry) → is_negative 8 e ≡ false → Early e l
early_raised e l h q = absurd (true_false q h)

early_same : (m : Move) → Unlevelled m → (e : ℕ) (l : List Entry) → Early e l → Early e (on_real m l)
early_same m h e l early q = let u = early q in record { first = u.first; no_levels = no_levels-move m h l u.no_levels }

-- 3. Moves of other entries than topics and partitions

grouped_elsewhere : {k : Kind} → Grouped k → (f : Run) → Elsewhere (key_of k f)
unfolding key_of key_rank rank
grouped_elsewhere config f = record { no_topic = λ e. omega arith; no_partition = λ e. omega arith }
grouped_elsewhere quota f = record { no_topic = λ e. omega arith; no_partition = λ e. omega arith }

-- a move of these that puts no level and makes no epoch negative
abbrev Mild : Move → Type 0
Mild (put_m r) = is_level (record_key r) ≡ false
Mild (join_m r) = is_level (record_key r) ≡ false
Mild (drop_m k) = Unit {0}
Mild (leave_m r) = Unit {0}
Mild (directories_m k v) = Unit {0}
Mild bump_m = Unit {0}
Mild (epoch_m e) = is_negative 8 e ≡ false
Mild (kraft_m v) = Unit {0}
Mild (topic_m name id factor) = ⊥
Mild (part_m r) = ⊥
Mild (delete_m name) = ⊥

put_record : (r : Rec) → Puts r → (l : List Entry) → Accurate l → Accurate (put key (plain r) l)
unfolding key
put_record r p l t = put_accurate l (plain r) (storable_elsewhere r p.storable) t

mild_accurate : (m : Move) → Mild m → Lawful m → (l : List Entry) → Asc key l → Accurate l → Accurate (on_real m l)
unfolding on_real
mild_accurate (put_m r) h w l a t = put_record r w.0 l t
mild_accurate (join_m r) h w l a t = put_record r w.0 l t
mild_accurate (drop_m k) h w l a t = remove_accurate l k a w t
mild_accurate (leave_m r) h w l a t = remove_accurate l (record_key r) a (grouped_elsewhere w.grouped r.run) t
mild_accurate (directories_m k v) h w l a t = directories_accurate l k v t
mild_accurate bump_m h w l a t = t
mild_accurate (epoch_m e) h w l a t = t
mild_accurate (kraft_m v) h w l a t = t
mild_accurate (topic_m name id factor) h w l a t = absurd h
mild_accurate (part_m r) h w l a t = absurd h
mild_accurate (delete_m name) h w l a t = absurd h

mild_early : (m : Move) → Mild m → (f : Fixed) (l : List Entry) → Early f.epoch l → Early (on_fixed m f).epoch (on_real m l)
unfolding on_fixed
mild_early (put_m r) h f l e = early_same (put_m r) h f.epoch l e
mild_early (join_m r) h f l e = early_same (join_m r) h f.epoch l e
mild_early (drop_m k) h f l e = early_same (drop_m k) tt f.epoch l e
mild_early (leave_m r) h f l e = early_same (leave_m r) tt f.epoch l e
mild_early (directories_m k v) h f l e = early_same (directories_m k v) tt f.epoch l e
mild_early bump_m h f l e = early_raised (bumped f.epoch) (on_real bump_m l) (bumped_raised f.epoch)
mild_early (epoch_m n) h f l e = early_raised n (on_real (epoch_m n) l) h
mild_early (kraft_m v) h f l e = early_same (kraft_m v) tt f.epoch l e
mild_early (topic_m name id factor) h f l e = absurd h
mild_early (part_m r) h f l e = absurd h
mild_early (delete_m name) h f l e = absurd h

mild_good : (m : Move) → Mild m → Lawful m → (c : Contents) → Holds c → Good c → Good (move m c)
unfolding move
mild_good m h w c s good = record {
  accurate = mild_accurate m h w c.real s.ascends good.accurate;
  early = mild_early m h c.fixed c.real good.early;
}

milds_good : (ms : List Move) → All Mild ms → All Lawful ms → (c : Contents) → Holds c → Good c → Good (moves ms c)
unfolding moves
milds_good [] h w c s good = good
milds_good (m ∷ ms) h w c s good = milds_good ms h.1 w.1 (move m c) (move-holds m w.0 c s) (mild_good m h.0 w.0 c s good)

-- a move of topics or partitions, which leaves the epoch alone
special_good : (m : Move) (c : Contents) → Unlevelled m → on_fixed m c.fixed ≡ c.fixed → Accurate (on_real m c.real) → Good c
    → Good (move m c)
unfolding move
special_good m c h e t good = record { accurate = t; early = rw e (early_same m h c.fixed.epoch c.real good.early) }

-- 4. Plans

set_mild : (b : Bool) (r : Rec) → is_level (record_key r) ≡ false → Mild (set_or_drop b r)
set_mild true r h = h
set_mild false r h = tt

join_mild : (b : Bool) (r : Rec) → is_level (record_key r) ≡ false → Mild (join_or_leave b r)
join_mild true r h = h
join_mild false r h = tt

when_mild : (b : Bool) (m : Move) → Mild m → All Mild (cond b (m ∷ []) [])
when_mild true m h = (h, tt)
when_mild false m h = tt

given_mild : {A : Type 0} (o : Option A) (ms : A → List Move) → ((a : A) → All Mild (ms a)) → All Mild (given o [] ms)
given_mild none ms h = tt
given_mild (some a) ms h = h a

elr_mild : (r : Rec) → is_level (record_key r) ≡ false → Mild (elr_move r)
elr_mild r h = set_mild (not (is_empty (value 3 r.run) && is_empty (value 4 r.run))) r h

recovery_mild : (r : Rec) → is_level (record_key r) ≡ false → Mild (recovery_move r)
recovery_mild r h = set_mild (not (eqb (number (value 3 r.run)) 0)) r h

directory_mild : (f p : Run) → All Mild (directory_moves f p)
unfolding directory_moves
directory_mild f p = given_mild (slot_of (node_count (replicas p)) (value 3 f) (replicas p)) _ (λ slot. (tt, tt))

-- what an update does behind its partition
abbrev elr_moves : Run → Run → List Move
elr_moves f p =
    given (field 2 f) [] λ eligible. given (field 3 f) [] λ known. elr_move (elr_rec (value 1 p) (value 2 p) eligible known) ∷ []

abbrev recovery_moves : Run → Run → List Move
recovery_moves f p = given (field 4 f) [] λ state. recovery_move (recovery_rec (value 1 p) (value 2 p) state) ∷ []

update_mild : (f p : Run) → All Mild (elr_moves f p ++ recovery_moves f p)
unfolding key_of key_rank rank is_level
update_mild f p =
    all_append Mild (elr_moves f p) (recovery_moves f p)
    (given_mild (field 2 f) _ λ eligible. given_mild (field 3 f) _ λ known.
    (elr_mild (elr_rec (value 1 p) (value 2 p) eligible known) refl, tt))
    (given_mild (field 4 f) _ λ state. (recovery_mild (recovery_rec (value 1 p) (value 2 p) state) refl, tt))

-- a level's record raises the epoch first, so that it is not asked for levels
level_good : (b : Bool) (r : Rec) → Lawful (set_or_drop b r) → (c : Contents) → Holds c → Good c → Good (moves (bump_m ∷ set_or_drop b r ∷ []) c)
unfolding moves move on_real on_fixed
level_good b r w c s good = go b w
  where
    raised : (l : List Entry) → Early (bumped c.fixed.epoch) l
    raised l = early_raised (bumped c.fixed.epoch) l (bumped_raised c.fixed.epoch)

    go : (t : Bool) → Lawful (set_or_drop t r) → Good (move (set_or_drop t r) (move bump_m c))
    go true v = record { accurate = put_record r v.0 c.real good.accurate; early = raised _ }
    go false v = record { accurate = remove_accurate c.real (record_key r) s.ascends v good.accurate; early = raised _ }

module _ (c : Contents) (s : Holds c) (good : Good c) where
  abbrev l : List Entry
  l = c.real

  part_good : (r : Run) → unknown_topic (get key (topic_key (partition_topic r)) l) ≡ 0 → Good (move (part_m r) c)
  unfolding on_fixed
  part_good r ok = special_good (part_m r) c tt refl (part_accurate l r good.accurate ok) good

  topic_good : (f : Run) → topic_exists f (partitions (value 1 f) l) (get key (topic_key (value 1 f)) l) ≡ 0
      → Premises (on_real (topic_m (value 1 f) (value 2 f) (number (value 4 f))) l)
      → Good (move (topic_m (value 1 f) (value 2 f) (number (value 4 f))) c)
  unfolding on_fixed
  topic_good f ok premise =
      let keeps = exists_id f (partitions (value 1 f) l) (get key (topic_key (value 1 f)) l) ok in
      special_good (topic_m (value 1 f) (value 2 f) (number (value 4 f))) c tt refl
      (topic_accurate l (value 1 f) (value 2 f) (number (value 4 f)) good.accurate keeps premise) good

  delete_good : (name : Bytes) → Premises l → Good (move (delete_m name) c)
  unfolding on_fixed
  delete_good name premise = special_good (delete_m name) c tt refl (delete_accurate l s.ascends name good.accurate premise) good

  plan_good : (k : Kind) (f : Run) → All Lawful (plan k f l) → against k f l ≡ 0
      → (k ≡ FeaturesEpoch → is_negative 8 (number (value 1 f)) ≡ false) → Premises l → Premises (moves (plan k f l) c).real
      → Good (moves (plan k f l) c)
  unfolding plan against moves move key_of key_rank rank is_level sorted_quota update_moves
  plan_good Topic f w ok mild before after = topic_good f ok after
  plan_good Partition f w ok mild before after = part_good f ok
  plan_good PartitionUpdate f w ok mild before after =
      let p = run_of (value 1 f) in
      milds_good (elr_moves f p ++ recovery_moves f p) (update_mild f p) w.1 (move (part_m p) c) (move-holds (part_m p) w.0 c s) (part_good p ok)
  plan_good DeleteTopic f w ok mild before after = delete_good (value 1 f) before
  plan_good FeatureLevel f w ok mild before after = level_good (not (eqb (number (value 2 f)) 0)) (rec FeatureLevel f) w.1.0 c s good
  plan_good FeaturesEpoch f w ok mild before after = milds_good (plan FeaturesEpoch f l) (mild refl, tt) w c s good
  plan_good KRaftVersion f w ok mild before after = milds_good (plan KRaftVersion f l) (tt, tt) w c s good
  plan_good BrokerRegistration f w ok mild before after = milds_good (plan BrokerRegistration f l) (refl, tt) w c s good
  plan_good ControllerRegistration f w ok mild before after = milds_good (plan ControllerRegistration f l) (refl, tt) w c s good
  plan_good BreakGlassProposal f w ok mild before after = milds_good (plan BreakGlassProposal f l) (refl, tt) w c s good
  plan_good PartitionOffsetAdvance f w ok mild before after = milds_good (plan PartitionOffsetAdvance f l) (refl, tt) w c s good
  plan_good DeleteBreakGlassProposal f w ok mild before after = milds_good (plan DeleteBreakGlassProposal f l) (tt, tt) w c s good
  plan_good UnregisterController f w ok mild before after = milds_good (plan UnregisterController f l) (tt, tt) w c s good
  plan_good LogOffset f w ok mild before after = milds_good (plan LogOffset f l) tt w c s good
  plan_good TopicConfig f w ok mild before after =
      milds_good (plan TopicConfig f l) (set_mild (is_some (field 2 f)) (rec TopicConfig f) refl, tt) w c s good
  plan_good ClientMetricsConfig f w ok mild before after =
      milds_good (plan ClientMetricsConfig f l) (set_mild (is_some (field 2 f)) (rec ClientMetricsConfig f) refl, tt) w c s good
  plan_good GroupConfig f w ok mild before after =
      milds_good (plan GroupConfig f l) (set_mild (is_some (field 2 f)) (rec GroupConfig f) refl, tt) w c s good
  plan_good TopicFreeze f w ok mild before after =
      milds_good (plan TopicFreeze f l) (set_mild (eqb (number (value 3 f)) 1) (rec TopicFreeze f) refl, tt) w c s good
  plan_good PartitionElr f w ok mild before after =
      milds_good (plan PartitionElr f l) (elr_mild (rec PartitionElr f) refl, tt) w c s good
  plan_good PartitionRecovery f w ok mild before after =
      milds_good (plan PartitionRecovery f l) (recovery_mild (rec PartitionRecovery f) refl, tt) w c s good
  plan_good BrokerConfig f w ok mild before after =
      milds_good (plan BrokerConfig f l) (join_mild (is_some (field 3 f)) (rec BrokerConfig f) refl, tt) w c s good
  plan_good ClientQuota f w ok mild before after =
      milds_good (plan ClientQuota f l) (join_mild (is_some (field 3 f)) (sorted_quota f) refl, tt) w c s good
  plan_good ProducerIds f w ok mild before after =
      milds_good (plan ProducerIds f l) (when_mild (is_above 8 (value 3 f) (stored_next l)) (put_m (rec ProducerIds f)) refl) w c s good
  plan_good UnregisterBroker f w ok mild before after =
      let gone = drop_m (node_key BrokerRegistration (value 1 f)) in
      milds_good (plan UnregisterBroker f l) (when_mild (at_epoch (value 2 f) (broker_at (value 1 f) l)) gone tt) w c s good
  plan_good BrokerRegistrationChange f w ok mild before after =
      let changed = put_m (rec BrokerRegistration (changed_broker f (or_done (broker_at (value 1 f) l)))) in
      milds_good (plan BrokerRegistrationChange f l) (when_mild (at_epoch (value 2 f) (broker_at (value 1 f) l)) changed refl) w c s good
  plan_good PartitionDirAssignment f w ok mild before after =
      let mine = run_at (partition_key Partition (value 1 f) (value 2 f)) l in
      milds_good (plan PartitionDirAssignment f l) (given_mild mine (directory_moves f) (directory_mild f)) w c s good

-- 5. Records

-- "no epoch record is negative"
abbrev pub MildRecord : Rec → Type 0
MildRecord r = r.kind ≡ FeaturesEpoch → is_negative 8 (number (value 1 r.run)) ≡ false

pub good_moved : (r : Rec) → Loggable r → MildRecord r → (c : Contents) → Holds c → Good c → judge r c.real ≡ 0
    → Premises c.real → Premises (moved r c).real → Good (moved r c)
unfolding moved judge
good_moved r given mild c s good ok before after =
    let lawful = plan_lawful r.kind r.run c.real given.0 given.1 s.entries in
    let passes = or_then_right (alone r.kind r.run) (against r.kind r.run c.real) ok in
    plan_good c s good r.kind r.run lawful passes mild before after
