-- How the image moves: 01's section of that name. Each kind is a short list of moves; `moved` makes them in order.
use Rattle.std.specs.Prelude.{ℕ, zero, suc, ◌+◌, ◌*◌, ◌-◌, ◌/◌, Bool, true, false, cond, ◌&&◌, ◌||◌, not, List, [], ◌∷◌, ◌++◌, map, leb, ltb, eqb, length, take, drop, replicate}
use Rattle.std.proofs.Math.Option.{Option, none, some}
use Rattle.model.specs.Choice.{choose, given, is_some, is_empty}
use Rattle.model.specs.Number.{Bytes, number, bytes, span, half, place, is_negative}
use Rattle.model.specs.Order.{Key, compare_keys, same_bytes, is_same}
use Rattle.model.specs.Run.{Run, done, item, items, run_of, field, value, values, set_field, drop_field}
use Rattle.model.specs.Kind.{kind_number}
use Rattle.model.specs.Record.{Rec, rec}
use Rattle.model.specs.Key.{rank, key_rank, key_of, topic_key, partition_key, node_key, name_key, producer_key, topic_of}
use Rattle.model.specs.Map.{put, get, remove, keep, any}
use Rattle.model.specs.Contents.{Entry, topic, part, plain, key, record_key, group_of, in_group_of, entity_order, Fixed, Contents}
use Rattle.model.specs.declared.Kind.{Kind}
use Rattle.model.specs.declared.Kind.TheVariants.{Topic, Partition, BrokerRegistration, DeleteTopic, TopicConfig, BrokerConfig, ClientQuota, ProducerIds, UnregisterBroker, KRaftVersion, FeatureLevel, ClientMetricsConfig, FeaturesEpoch, PartitionDirAssignment}
use Rattle.model.specs.declared.Kind.TheVariants.{PartitionOffsetAdvance, GroupConfig, ControllerRegistration, TopicFreeze, BreakGlassProposal, DeleteBreakGlassProposal, PartitionElr, PartitionRecovery, PartitionUpdate, BrokerRegistrationChange, UnregisterController, LogOffset}

-- 1. Moves

pub data Move : Type 0 where
  -- store a record in its key's place; take the entry of a key out
  put_m : Rec → Move
  drop_m : Key → Move
  -- the same of a member of a group, which is then no empty group, or is one if no other is left
  join_m : Rec → Move
  leave_m : Rec → Move
  -- a topic's name, id and replication factor; a partition's fields; a partition's directories by its key; a topic's end
  topic_m : Bytes → Bytes → ℕ → Move
  part_m : Run → Move
  directories_m : Key → Bytes → Move
  delete_m : Bytes → Move
  -- the fixed parts
  bump_m : Move
  epoch_m : ℕ → Move
  kraft_m : ℕ → Move

-- the id index names no topic for this id
unfoldable pub clear_named : Bytes → Entry → Entry
clear_named i (topic name id count factor named) = topic name id count factor (cond (same_bytes id i) false named)
clear_named i (part r) = part r
clear_named i (plain r) = plain r

-- the same for the id of a stored topic
unfoldable pub clear_old_named : Option Entry → Entry → Entry
clear_old_named none e = e
clear_old_named (some (topic name id count factor named)) e = clear_named id e
clear_old_named (some (part r)) e = e
clear_old_named (some (plain r)) e = e

-- "the stored count stays, else 0"
unfoldable pub count_of : Option Entry → ℕ
count_of none = 0
count_of (some (topic name id count factor named)) = count
count_of (some (part r)) = 0
count_of (some (plain r)) = 0

-- "a new one adds 1 to its topic's count; the replica count becomes the replication factor"
unfoldable pub count_partition : Bytes → ℕ → ℕ → Entry → Entry
count_partition name new replicas (topic n id count factor named) =
    cond (same_bytes n name) (topic n id (count + new) replicas named) (topic n id count factor named)
count_partition name new replicas (part r) = part r
count_partition name new replicas (plain r) = plain r

abbrev pub is_new : Option Entry → ℕ
is_new none = 1
is_new (some e) = 0

-- a partition's topic, node lists and directories, by the Rust's names
abbrev pub partition_topic : Run → Bytes
partition_topic r = value 1 r

abbrev pub replicas : Run → Bytes
replicas r = value 4 r

abbrev pub isr : Run → Bytes
isr r = value 5 r

abbrev pub adding : Run → Bytes
adding r = value 7 r

abbrev pub directories : Run → Bytes
directories r = value 9 r

abbrev pub node_width : ℕ
node_width = 8

abbrev pub id_width : ℕ
id_width = 16

-- how many nodes a list has
abbrev pub node_count : Bytes → ℕ
node_count v = length v / node_width

unfoldable pub set_directories : Key → Bytes → Entry → Entry
set_directories k v (topic name id count factor named) = topic name id count factor named
set_directories k v (part r) = part (cond (is_same (compare_keys (key_of Partition r) k)) (set_field 9 v r) r)
set_directories k v (plain r) = plain r

-- "removes the topic, its id's entry, partitions, offsets, ELR, recovery and configs"
unfoldable pub apart_from : Bytes → Key → Bool
apart_from name k = given (topic_of k) true (λ n. not (same_bytes n name))

unfoldable pub on_real : Move → List Entry → List Entry
on_real (put_m r) l = put key (plain r) l
on_real (drop_m k) l = remove key k l
on_real (join_m r) l = put key (plain r) l
on_real (leave_m r) l = remove key (record_key r) l
-- "A changed id drops the old id's entry; the record's id, changed or not, then names this topic."
on_real (topic_m name id factor) l =
    let old = get key (topic_key name) l in
    put key (topic name id (count_of old) factor true) (map (clear_named id) (map (clear_old_named old) l))
on_real (part_m r) l = put key (part r) (map (count_partition (partition_topic r) (is_new (get key (key_of Partition r) l)) (node_count (replicas r))) l)
on_real (directories_m k v) l = map (set_directories k v) l
on_real (delete_m name) l = keep key (apart_from name) (map (clear_old_named (get key (topic_key name) l)) l)
on_real bump_m l = l
on_real (epoch_m e) l = l
on_real (kraft_m v) l = l

-- the empty groups, given the real entries before the move
unfoldable pub on_empties : Move → List Entry → List Rec → List Rec
on_empties (join_m r) l g = remove record_key (record_key (group_of r)) g
-- "Removing the last broker config or quota leaves an empty group, and removing from an unknown node or entity list makes one."
on_empties (leave_m r) l g = cond (any key (in_group_of r) (remove key (record_key r) l)) g (put record_key (group_of r) g)
on_empties (put_m r) l g = g
on_empties (drop_m k) l g = g
on_empties (topic_m name id factor) l g = g
on_empties (part_m r) l g = g
on_empties (directories_m k v) l g = g
on_empties (delete_m name) l g = g
on_empties bump_m l g = g
on_empties (epoch_m e) l g = g
on_empties (kraft_m v) l g = g

-- "each FeatureLevel makes it max(0, epoch + 1), saturating"
unfoldable pub bumped : ℕ → ℕ
bumped e = cond (is_negative 8 e) 0 (cond (ltb (e + 1) (half 8)) (e + 1) e)

unfoldable pub on_fixed : Move → Fixed → Fixed
on_fixed bump_m f = record { epoch = bumped f.epoch; kraft = f.kraft; offset = f.offset }
on_fixed (epoch_m e) f = record { epoch = e; kraft = f.kraft; offset = f.offset }
on_fixed (kraft_m v) f = record { epoch = f.epoch; kraft = v; offset = f.offset }
on_fixed (put_m r) f = f
on_fixed (drop_m k) f = f
on_fixed (join_m r) f = f
on_fixed (leave_m r) f = f
on_fixed (topic_m name id factor) f = f
on_fixed (part_m r) f = f
on_fixed (directories_m k v) f = f
on_fixed (delete_m name) f = f

unfoldable pub move : Move → Contents → Contents
move m c = record { real = on_real m c.real; empties = on_empties m c.real c.empties; fixed = on_fixed m c.fixed }

unfoldable pub moves : List Move → Contents → Contents
moves [] c = c
moves (m ∷ ms) c = moves ms (move m c)

-- the keys whose entry a move may change: every other key keeps its entry
abbrev is_topic_key : Key → Bool
is_topic_key k = eqb (key_rank k) (rank Topic)

abbrev same_key : Key → Key → Bool
same_key a b = is_same (compare_keys a b)

unfoldable pub touches : Move → Key → Bool
touches (put_m r) k = same_key (record_key r) k
touches (drop_m d) k = same_key d k
touches (join_m r) k = same_key (record_key r) k
touches (leave_m r) k = same_key (record_key r) k
touches (topic_m name id factor) k = is_topic_key k
touches (part_m r) k = same_key (key_of Partition r) k || same_key (topic_key (partition_topic r)) k
touches (directories_m p v) k = same_key p k
touches (delete_m name) k = is_topic_key k || not (apart_from name k)
touches bump_m k = false
touches (epoch_m e) k = false
touches (kraft_m v) k = false

-- 2. What is stored, as the rules ask for it

-- the fields of an entry that is no topic
unfoldable pub fields : Option Entry → Option Run
fields none = none
fields (some (topic name id count factor named)) = none
fields (some (part r)) = some r
fields (some (plain r)) = some r.run

abbrev pub run_at : Key → List Entry → Option Run
run_at k l = fields (get key k l)

-- the broker of a node, and whether it is registered at an epoch
abbrev pub broker_at : Bytes → List Entry → Option Run
broker_at node l = run_at (node_key BrokerRegistration node) l

abbrev pub at_epoch : Bytes → Option Run → Bool
at_epoch epoch none = false
at_epoch epoch (some b) = same_bytes (value 2 b) epoch

abbrev pub or_done : Option Run → Run
or_done none = done
or_done (some b) = b

-- "ProducerIds act if the next id is above the stored (else 0)"
abbrev pub stored_next : List Entry → Bytes
stored_next l = given (run_at producer_key l) (bytes 8 0) (value 3)

-- signed order, by place
abbrev pub is_above : ℕ → Bytes → Bytes → Bool
is_above width a b = ltb (place width (number b)) (place width (number a))

-- 3. Records that moves store

abbrev pub elr_rec : Bytes → Bytes → Bytes → Bytes → Rec
elr_rec name number eligible known = rec PartitionElr (item 1 name (item 2 number (item 3 eligible (item 4 known done))))

abbrev pub recovery_rec : Bytes → Bytes → Bytes → Rec
recovery_rec name number state = rec PartitionRecovery (item 1 name (item 2 number (item 3 state done)))

-- a record of a set-or-remove kind: stored where a test holds, else its key's entry is taken out
abbrev pub set_or_drop : Bool → Rec → Move
set_or_drop true r = put_m r
set_or_drop false r = drop_m (record_key r)

abbrev pub join_or_leave : Bool → Rec → Move
join_or_leave true r = join_m r
join_or_leave false r = leave_m r

-- "Two empty ELR lists, or Recovered, remove the entry"
abbrev pub elr_move : Rec → Move
elr_move r = set_or_drop (not (is_empty (value 3 r.run) && is_empty (value 4 r.run))) r

abbrev pub recovery_move : Rec → Move
recovery_move r = set_or_drop (not (eqb (number (value 3 r.run)) 0)) r

-- "partition, then ELR if both lists are present, then recovery if present"
unfoldable pub update_moves : Run → List Move
update_moves r =
    let p = run_of (value 1 r) in
    part_m p ∷
    given (field 2 r) [] (λ eligible. given (field 3 r) [] (λ known. elr_move (elr_rec (value 1 p) (value 2 p) eligible known) ∷ [])) ++
    given (field 4 r) [] (λ state. recovery_move (recovery_rec (value 1 p) (value 2 p) state) ∷ [])

-- "act only at the stored epoch. A change ORs shutdown; empty log dirs or absent cordoned dirs keep the old."
abbrev pub fenced_after : ℕ → Bytes → Bytes
fenced_after change old = cond (eqb change 0) (0 ∷ []) (cond (eqb change 1) old (1 ∷ []))

unfoldable pub changed_broker : Run → Run → Run
changed_broker change b =
    let fenced = set_field 9 (fenced_after (number (value 3 change)) (value 9 b)) b in
    let shutdown = set_field 10 (cond (eqb (number (value 4 change)) 1) (1 ∷ []) (value 10 b)) fenced in
    let dirs = cond (is_empty (value 5 change)) shutdown (set_field 8 (value 5 change) shutdown) in
    given (field 6 change) dirs (λ cordoned. set_field 11 cordoned dirs)

-- "DirAssignment: the first slot of that replica; directories shorter than replicas are first filled with `MIGRATING`. An unknown partition or
-- replica changes nothing."
unfoldable pub slot_of : ℕ → Bytes → Bytes → Option ℕ
slot_of zero node list = none
slot_of (suc most) node list =
    cond (is_empty list) none
    (cond (same_bytes (take node_width list) node) (some 0) (given (slot_of most node (drop node_width list)) none (λ n. some (suc n))))

abbrev pub filled : ℕ → Bytes → Bytes
filled count dirs = dirs ++ replicate (count * id_width - length dirs) 0

abbrev pub assigned : ℕ → Bytes → Bytes → Bytes
assigned slot id dirs = take (slot * id_width) dirs ++ id ++ drop (slot * id_width + id_width) dirs

unfoldable pub directory_moves : Run → Run → List Move
directory_moves r p =
    given (slot_of (node_count (replicas p)) (value 3 r) (replicas p)) [] λ slot.
    directories_m (key_of Partition p) (assigned slot (value 4 r) (filled (node_count (replicas p)) (directories p))) ∷ []

-- 02, 8: "Entities of equal type are now ordered by name bytes, an absent name first": a sort by the comparison of entities
unfoldable pub insert_entity : Bytes → List Bytes → List Bytes
insert_entity e [] = e ∷ []
insert_entity e (x ∷ l) = choose (entity_order e x) (e ∷ x ∷ l) (e ∷ x ∷ l) (x ∷ insert_entity e l)

unfoldable pub sorted_entities : List Bytes → List Bytes
sorted_entities [] = []
sorted_entities (e ∷ l) = insert_entity e (sorted_entities l)

unfoldable pub sorted_quota : Run → Rec
sorted_quota r = rec ClientQuota (items 1 (sorted_entities (values 1 r)) (drop_field 1 r))

-- the offset after an advance: a sum of signed numbers, by place
abbrev pub offset_sum : Bytes → Bytes → ℕ
offset_sum a b = place 8 (number a) + place 8 (number b)

abbrev pub sum_leaves : ℕ → Bool
sum_leaves s = ltb s (half 8) || leb (half 8 + span 8) s

abbrev pub sum_bytes : ℕ → Bytes
sum_bytes s = bytes 8 (place 8 (s - half 8))

abbrev pub stored_offset : Run → List Entry → Bytes
stored_offset r l = given (run_at (key_of PartitionOffsetAdvance r) l) (bytes 8 0) (value 3)

-- 4. The moves of a record, given what is stored

unfoldable pub plan : Kind → Run → List Entry → List Move
plan Topic f l = topic_m (value 1 f) (value 2 f) (number (value 4 f)) ∷ []
plan Partition f l = part_m f ∷ []
plan BrokerRegistration f l = put_m (rec BrokerRegistration f) ∷ []
plan DeleteTopic f l = delete_m (value 1 f) ∷ []
plan TopicConfig f l = set_or_drop (is_some (field 2 f)) (rec TopicConfig f) ∷ []
plan BrokerConfig f l = join_or_leave (is_some (field 3 f)) (rec BrokerConfig f) ∷ []
plan ClientQuota f l = join_or_leave (is_some (field 3 f)) (sorted_quota f) ∷ []
plan ProducerIds f l = cond (is_above 8 (value 3 f) (stored_next l)) (put_m (rec ProducerIds f) ∷ []) []
plan UnregisterBroker f l = cond (at_epoch (value 2 f) (broker_at (value 1 f) l)) (drop_m (node_key BrokerRegistration (value 1 f)) ∷ []) []
plan KRaftVersion f l = kraft_m (number (value 1 f)) ∷ []
plan FeatureLevel f l = bump_m ∷ set_or_drop (not (eqb (number (value 2 f)) 0)) (rec FeatureLevel f) ∷ []
plan ClientMetricsConfig f l = set_or_drop (is_some (field 2 f)) (rec ClientMetricsConfig f) ∷ []
plan FeaturesEpoch f l = epoch_m (number (value 1 f)) ∷ []
plan PartitionDirAssignment f l = given (run_at (partition_key Partition (value 1 f) (value 2 f)) l) [] (directory_moves f)
plan PartitionOffsetAdvance f l =
    put_m (rec PartitionOffsetAdvance (set_field 3 (sum_bytes (offset_sum (stored_offset f l) (value 3 f))) f)) ∷ []
plan GroupConfig f l = set_or_drop (is_some (field 2 f)) (rec GroupConfig f) ∷ []
plan ControllerRegistration f l = put_m (rec ControllerRegistration f) ∷ []
plan TopicFreeze f l = set_or_drop (eqb (number (value 3 f)) 1) (rec TopicFreeze f) ∷ []
plan BreakGlassProposal f l = put_m (rec BreakGlassProposal f) ∷ []
plan DeleteBreakGlassProposal f l = drop_m (name_key BreakGlassProposal (value 1 f)) ∷ []
plan PartitionElr f l = elr_move (rec PartitionElr f) ∷ []
plan PartitionRecovery f l = recovery_move (rec PartitionRecovery f) ∷ []
plan PartitionUpdate f l = update_moves f
plan BrokerRegistrationChange f l =
    cond (at_epoch (value 2 f) (broker_at (value 1 f) l)) (put_m (rec BrokerRegistration (changed_broker f (or_done (broker_at (value 1 f) l)))) ∷ []) []
plan UnregisterController f l = drop_m (node_key ControllerRegistration (value 1 f)) ∷ []
plan LogOffset f l = []

unfoldable pub moved : Rec → Contents → Contents
moved r c = moves (plan r.kind r.run c.real) c

-- 17: "the offset sum leaves i64"
unfoldable pub overflows : Rec → List Entry → Bool
overflows r l =
    eqb (kind_number r.kind) (kind_number PartitionOffsetAdvance) && sum_leaves (offset_sum (stored_offset r.run l) (value 3 r.run))
