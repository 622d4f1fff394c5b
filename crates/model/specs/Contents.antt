-- What an image holds, and what it weighs.
use Prim.Native.Nat.{ℕ, ◌+◌, ◌-◌, Ordering}
use Rattle.std.specs.Prelude.{Bool, true, false, cond, ◌&&◌, ◌||◌, not, List, [], ◌∷◌, leb, ltb, eqb, length}
use Rattle.model.specs.Choice.{is_some, is_empty, every, total}
use Rattle.model.specs.Number.{Bytes, number, bytes, span, is_negative}
use Rattle.model.specs.Order.{Key, compare_keys, is_below, same_bytes}
use Rattle.model.specs.Run.{Run, done, item, run_of, field, value, values, set_field, drop_field}
use Rattle.model.specs.Kind.{kind_number}
use Rattle.model.specs.Record.{Rec, rec, record_bytes}
use Rattle.model.specs.Key.{rank, name_part, key_of, topic_key, key_rank, key_name, group_key, starts_with}
use Rattle.model.specs.Map.{any, count, ascending}
use Rattle.model.specs.declared.Kind.{Kind}
use Rattle.model.specs.declared.Kind.TheVariants.{Topic, Partition, BrokerRegistration, DeleteTopic, TopicConfig, BrokerConfig, ClientQuota, ProducerIds, UnregisterBroker, KRaftVersion, FeatureLevel, ClientMetricsConfig, FeaturesEpoch, PartitionDirAssignment}
use Rattle.model.specs.declared.Kind.TheVariants.{PartitionOffsetAdvance, GroupConfig, ControllerRegistration, TopicFreeze, BreakGlassProposal, DeleteBreakGlassProposal, PartitionElr, PartitionRecovery, PartitionUpdate, BrokerRegistrationChange, UnregisterController, LogOffset}

-- 1. Entries

-- A topic: name, id, count, replication factor, and whether the id index names this topic for its id. (Each id entry names a stored topic of
-- that id, so that is all the index can say.) A partition's fields. Any other record.
pub data Entry : Type 0 where
  topic : Bytes → Bytes → ℕ → ℕ → Bool → Entry
  part : Run → Entry
  plain : Rec → Entry

abbrev pub topic_run : Bytes → Bytes → ℕ → ℕ → Run → Run
topic_run name id count factor rest = item 1 name (item 2 id (item 3 (bytes 4 count) (item 4 (bytes 2 factor) rest)))

-- 01, "A stored entry is returned as its record"
unfoldable pub returned : Entry → Rec
returned (topic name id count factor named) = rec Topic (topic_run name id count factor done)
returned (part r) = rec Partition r
returned (plain r) = r

abbrev pub flag_bytes : Bool → Bytes
flag_bytes false = 0 ∷ 0 ∷ 0 ∷ 0 ∷ 0 ∷ []
flag_bytes true = 0 ∷ 0 ∷ 0 ∷ 0 ∷ 1 ∷ []

-- the record that stands in the image: a topic's has one field more
unfoldable pub kept : Entry → Rec
kept (topic name id count factor named) = rec Topic (topic_run name id count factor (item 5 (flag_bytes named) done))
kept (part r) = rec Partition r
kept (plain r) = r

unfoldable pub key : Entry → Key
key (topic name id count factor named) = topic_key name
key (part r) = key_of Partition r
key (plain r) = key_of r.kind r.run

abbrev pub record_key : Rec → Key
record_key r = key_of r.kind r.run

-- 2. Groups: the configs of a node, the quotas of an entity list

-- the record that an empty group weighs as: "its record with an empty name and no value"
unfoldable pub group_of : Rec → Rec
group_of r = rec r.kind (set_field 2 [] (drop_field 3 r.run))

-- whether an entry is of the same group
abbrev pub in_group_of : Rec → Key → Bool
in_group_of r k = starts_with (group_key (record_key r)) k

-- 3. Contents

-- the parts that are no entries: the features epoch, the kraft version, and the log offset of the last record applied, each as the unsigned
-- number of its bytes
pub record Fixed : Type 0 where
  pub epoch : ℕ
  pub kraft : ℕ
  pub offset : ℕ

pub record Contents : Type 0 where
  pub real : List Entry
  pub empties : List Rec
  pub fixed : Fixed

-- "Features epoch starts at -1"; 02, 5: the log offset is "-1 when fresh"
abbrev pub fresh : Contents
fresh = record { real = []; empties = []; fixed = record { epoch = span 8 - 1; kraft = 0; offset = span 8 - 1 } }

-- the same at another log offset
abbrev pub dated : ℕ → Contents → Contents
dated n c = record { real = c.real; empties = c.empties; fixed = record { epoch = c.fixed.epoch; kraft = c.fixed.kraft; offset = n } }

-- "its stored partitions' number"
unfoldable pub of_topic : Bytes → Key → Bool
of_topic name k = eqb (key_rank k) (rank Partition) && same_bytes (key_name k) name

unfoldable pub partitions : Bytes → List Entry → ℕ
partitions name l = count key (of_topic name) l

-- 4. Weight: 144 (02, 5: "Fixed room grows from 128 to 144"), "plus the snapshot's encoded records other than kinds 8, 10 and 13, plus 8 per
-- topic. An empty group weighs as its record with an empty name and no value." Kind 26 is "outside the weight".

abbrev pub fixed_room : ℕ
fixed_room = 144

abbrev pub is_producer_ids : Rec → Bool
is_producer_ids r = eqb (kind_number r.kind) (kind_number ProducerIds)

unfoldable pub size : Entry → ℕ
size (topic name id count factor named) = length (record_bytes (returned (topic name id count factor named))) + 8
size (part r) = length (record_bytes (rec Partition r))
size (plain r) = cond (is_producer_ids r) 0 (length (record_bytes r))

unfoldable pub weight : Contents → ℕ
weight c = fixed_room + total size c.real + total (λ r. length (record_bytes r)) c.empties

-- 5. What Apply stores

-- 01, "Quota entities are ordered by type", and 02, 8, "Entities of equal type are now ordered by name bytes, an absent name first": none is
-- above the next
abbrev pub entity_key : Bytes → Key
entity_key e = value 1 (run_of e) ∷ name_part (field 2 (run_of e)) ∷ []

abbrev pub entity_order : Bytes → Bytes → Ordering
entity_order a b = compare_keys (entity_key a) (entity_key b)

unfoldable pub entities_in_order : List Bytes → Bool
entities_in_order [] = true
entities_in_order (e ∷ []) = true
entities_in_order (e ∷ f ∷ es) = not (is_below (entity_order f e)) && entities_in_order (f ∷ es)

-- "no level 0, Recovered, thawed freeze, two empty ELR lists or empty topic, metrics or group configs; quota types in order; a next producer
-- id above 0"; by 02, 8, the names of equal types too
unfoldable pub storable : Kind → Run → Bool
storable BrokerRegistration r = true
storable ControllerRegistration r = true
storable BrokerConfig r = is_some (field 3 r)
storable Topic r = false
storable Partition r = false
storable PartitionOffsetAdvance r = true
storable PartitionElr r = not (is_empty (value 3 r) && is_empty (value 4 r))
storable PartitionRecovery r = not (eqb (number (value 3 r)) 0)
storable TopicConfig r = is_some (field 2 r)
storable ClientQuota r = is_some (field 3 r) && entities_in_order (values 1 r)
storable ProducerIds r = ltb 0 (number (value 3 r)) && not (is_negative 8 (number (value 3 r)))
storable ClientMetricsConfig r = is_some (field 2 r)
storable GroupConfig r = is_some (field 2 r)
storable TopicFreeze r = eqb (number (value 3 r)) 1
storable BreakGlassProposal r = true
storable FeatureLevel r = not (eqb (number (value 2 r)) 0)
storable FeaturesEpoch r = false
storable KRaftVersion r = false
storable DeleteTopic r = false
storable UnregisterBroker r = false
storable PartitionDirAssignment r = false
storable DeleteBreakGlassProposal r = false
storable PartitionUpdate r = false
storable BrokerRegistrationChange r = false
storable UnregisterController r = false
storable LogOffset r = false

-- an empty group's record: no value, an empty name, and a quota's entities in order
abbrev pub is_config : Rec → Bool
is_config r = eqb (kind_number r.kind) (kind_number BrokerConfig)

abbrev pub is_quota : Rec → Bool
is_quota r = eqb (kind_number r.kind) (kind_number ClientQuota)

abbrev pub is_bare : Rec → Bool
is_bare r = (is_config r || is_quota r) && not (is_some (field 3 r.run))

unfoldable pub is_group : Rec → Bool
is_group r = is_bare r && is_empty (value 2 r.run) && (is_config r || entities_in_order (values 1 r.run))

-- "each topic's count is from 0 to its stored partitions' number"
unfoldable pub storable_entry : List Entry → Entry → Bool
storable_entry l (topic name id count factor named) = leb count (partitions name l)
storable_entry l (part r) = true
storable_entry l (plain r) = storable r.kind r.run

-- "each id entry names a topic of that id": no id has two entries
unfoldable pub names_id : Bytes → Entry → Bool
names_id i (topic name id count factor named) = named && same_bytes id i
names_id i (part r) = false
names_id i (plain r) = false

unfoldable pub named_apart : List Entry → Bool
named_apart [] = true
named_apart (topic name id count factor named ∷ l) = (not named || every (λ e. not (names_id id e)) l) && named_apart l
named_apart (part r ∷ l) = named_apart l
named_apart (plain r ∷ l) = named_apart l

-- contents that an image may hold, but for their fields' shapes and the room
unfoldable pub sound : Contents → Bool
sound c =
    ascending key c.real && every (storable_entry c.real) c.real && named_apart c.real && ascending record_key c.empties &&
    every (λ r. is_group r && not (any key (in_group_of r) c.real)) c.empties
