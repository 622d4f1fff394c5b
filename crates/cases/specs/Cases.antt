-- M1 to M10 of 01's "Checked by hand", as 02's request 5 moves them: one table, one theorem. The rows are about the operations' functions on
-- bytes, and they compute. Records are given with the log offsets 0, 1.
use Rattle.std.specs.Prelude.{◌≡◌, refl, ℕ, ◌-◌, ◌^◌, List, [], ◌∷◌, ◌++◌, length, take, drop, replicate}
use Rattle.model.specs.Number.{Bytes, number, bytes}
use Rattle.model.specs.Number as Number
use Rattle.model.specs.Run as Run
use Rattle.model.specs.Choice as Choice
use Rattle.model.specs.Text as Text
use Rattle.model.specs.Order as Order
use Rattle.model.specs.Kind as Kind
use Rattle.model.specs.Nodes as Nodes
use Rattle.model.specs.Shape as Shape
use Rattle.model.specs.Reply as Reply
use Rattle.model.specs.Record as Record
use Rattle.model.specs.Key as Key
use Rattle.model.specs.Map as Map
use Rattle.model.specs.Contents as Contents
use Rattle.model.specs.Items as Items
use Rattle.model.specs.Image as Image
use Rattle.model.specs.Move as Move
use Rattle.model.specs.Validate as Validate
use Rattle.model.specs.Apply as Apply
use Rattle.model.specs.Snapshot as Snapshot
use Rattle.model.specs.Lookup as Lookup
use Rattle.model.specs.History.{written}
use Rattle.cases.specs.Inputs.{p, ro, room, room_7, r, underscores, underscores-room, level, next_id, frozen, topic_named, partition, advance, directory}
use Rattle.cases.specs.Inputs.{offset_is, opened, output, field_of}

-- 1. Operations in a row

abbrev applied : Bytes → ℕ → Bytes → Bytes
applied image n input = (Apply.apply_of image n input).buffer

abbrev apply_number : Bytes → ℕ → Bytes → ℕ
apply_number image n input = (Apply.apply_of image n input).reply.number

abbrev shot : Bytes → Bytes
shot image = written (Snapshot.snapshot_of image output)

-- the snapshot of an image, restored at its capacity
abbrev restarted : Bytes → Bytes
restarted image = (Snapshot.restore_of (shot image) (replicate (length image) 9)).buffer

abbrev frozen_scope : Bytes → Bytes → Bytes
frozen_scope image name = field_of 1 (Lookup.freeze_of image name output)

abbrev topic_count : Bytes → ℕ
topic_count image = number (field_of 3 (Lookup.topic_by_name image p output))

-- 2. Images

abbrev prefixes : Bytes
prefixes = applied (applied (opened 400) 0 (frozen ro)) 1 (frozen room)

abbrev internal : Bytes
internal = applied (opened 400) 0 (frozen underscores)

abbrev orphaned : Bytes
orphaned = applied (applied (opened 400) 0 (partition p 1 (bytes 8 1) [])) 1 (topic_named p 9)

abbrev advanced : Bytes
advanced = applied (opened 400) 0 (advance (2 ^ 63 - 1))

-- an id D, and an id E
abbrev D : Bytes
D = bytes 16 0xd

abbrev E : Bytes
E = bytes 16 0xe

abbrev directed : Bytes
directed = applied (applied (opened 400) 0 (partition p 0 (bytes 8 1 ++ bytes 8 2 ++ bytes 8 3) D)) 1 (directory p 0 3 E)

-- 3. The table

-- what the operations answer, and what 01 says
pub record Case : Type 0 where
  pub answers : List ℕ
  pub expected : List ℕ

abbrev case : List ℕ → List ℕ → Case
case answers expected = record { answers = answers; expected = expected }

unfoldable pub cases : List Case
cases =
    -- M1 empty input reads as 2
    case ((Record.read_of []).number ∷ []) (2 ∷ []) ∷
    -- M2 the bytes above read as 12 used
    case ((Record.read_of (level 1)).number ∷ (Record.read_of (level 1)).values) (0 ∷ 12 ∷ []) ∷
    -- M3 fresh, a=1, a=0: epochs -1, 0, 1
    case
    ((Lookup.epoch_of (opened 200)).values ++ (Lookup.epoch_of (applied (opened 200) 0 (level 1))).values ++
    (Lookup.epoch_of (applied (applied (opened 200) 0 (level 1)) 1 (level 0))).values)
    ((2 ^ 64 - 1) ∷ 0 ∷ 1 ∷ []) ∷
    -- M4 next id 0 on fresh: Validate 11, Apply leaves it, but for the log offset: -1, then 0
    case ((Validate.validate_of (opened 200) (next_id 0)).number ∷ apply_number (opened 200) 0 (next_id 0) ∷ applied (opened 200) 0 (next_id 0))
    (11 ∷ 0 ∷ (take 56 (opened 200) ++ bytes 8 0 ++ drop 64 (opened 200))) ∷
    case ((Lookup.offset_of (opened 200)).values ++ (Lookup.offset_of (applied (opened 200) 0 (next_id 0))).values) ((2 ^ 64 - 1) ∷ 0 ∷ []) ∷
    -- M5 prefixes "ro", "room": "room-7" gives "room", "r" none
    case (frozen_scope prefixes room_7) room ∷
    case (Lookup.freeze_of prefixes r output).reply.values (0 ∷ []) ∷
    -- M6 scope "__": "__room" none, although Apply took the freeze: the snapshot is the offset and its record
    case (apply_number (opened 400) 0 (frozen underscores) ∷ shot internal) (0 ∷ (offset_is 0 ++ frozen underscores)) ∷
    case (Lookup.freeze_of internal underscores-room output).reply.values (0 ∷ []) ∷
    -- M7 partition 1 of "p", then topic "p" with count 9: count 0, restored 1
    case (topic_count orphaned ∷ topic_count (restarted orphaned) ∷ []) (0 ∷ 1 ∷ []) ∷
    -- M8 that FeatureLevel on fresh at 155: 18; at 156: accepted
    case (apply_number (opened 155) 0 (level 1) ∷ apply_number (opened 156) 0 (level 1) ∷ []) (18 ∷ 0 ∷ []) ∷
    -- M9 offset 2^63 - 1: plus 1 is 17, plus 0 accepted
    case (apply_number advanced 1 (advance 1) ∷ apply_number advanced 1 (advance 0) ∷ []) (17 ∷ 0 ∷ []) ∷
    -- M10 replicas 1, 2, 3, directories D, replica 3 to E: D, zero, E
    case (field_of 9 (Lookup.partition_of directed p 0 output)) (D ++ bytes 16 0 ++ E) ∷ []

abbrev pub Agree : List Case → Type 0
Agree [] = Unit {0}
Agree (c ∷ cs) = (c.answers ≡ c.expected) × Agree cs

-- each row's answers are the expected ones
pub marked-cases : Agree cases
unfolding cases Number.is_offset Text.well_formed Text.following Text.text_after Run.parse Run.bytes_of Run.field Run.values Run.drop_field Run.set_field Run.items
    Order.compare_bytes Order.compare_keys Order.same_bytes Kind.kinds Kind.kind_of Kind.kind_number Shape.rows_of Shape.any_required
    Nodes.nodes_from Nodes.is_among Nodes.no_repeats Shape.may_follow Shape.is_below_byte Shape.leaf_fault Shape.run_fault Shape.value_fault Shape.shape_of Reply.emit_bytes Record.record_bytes
    Record.read Record.read_of Record.gathered Record.write_of Key.rank Key.entities_key Key.subject Key.key_of Key.key_rank Key.key_name
    Key.topic_of Key.group_key Key.starts_with Map.put Map.get Map.remove Map.keep Map.any Map.count Map.ascending Contents.returned
    Contents.kept Contents.key Contents.group_of Contents.of_topic Contents.partitions Contents.size Choice.total Contents.weight
    Contents.entities_in_order Contents.storable Contents.is_group Contents.storable_entry Contents.names_id Contents.named_apart Contents.sound
    Items.items_from Items.records Items.is_whole Image.is_capacity Image.mark Image.header Image.entry_bytes Image.image_of Image.entry_of
    Image.flag_reads Image.real_of Image.empties_of Image.contents_of Image.header_ok Image.entries_ok Image.is_image Image.open_of Move.clear_named
    Move.clear_old_named Move.count_of Move.count_partition Move.set_directories Move.apart_from Move.on_real Move.on_empties Move.bumped Move.on_fixed Move.move
    Move.moves Move.fields Move.update_moves Move.changed_broker Move.slot_of Move.directory_moves Move.insert_entity Move.sorted_entities
    Move.sorted_quota Move.plan Move.moved Move.overflows Validate.lawful_name Validate.topic_exists Validate.extends Validate.alone Validate.against
    Validate.judge Validate.validate_of Apply.apply Apply.apply_at Apply.apply_of Snapshot.emit Snapshot.epoch_records Snapshot.kraft_records Snapshot.body
    Snapshot.snapshot Snapshot.snapshot_of Snapshot.replay Snapshot.replay_run Snapshot.restore_of Choice.folded Snapshot.last_factor Snapshot.restored_factor
    Snapshot.last_owner Snapshot.owner_of Snapshot.restored_entry Snapshot.is_level Snapshot.levels Snapshot.less_one Snapshot.restored_epoch
    Snapshot.restored Lookup.topic_by_name Lookup.named_by Lookup.topic_by_id Lookup.partition_of Lookup.broker_of Lookup.epoch_of Lookup.offset_of Lookup.is_short
    Lookup.short_count Lookup.short_of Lookup.begins_with Lookup.longest_by Lookup.freeze_by Lookup.freeze Lookup.freeze_of Lookup.throttle_name
    Lookup.digits Lookup.magnitude Lookup.read_i64 Lookup.throttle Lookup.throttle_of
marked-cases = (refl, (refl, (refl, (refl, (refl, (refl, (refl, (refl, (refl, (refl, (refl, (refl, (refl, tt)))))))))))))
