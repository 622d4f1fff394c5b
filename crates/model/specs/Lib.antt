-- 01 as definitions, a file for each of its sections. Nothing here is about code, but for Answers: what the code's answers say.
--
-- "Leaves first", the document's conventions
--   integers, big-endian and two's complement ............ Number
--   strings are UTF-8 ..................................... Text
-- "Record bytes"
--   a kind byte, a two-byte body length, and fields ....... Record.record_bytes; a tag byte, a two-byte length, the value: Run.bytes_of
--   tags in declaration order, ascending, options left out  Shape.rows_of, Shape.may_follow
--   widths, bools, enums, lists, nested runs .............. Shape.Form, Shape.leaf_fault, Shape.nested_fault
--   map keys strictly ascend .............................. Shape.ascends
--   the kinds and their numbers ........................... Kind
--   the limits ............................................ Shape.string_limit and its neighbours
-- "How the image moves"
--   each kind's rule ...................................... Move.plan, with the moves' effects in Move.on_real, on_empties, on_fixed
--   freeze, throttle, short ............................... Lookup.freeze_by, Lookup.throttle, Lookup.is_short
--   downgrade to a level .................................. Downgrade.downgrade
--   a snapshot's groups and keys .......................... Key.rank, Key.subject, Order.compare_keys
--   the restored image .................................... Snapshot.restored
-- "Room"
--   weight ................................................ Contents.weight
--   equal contents are equal bytes, unused ones zero ...... Image.image_of
--   a buffer is an image exactly if ....................... Image.is_image, with Contents.sound and Contents.storable
-- "Operations and what they refuse"
--   0, a refusal's buffers, a written prefix, 19 .......... Reply.unchanged, Reply.emit_bytes; for each case of an enum: Answers
--   Open, Read, Write, Validate, Apply .................... Image.open_of, Record.read_of, Record.write_of, Validate.validate_of, Apply.apply_of
--   Snapshot, Restore ..................................... Snapshot.snapshot_of, Snapshot.restore_of
--   lookups ............................................... Lookup.topic_by_name and its neighbours
--   Downgrade ............................................. Downgrade.downgrade_of
-- "Histories and cuts"
--   steps, answers, the uncut history, the premises ....... History.Step, answer, uncut, holds
--   demand 3 .............................................. History.CutsUnseen, CutBecomesRestored, CutAnywhere
--   images stay images; each premise is needed ............ History.ReachedIsImage, RestoreLeavesImage, PremiseNeeded
-- 02's requests
--   1, short leaves the adding replicas out ............... Nodes.outside, Lookup.expected
--   2, no node twice in a replica list .................... Nodes.no_repeats, Shape.node_set, Record.replicas_apart
--   3, one running total in Snapshot ...................... Snapshot.lengths; the contracts of crates/snapshot
--   9, downgrading is done after one pass ................. Downgrade.DowngradeDone, DowngradeKeeps, ListedAdmitted, OnlyRoomRefuses,
--                                                           Downgrade.ListingReadsBack, NothingWrittenAfter
--   7, only names that Kafka allows ....................... Validate.lawful_name
--   8, equal entity types in one order .................... Contents.entity_order, entities_in_order; Quotas.QuotasMeet, OneGroup, LaterStands
--   5, the image knows its place in the log ............... Contents.dated, Image.header, Apply.apply_at, Snapshot.offset_rec, replay_run,
--                                                           Lookup.offset_of; History.CutsUnseen: cut histories agree on it; OffsetOfLast
--   6, snapshots from last season ......................... Convert.with_offset_of, without_offset_of, OldNewOld, NewOldNew
--   14, the freeze, from the log alone .................... LogFreeze.last_freeze, log_freeze_of, FreezeFromLog
--   4, the freezes of a whole job list .................... Names.names_of, FreezeList.freeze_index, freezes_read, freeze_list_of; IndexNamesFreeze,
--                                                           IndexesApart, ReadAtMostOnce, UnreadUnseen
--   10, a dealer sees its own plans ....................... View.view_of, NothingElseSeen, FreezeOfVisible
--   11, two controllers' recordings ....................... Recordings.compare_of, Least, PartingIsLeast, OffsetApart, LeastIsOne
--   12, all short histories of a few records .............. ShortHistory.history_at, history_of, UnderOneNumber, OnlyHistories, ShorterThenLeftmost,
--                                                           NoneFromTheCount, EightRecords, PastTheLast
--   13, Kafka's own record bytes .......................... Kafka.read_kafka_of, write_kafka_of, KafkaReadsBack, KafkaWritesBack
-- Beside the papers
--   many records in one call, as record steps ............. GiveRun.pieces, gives_from, give_run_of
pub mod Choice
pub mod Number
pub mod Text
pub mod Run
pub mod Order
pub mod Kind
pub mod Nodes
pub mod Shape
pub mod Reply
pub mod Answers
pub mod Record
pub mod Key
pub mod Map
pub mod Contents
pub mod Items
pub mod Image
pub mod Move
pub mod Validate
pub mod Apply
pub mod Snapshot
pub mod Quotas
pub mod Names
pub mod Lookup
pub mod FreezeList
pub mod View
pub mod Downgrade
pub mod History
pub mod GiveRun
pub mod Convert
pub mod LogFreeze
pub mod Recordings
pub mod ShortHistory
pub mod Kafka
