-- Laws of the record bytes: fields, shapes, records, Read and Write.
--
--   lengths of two bytes .................................. Halves
--   fields and their bytes undo each other ................ Runs.bytes_run, Runs.run-bytes
--   fields by tag: set, dropped, put in front ............. Fields.field-set-same and its neighbours, Fields.run_ext
--   a run that passes its rows, and what it is ............ Passing.passing, Passing.passes (rows alone: Rows)
--   its fields, and changes after which it passes ......... Passes; of a value: Forms.value_fits; of a record: Faults
--   how long what passes can be ........................... Lengths.longest_shape, Faults.fault-length
--   kinds and their numbers ............................... Kinds.kind_number_lem, Kinds.number_kind
--   Read and a record's bytes ............................. Records.read_record, Records.reads; by where it stands: Stored
--   no replica list that is read has a repeat ............. Apart.read_apart
--   Read and Write undo each other ........................ Writes.write_read, Writes.read_back; outputs: Emits
--   records back to back .................................. Items.items-records, Items.spells-items
--   in a snapshot: kind 26, and records of the log ........ Framed.logged_no_offset, Framed.framed_got, Framed.offset_read
pub mod Halves
pub mod Runs
pub mod Fields
pub mod Rows
pub mod Passing
pub mod Passes
pub mod Forms
pub mod Lengths
pub mod Faults
pub mod Kinds
pub mod Records
pub mod Apart
pub mod Stored
pub mod Emits
pub mod Writes
pub mod Items
pub mod Framed
