-- The directory assignments of a partition, by its fields' bytes.
use Rattle.std.specs.Prelude.{cond, [], ◌++◌, ℕ, zero, suc, ◌+◌, take, drop}
use Rattle.model.specs.Choice.{joined}
use Rattle.model.specs.Number.{Bytes}
use Rattle.model.specs.Order.{same_bytes}
use Rattle.model.specs.Run.{Run, done, item}
use Rattle.model.specs.Record.{Rec, record_bytes}
use Rattle.model.specs.Move.{replicas, directories, node_width, id_width}
use Rattle.model.specs.Downgrade.{migrating, assignment, assignments, slots}

-- a partition's replica, assigned to `MIGRATING`
abbrev pub assigning : Bytes → Bytes → Bytes → Rec
assigning name number node = assignment (item 1 name (item 2 number done)) node

-- a slot's record, none where its directory is `MIGRATING`; those of the first slots
abbrev pub slot_bytes : Bytes → Bytes → Bytes → Bytes → Bytes
slot_bytes name number node dir = cond (same_bytes dir migrating) [] (record_bytes (assigning name number node))

unfoldable pub slots_bytes : Bytes → Bytes → ℕ → Bytes → Bytes → Bytes
slots_bytes name number zero nodes dirs = []
slots_bytes name number (suc count) nodes dirs =
    slot_bytes name number (take node_width nodes) (take id_width dirs) ++ slots_bytes name number count (drop node_width nodes) (drop id_width dirs)

-- how long they are, where a record is of a size
abbrev pub slot_size : Bytes → ℕ → ℕ
slot_size dir size = cond (same_bytes dir migrating) 0 size

unfoldable pub slots_size : ℕ → ℕ → Bytes → ℕ
slots_size zero size dirs = 0
slots_size (suc count) size dirs = slot_size (take id_width dirs) size + slots_size count size (drop id_width dirs)

-- all of a partition's
abbrev pub assignment_bytes : Run → Bytes
assignment_bytes p = joined record_bytes (assignments p (slots p) (replicas p) (directories p))
