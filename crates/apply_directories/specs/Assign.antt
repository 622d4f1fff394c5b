-- A partition whose directories are assigned: its slot, its new directories, and its record in a buffer.
use Rattle.std.specs.Prelude.{◌≡◌, List, ℕ, ◌/◌, ◌%◌, ◌≤◌, ◌<◌, length, take}
use Rattle.std.proofs.Math.Option.{Option, none, some}
use Rattle.model.specs.Number.{Bytes}
use Rattle.model.specs.Order.{Key}
use Rattle.model.specs.Run.{Run, value, set_field}
use Rattle.model.specs.Shape.{list_limit}
use Rattle.model.specs.Map.{get}
use Rattle.model.specs.Contents.{Entry, part, key}
use Rattle.model.specs.Move.{replicas, directories, id_width, node_count, slot_of, filled, assigned}
use Rattle.model.specs.declared.Kind.TheVariants.{Partition, PartitionDirAssignment}
use Rattle.laws.specs.Choice.{over}
use Rattle.entries.specs.Entries.{IsRecord, record_in}

-- a record of the two kinds
pub record IsAssignment (s : Bytes) : Type 0 where
  pub is : IsRecord s
  pub kind : (record_in s).kind ≡ PartitionDirAssignment

pub record IsPartition (s : Bytes) : Type 0 where
  pub is : IsRecord s
  pub kind : (record_in s).kind ≡ Partition

-- the slot of an assignment's replica
abbrev pub slot_in : Run → Run → Option ℕ
slot_in f p = slot_of (node_count (replicas p)) (value 3 f) (replicas p)

-- a slot as the code has it: the number of slots stands for none
pub record SlotIs (o : Option ℕ) (count n : ℕ) : Type 0 where
  pub none : count ≤ n → o ≡ none
  pub there : n < count → o ≡ some n

-- a partition's directories after an assignment, if it has the replica
unfoldable pub new_directories : Run → Run → Option Bytes
new_directories f p = over (λ slot. assigned slot (value 4 f) (filled (node_count (replicas p)) (directories p))) (slot_in f p)

-- them at the start of a buffer; no bytes stand for none. They are whole ids, at most 64
pub record Built (o : Option Bytes) (b : Bytes) (n : ℕ) : Type 0 where
  pub none : n ≡ 0 → o ≡ none
  pub there : 0 < n → o ≡ some (take n b)
  pub fits : n ≤ length b
  pub whole : n % id_width ≡ 0
  pub few : n / id_width ≤ list_limit

-- the stored partition of a key at the start of a buffer
pub record Copied (k : Key) (l : List Entry) (b : Bytes) (n : ℕ) : Type 0 where
  pub none : n ≡ 0 → get key k l ≡ none
  pub there : 0 < n → (get key k l ≡ some (part (record_in (take n b)).run)) × IsPartition (take n b)
  pub fits : n ≤ length b

-- the partition with its new directories
pub record Changed (o : Option Bytes) (run : Run) (b : Bytes) (n : ℕ) : Type 0 where
  pub none : n ≡ 0 → o ≡ none
  pub there : 0 < n → (v : Bytes) × (o ≡ some v) × IsPartition (take n b) × ((record_in (take n b)).run ≡ set_field 9 v run)
  pub fits : n ≤ length b
