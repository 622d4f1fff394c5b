-- An update of a partition: the records that it has, and the moves that they make.
use Rattle.std.specs.Prelude.{◌≡◌, cond, ◌&&◌, List, [], ◌∷◌}
use Rattle.model.specs.Choice.{is_some}
use Rattle.model.specs.Number.{Bytes}
use Rattle.model.specs.Run.{Run, done, item, run_of, field, value}
use Rattle.model.specs.Record.{Rec, rec}
use Rattle.model.specs.Move.{Move, elr_rec, recovery_rec, elr_move, recovery_move}
use Rattle.model.specs.declared.Kind.TheVariants.{Partition, PartitionUpdate}
use Rattle.entries.specs.Entries.{IsRecord, record_in}

-- an update's bytes
pub record IsUpdate (s : Bytes) : Type 0 where
  pub is : IsRecord s
  pub kind : (record_in s).kind ≡ PartitionUpdate

-- the fields of its partition
abbrev pub partition_of : Run → Run
partition_of r = run_of (value 1 r)

abbrev pub partition_rec : Run → Rec
partition_rec r = rec Partition (partition_of r)

-- the fields that its ELR's and its recovery's record begin with: the partition's name and number
abbrev pub named_of : Run → Run
named_of r = item 1 (value 1 (partition_of r)) (item 2 (value 2 (partition_of r)) done)

-- its ELR and its recovery, of its partition's name and number; a list or a state that is not there is empty
abbrev pub updated_elr : Run → Rec
updated_elr r = elr_rec (value 1 (partition_of r)) (value 2 (partition_of r)) (value 2 r) (value 3 r)

abbrev pub updated_recovery : Run → Rec
updated_recovery r = recovery_rec (value 1 (partition_of r)) (value 2 (partition_of r)) (value 4 r)

-- the ELR's move where both lists are there, and the recovery's where it is there
abbrev pub elr_moves : Run → List Move
elr_moves r = cond (is_some (field 2 r) && is_some (field 3 r)) (elr_move (updated_elr r) ∷ []) []

abbrev pub recovery_moves : Run → List Move
recovery_moves r = cond (is_some (field 4 r)) (recovery_move (updated_recovery r) ∷ []) []
