-- Entries that a restore leaves as they are.
use Rattle.std.specs.Prelude.{◌≡◌, Bool, true, ◌&&◌, not, List, map, ℕ, eqb, drop}
use Prim.Native.Nat.{Ordering}
use Rattle.model.specs.Number.{Bytes}
use Rattle.model.specs.Order.{compare_bytes}
use Rattle.model.specs.Kind.{kind_number}
use Rattle.model.specs.Record.{Rec}
use Rattle.model.specs.Contents.{Entry, topic, part, plain, partitions}
use Rattle.model.specs.Image.{entry_of}
use Rattle.model.specs.Snapshot.{restored_factor}
use Rattle.entries.specs.Entries.{records_in}

-- a topic whose id names it, with the count and the replication factor that a restore gives it
unfoldable pub settled_entry : List Entry → Entry → Bool
settled_entry l (topic name id count factor named) = named && eqb count (partitions name l) && eqb factor (restored_factor name factor l)
settled_entry l (part r) = true
settled_entry l (plain r) = true

abbrev pub settled_record : List Rec → Rec → Bool
settled_record l r = settled_entry (map entry_of l) (entry_of r)

-- the replication factor that a restore gives a topic, by the records
abbrev pub factor_of : Bytes → ℕ → List Rec → ℕ
factor_of name factor l = restored_factor name factor (map entry_of l)

-- that factor, and a place that no partition of a later topic stands before
pub record Factored (s name : Bytes) (given factor at : ℕ) : Type 0 where
  pub is : factor ≡ factor_of name given (records_in s)
  pub later : (other : Bytes) (g : ℕ) → compare_bytes name other ≡ Ordering.lt
      → factor_of other g (records_in (drop at s)) ≡ factor_of other g (records_in s)

-- a record that is no feature level
unfoldable pub is_no_level : Rec → Bool
is_no_level r = not (eqb (kind_number r.kind) 11)
