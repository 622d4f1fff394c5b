-- Topics' counts, and what one walk over the partitions finds for a topic.
use Rattle.std.specs.Prelude.{◌≡◌, Bool, true, ◌||◌, not, List, leb, eqb, length, drop}
use Prim.Native.Nat.{ℕ, ◌≤◌, compare, Ordering}
use Rattle.model.specs.Number.{Bytes, number}
use Rattle.model.specs.Order.{Key, then_by, compare_bytes}
use Rattle.model.specs.Run.{value}
use Rattle.model.specs.Kind.{kind_number}
use Rattle.model.specs.Record.{Rec}
use Rattle.model.specs.Key.{rank, key_rank, key_name}
use Rattle.model.specs.Map.{count, ascending}
use Rattle.model.specs.Contents.{record_key, of_topic}
use Rattle.model.specs.declared.Kind.TheVariants.{Partition}
use Rattle.entries.specs.Entries.{records_in, Entries}

-- a topic's count is at most its partitions' number among the entries
unfoldable pub count_fits : List Rec → Rec → Bool
count_fits l r = not (eqb (kind_number r.kind) 1) || leb (number (value 3 r.run)) (count record_key (of_topic (value 1 r.run)) l)

-- how a key stands to those of a topic's partitions: before them, among them or after them
unfoldable pub beside_topic : Bytes → Key → Ordering
beside_topic name k = then_by (compare (key_rank k) (rank Partition)) (compare_bytes (key_name k) name)

-- how many partitions of a topic there are, and a place that no partition of a later topic stands before
pub record Counted (s name : Bytes) (n at : ℕ) : Type 0 where
  pub number : n ≡ count record_key (of_topic name) (records_in s)
  pub later : (other : Bytes) → compare_bytes name other ≡ Ordering.lt
      → count record_key (of_topic other) (records_in (drop at s)) ≡ count record_key (of_topic other) (records_in s)
  pub most : at ≤ length s
  pub entries : Entries (drop at s)
  pub ascends : ascending record_key (records_in (drop at s)) ≡ true
