-- The place of the topic that the id index names for an id.
use Rattle.std.specs.Prelude.{◌≡◌, map, ℕ, ◌≤◌, ◌<◌, length}
use Rattle.std.proofs.Math.Option.{none, some}
use Rattle.std.proofs.Math.Seq.{slice}
use Rattle.model.specs.Number.{Bytes}
use Rattle.model.specs.Image.{entry_of}
use Rattle.model.specs.Lookup.{named_by}
use Rattle.laws.specs.Lists.{In}
use Rattle.entries.specs.Entries.{records_in, IsRecord, record_in}

-- the bytes from one place to another are its entry
pub record Named (s id : Bytes) (at end : ℕ) : Type 0 where
  pub is : IsRecord (slice at end s)
  pub within : end ≤ length s
  pub among : In (record_in (slice at end s)) (records_in s)
  pub names : named_by id (map entry_of (records_in s)) ≡ some (entry_of (record_in (slice at end s)))

-- a place that is not empty has it, and an empty one says that there is none
pub record NamedAt (s id : Bytes) (at end : ℕ) : Type 0 where
  pub present : at < end → Named s id at end
  pub absent : end ≤ at → named_by id (map entry_of (records_in s)) ≡ none
