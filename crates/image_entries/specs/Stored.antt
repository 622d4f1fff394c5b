-- What the exact image test asks of each entry by itself, and where the empty groups begin.
use Rattle.std.specs.Prelude.{◌≡◌, Bool, ◌&&◌, ◌||◌, ℕ, ◌≤◌, eqb, length, take, drop}
use Rattle.model.specs.Number.{Bytes}
use Rattle.model.specs.Kind.{kind_number}
use Rattle.model.specs.Record.{Rec}
use Rattle.model.specs.Contents.{storable}
use Rattle.model.specs.Image.{flag_reads, real_of, empties_of}
use Rattle.entries.specs.Entries.{records_in, Entries}

-- what Apply stores, of the record that stands for an entry; a topic's count is tested apart
abbrev pub storable_record : Rec → Bool
storable_record r = eqb (kind_number r.kind) 1 || eqb (kind_number r.kind) 2 || storable r.kind r.run

-- an entry among the real ones
abbrev pub is_stored : Rec → Bool
is_stored r = flag_reads r && storable_record r

-- entries cut at the first empty group
pub record Parted (s : Bytes) (mid : ℕ) : Type 0 where
  pub most : mid ≤ length s
  pub real_entries : Entries (take mid s)
  pub empty_entries : Entries (drop mid s)
  pub reals : records_in (take mid s) ≡ real_of (records_in s)
  pub empties : records_in (drop mid s) ≡ empties_of (records_in s)
