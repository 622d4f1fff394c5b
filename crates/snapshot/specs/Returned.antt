-- An image's records, in the order in which they are placed, and how long they are.
use Rattle.std.specs.Prelude.{◌≡◌, List, [], ◌∷◌, ◌++◌, map, ℕ, ◌+◌, ◌-◌, ◌≤◌, length, take, drop}
use Rattle.model.specs.Choice.{joined}
use Rattle.model.specs.Number.{Bytes}
use Rattle.model.specs.Record.{Rec, record_bytes}
use Rattle.model.specs.Contents.{kept, returned}
use Rattle.model.specs.Image.{entry_of, fixed_in, contents_of}
use Rattle.model.specs.Snapshot.{offset_rec, epoch_records, kraft_records}
use Rattle.entries.specs.Entries.{records_in, IsRecord, record_in}

-- 1. The entries' records

-- the records that entries are returned as, and their bytes
abbrev pub returned_records : Bytes → List Rec
returned_records s = map (λ r. returned (entry_of r)) (records_in s)

abbrev pub returned_in : Bytes → Bytes
returned_in s = joined (λ r. record_bytes (returned (entry_of r))) (records_in s)

-- the record of the entry from one place to another
abbrev pub returned_at : Bytes → ℕ → ℕ → Rec
returned_at s start end = returned (entry_of (record_in (take (end - start) (drop start s))))

-- an entry behind others: those up to its end are those before it, and then it
pub record Behind (s : Bytes) (start end : ℕ) : Type 0 where
  pub order : start ≤ end
  pub fits : end ≤ length s
  pub is : IsRecord (take (end - start) (drop start s))
  pub keeps : kept (entry_of (record_in (take (end - start) (drop start s)))) ≡ record_in (take (end - start) (drop start s))
  pub joins : records_in (take end s) ≡ records_in (take start s) ++ record_in (take (end - start) (drop start s)) ∷ []

-- 2. The records of an image: its log offset's, its entries', and behind them those of the epoch and the kraft version

abbrev pub first_records : Bytes → List Rec
first_records image = offset_rec (fixed_in image).offset ∷ map returned (contents_of image).real

abbrev pub epoch_in : Bytes → List Rec
epoch_in image = epoch_records (fixed_in image).epoch

abbrev pub kraft_in : Bytes → List Rec
kraft_in image = kraft_records (fixed_in image).kraft

-- the bytes of the fixed parts' records
abbrev pub offset_bytes : ℕ → Bytes
offset_bytes n = record_bytes (offset_rec n)

abbrev pub epoch_bytes : ℕ → Bytes
epoch_bytes e = joined record_bytes (epoch_records e)

abbrev pub kraft_bytes : ℕ → Bytes
kraft_bytes v = joined record_bytes (kraft_records v)
