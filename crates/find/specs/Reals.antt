-- The real entries of an image, by their bytes.
use Rattle.std.specs.Prelude.{◌≡◌, true, map, ℕ, ◌≤◌, length}
use Rattle.std.proofs.Math.Seq.{slice}
use Rattle.model.specs.Number.{Bytes}
use Rattle.model.specs.Map.{ascending}
use Rattle.model.specs.Contents.{kept, record_key}
use Rattle.model.specs.Image.{head_size, entry_of, contents_of}
use Rattle.laws.specs.Lists.{All}
use Rattle.entries.specs.Entries.{records_in, Entries}

-- they stand from the header to `end`, each as its record, ascend by key, and are what the image holds
pub record Reals (image : Bytes) (end : ℕ) : Type 0 where
  pub low : head_size ≤ end
  pub high : end ≤ length image
  pub entries : Entries (slice head_size end image)
  pub keeps : All (λ r. kept (entry_of r) ≡ r) (records_in (slice head_size end image))
  pub ascends : ascending record_key (records_in (slice head_size end image)) ≡ true
  pub held : (contents_of image).real ≡ map entry_of (records_in (slice head_size end image))
