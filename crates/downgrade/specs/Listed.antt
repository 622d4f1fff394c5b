-- The bytes of the records that entries are listed as.
use Rattle.std.specs.Prelude.{ℕ}
use Rattle.model.specs.Choice.{joined}
use Rattle.model.specs.Number.{Bytes}
use Rattle.model.specs.Record.{Rec, record_bytes}
use Rattle.model.specs.Image.{entry_of}
use Rattle.model.specs.Downgrade.{listed}
use Rattle.entries.specs.Entries.{records_in}

abbrev pub listed_bytes : ℕ → Rec → Bytes
listed_bytes level r = joined record_bytes (listed level (entry_of r))

abbrev pub listed_in : ℕ → Bytes → Bytes
listed_in level s = joined (listed_bytes level) (records_in s)
