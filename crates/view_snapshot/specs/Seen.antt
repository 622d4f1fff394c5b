-- The bytes of the records of entries that a viewer sees.
use Rattle.std.specs.Prelude.{cond, List, []}
use Rattle.model.specs.Choice.{joined}
use Rattle.model.specs.Number.{Bytes}
use Rattle.model.specs.Record.{Rec, record_bytes}
use Rattle.model.specs.Contents.{record_key}
use Rattle.model.specs.View.{is_seen}
use Rattle.entries.specs.Entries.{records_in}
use Rattle.find.specs.Returned.{returned_bytes}

abbrev pub seen_bytes : List Bytes → Rec → Bytes
seen_bytes ps r = cond (is_seen ps (record_key r)) (returned_bytes (record_bytes r)) []

abbrev pub seen_in : List Bytes → Bytes → Bytes
seen_in ps s = joined (seen_bytes ps) (records_in s)
