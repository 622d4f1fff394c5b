-- The entries that bytes spell, as the model has them.
use Rattle.std.specs.Prelude.{List, map}
use Rattle.model.specs.Number.{Bytes}
use Rattle.model.specs.Contents.{Entry}
use Rattle.model.specs.Image.{entry_of}
use Rattle.entries.specs.Entries.{records_in}

abbrev pub entries_in : Bytes → List Entry
entries_in s = map entry_of (records_in s)
