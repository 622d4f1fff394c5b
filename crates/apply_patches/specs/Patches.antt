-- An entry changed where it stands: which ones a change is for, and the bytes that they have then.
use Rattle.std.specs.Prelude.{◌≡◌, Bool, ◌&&◌, ℕ, ◌+◌, ◌<◌, eqb}
use Rattle.model.specs.Number.{Bytes, span}
use Rattle.model.specs.Order.{same_bytes}
use Rattle.model.specs.Run.{value}
use Rattle.model.specs.Kind.{kind_number}
use Rattle.model.specs.Record.{Rec, record_bytes}
use Rattle.model.specs.Contents.{Entry, topic, part, plain, kept}
use Rattle.model.specs.Image.{entry_of}
use Rattle.entries.specs.Entries.{IsRecord, record_in}

-- a topic whose field of a tag has such a value
unfoldable pub is_topic_with : ℕ → Bytes → Rec → Bool
is_topic_with tag v r = eqb (kind_number r.kind) 1 && same_bytes (value tag r.run) v

-- one more partition can be counted
abbrev pub CountFits : Entry → Type 0
CountFits (topic name id count factor named) = count + 1 < span 4
CountFits (part r) = Unit {0}
CountFits (plain r) = Unit {0}

-- the bytes of a record that stands for its entry
pub record StandsFor (s : Bytes) : Type 0 where
  pub is : IsRecord s
  pub keeps : kept (entry_of (record_in s)) ≡ record_in s

-- the same after a change of the entry
abbrev pub patched : (Entry → Entry) → Bytes → Bytes
patched f s = record_bytes (kept (f (entry_of (record_in s))))
