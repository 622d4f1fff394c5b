-- The record that is judged, the entries that it is judged against, and what the steps of the judgement answer.
use Rattle.std.specs.Prelude.{◌≡◌, Bool, ◌&&◌, List, [], ◌∷◌, map, ℕ, ◌+◌, ◌≤◌, ◌<◌, eqb, ltb, length}
use Rattle.std.proofs.Math.Seq.{slice}
use Rattle.model.specs.Choice.{is_empty}
use Rattle.model.specs.Number.{Bytes, number, half, place}
use Rattle.model.specs.Order.{same_bytes}
use Rattle.model.specs.Run.{Run, done, value, values}
use Rattle.model.specs.Shape.{logged, fault}
use Rattle.model.specs.Record.{Rec, rec, record_bytes, read, on_got}
use Rattle.model.specs.Contents.{Entry}
use Rattle.model.specs.Image.{entry_of}
use Rattle.model.specs.declared.Kind.TheVariants.{Topic}
use Rattle.fields.specs.Fields.{fields_from}
use Rattle.fields.specs.declared.Cursor.{Cursor}
use Rattle.keys.specs.Keys.{run_in}
use Rattle.entries.specs.Entries.{records_in}
use Rattle.judge.specs.declared.proposals.Value.{Value}
use Rattle.judge.specs.declared.proposals.Value.TheVariants.{At, Last}

-- what a topic's record must be against the stored one and its partitions' number
unfoldable pub may_replace : Run → Run → ℕ → Bool
may_replace new old parts =
    same_bytes (value 2 new) (value 2 old) && eqb (number (value 4 new)) (number (value 4 old)) && ltb (parts + half 4) (place 4 (number (value 3 new)))

-- a freeze's scope is empty, whatever its pattern
unfoldable pub empty_scope : Run → Bool
empty_scope f = is_empty (value 1 f)

-- the values of a tag from a cursor on: the next one and those after it, or none
unfoldable pub NextOf : Bytes → Cursor → ℕ → Value → Type 0
NextOf s c tag (At start end next) =
    (values tag (fields_from s c) ≡ slice start end s ∷ values tag (fields_from s next)) × (start ≤ end) × (end ≤ length s) × (c.at < next.at) ×
    (next.at ≤ next.to) × (next.to ≡ c.to)
NextOf s c tag Last = values tag (fields_from s c) ≡ []
