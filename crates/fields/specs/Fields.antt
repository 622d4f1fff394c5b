-- What the cursor's and the field lookup's answers mean, on the bytes that they speak of.
use Rattle.std.specs.Prelude.{◌≡◌, cond, ℕ, ◌+◌, ◌≤◌, ◌<◌, eqb, length}
use Rattle.std.proofs.Math.Option.{Option, none, some}
use Rattle.std.proofs.Math.Seq.{slice}
use Rattle.model.specs.Number.{Bytes}
use Rattle.model.specs.Run.{Run, done, torn, item, run_of}
use Rattle.fields.specs.declared.Cursor.{Cursor}
use Rattle.fields.specs.declared.Step.{Step}
use Rattle.fields.specs.declared.Step.TheVariants.{Field, Torn, End}
use Rattle.fields.specs.declared.Found.{Found}
use Rattle.fields.specs.declared.Found.TheVariants.{Part, Missing}

-- the fields from a cursor on
abbrev pub fields_from : Bytes → Cursor → Run
fields_from s c = run_of (slice c.at c.to s)

-- a cursor lies within a slice
abbrev pub Inside : Bytes → Cursor → Type 0
Inside s c = (c.at ≤ c.to) × (c.to ≤ length s)

-- what a step says of the fields that it was taken from
unfoldable pub told : Bytes → Step → Run
told s (Field tag start len next) = item tag (slice start (start + len) s) (fields_from s next)
told s Torn = torn
told s End = done

-- a step goes on, and stays within the cursor's end
unfoldable pub Onward : Cursor → Step → Type 0
Onward c (Field tag start len next) =
    (c.at < next.at) × (next.at ≤ c.to) × (next.to ≡ c.to) × (start + len ≡ next.at) × (start ≡ c.at + 3) × (len < 65536) × (tag < 256)
Onward c Torn = Unit {0}
Onward c End = Unit {0}

-- where the first field of a tag has its value: behind its own tag and length, and behind the fields before it
unfoldable pub place_of : ℕ → ℕ → Run → Found
place_of tag at done = Missing
place_of tag at torn = Missing
place_of tag at (item t v r) = cond (eqb t tag) (Part (at + 3) (length v)) (place_of tag (at + 3 + length v) r)

-- the value that was found
unfoldable pub held : Bytes → Found → Option Bytes
held s (Part start len) = some (slice start (start + len) s)
held s Missing = none

unfoldable pub Within : ℕ → Found → Type 0
Within to (Part start len) = start + len ≤ to
Within to Missing = Unit {0}
