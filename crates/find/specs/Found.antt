-- What a query names, and what is found of it.
use Rattle.std.specs.Prelude.{◌≡◌, cond, List, [], ◌∷◌, map, ℕ, ◌≤◌, ◌<◌, ltb, length}
use Rattle.std.proofs.Math.Option.{some}
use Rattle.std.proofs.Math.Seq.{slice}
use Rattle.model.specs.Choice.{given}
use Rattle.model.specs.Number.{Bytes}
use Rattle.model.specs.Order.{Key}
use Rattle.model.specs.Kind.{kind_of}
use Rattle.model.specs.Record.{Rec}
use Rattle.model.specs.Key.{key_of}
use Rattle.model.specs.Map.{get}
use Rattle.model.specs.Contents.{key, kept, returned}
use Rattle.model.specs.Image.{entry_of}
use Rattle.model.specs.Lookup.{found}
use Rattle.model.specs.declared.Kind.{Kind}
use Rattle.laws.specs.Lists.{All}
use Rattle.keys.specs.Keys.{WidthsFit}
use Rattle.entries.specs.Entries.{records_in, IsRecord, record_in}
use Rattle.find.specs.Probe.{probe_run}

-- a kind, and two values that its key can be made of
pub record Query (kind : ℕ) (first second : Bytes) : Type 0 where
  pub of : Kind
  pub known : kind_of kind ≡ some of
  pub first_fits : length first ≤ 255
  pub second_fits : length second ≤ 255
  pub widths : WidthsFit of (probe_run first second)

unfoldable pub query_key : ℕ → Bytes → Bytes → Key
query_key kind first second = given (kind_of kind) [] (λ k. key_of k (probe_run first second))

-- the record of the key's entry, if there is one
unfoldable pub found_in : Key → Bytes → List Rec
found_in k s = found (get key k (map entry_of (records_in s)))

-- each record stands for its entry
abbrev pub AllKept : List Rec → Type 0
AllKept l = All (λ r. kept (entry_of r) ≡ r) l

-- the record at a place, none where the place is empty
unfoldable pub record_at : Bytes → ℕ → ℕ → List Rec
record_at s at end = cond (ltb at end) (returned (entry_of (record_in (slice at end s))) ∷ []) []

-- a place that is not empty has a record, which stands for its entry
pub record Holds (s : Bytes) (at end : ℕ) : Type 0 where
  pub is : IsRecord (slice at end s)
  pub keeps : kept (entry_of (record_in (slice at end s))) ≡ record_in (slice at end s)
  pub within : end ≤ length s

abbrev pub PlaceHolds : Bytes → ℕ → ℕ → Type 0
PlaceHolds s at end = at < end → Holds s at end
