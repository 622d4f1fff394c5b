-- Entries back to back: the records that bytes spell, and places among them.
use Rattle.std.specs.Prelude.{◌≡◌, true, cond, List, ◌++◌, ℕ, ◌+◌, ◌-◌, ◌≤◌, leb, ltb, length, take, drop}
use Rattle.std.proofs.Math.Seq.{slice}
use Rattle.model.specs.Choice.{joined}
use Rattle.model.specs.Number.{Bytes, number}
use Rattle.model.specs.Order.{Key}
use Rattle.model.specs.Shape.{stored, fault}
use Rattle.model.specs.Run.{done}
use Rattle.model.specs.Record.{Rec, rec, record_bytes, read, on_got}
use Rattle.model.specs.Items.{items_of, records, is_whole}
use Rattle.model.specs.Contents.{record_key}
use Rattle.model.specs.declared.Kind.TheVariants.{Topic}
use Rattle.laws.specs.Split.{below, here, above}
use Rattle.entries.specs.declared.Step.{Step}
use Rattle.entries.specs.declared.Step.TheVariants.{Entry, Torn, End}

-- the records that bytes spell where entries stand, and back
abbrev pub records_in : Bytes → List Rec
records_in s = records (items_of stored s)

abbrev pub spelt : List Rec → Bytes
spelt l = joined record_bytes l

-- bytes that are entries
abbrev pub Entries : Bytes → Type 0
Entries s = is_whole (items_of stored s) ≡ true

-- what stands at a place, by the lengths alone
abbrev pub size_at : Bytes → ℕ → ℕ
size_at s at = 3 + number (slice (at + 1) (at + 1 + 2) s)

unfoldable pub step_at : Bytes → ℕ → Step
step_at s at =
    cond (leb (length s) at) End
    (cond (ltb (length s - at) 3) Torn
    (cond (ltb (length s - at) (size_at s at)) Torn (Entry at (at + size_at s at) (record { at = at + size_at s at }))))

-- a place of a key: what stands before it, at it and after it
pub record Placed (s : Bytes) (k : Key) (at end : ℕ) : Type 0 where
  pub before : take at s ≡ spelt (below record_key k (records_in s))
  pub found : slice at end s ≡ spelt (here record_key k (records_in s))
  pub after : drop end s ≡ spelt (above record_key k (records_in s))
  pub order : at ≤ end
  pub most : end ≤ length s

-- a record's bytes, as it stands among entries
pub record IsRecord (s : Bytes) : Type 0 where
  pub value : Rec
  pub bytes : s ≡ record_bytes value
  pub passes : fault stored value.kind value.run ≡ 0

-- the record that bytes begin with
abbrev pub record_in : Bytes → Rec
record_in s = on_got (read stored s) (λ n. rec Topic done) (λ r n. r)

-- a buffer whose used bytes have other entries from one place to another
pub record Changed (w v : Bytes) (from to used r : ℕ) (l : List Rec) : Type 0 where
  pub holds : take r v ≡ take from w ++ spelt l ++ slice to used w
  pub size : r ≡ from + length (spelt l) + (used - to)
  pub fits : r ≤ length v
