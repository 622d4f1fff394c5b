-- The order of quota entities, as their keys have it.
use Rattle.std.specs.Prelude.{◌≡◌, List, [], ◌∷◌, length}
use Prim.Native.Nat.{◌+◌, ◌≤◌, ◌<◌, Ordering}
use Rattle.std.proofs.Math.Seq.{slice}
use Rattle.model.specs.Number.{Bytes}
use Rattle.model.specs.Order.{compare_bytes, then_by}
use Rattle.model.specs.Run.{Run, item, run_of, field, value, values}
use Rattle.model.specs.Key.{name_part}
use Rattle.laws_records.specs.Fields.{Ascending}
use Rattle.fields.specs.declared.Cursor.{Cursor}
use Rattle.fields.specs.Fields.{fields_from, Inside}
use Rattle.keys.specs.Keys.{run_in}
use Rattle.keys.specs.declared.entities.Entity.{Entity}
use Rattle.keys.specs.declared.entities.Entity.TheVariants.{At, Last}

abbrev pub type_order : Run → Run → Ordering
type_order e f = compare_bytes (value 1 e) (value 1 f)

abbrev pub name_order : Run → Run → Ordering
name_order e f = compare_bytes (name_part (field 2 e)) (name_part (field 2 f))

abbrev pub entity_order : Run → Run → Ordering
entity_order e f = then_by (type_order e f) (name_order e f)

unfoldable pub compare_entities : List Bytes → List Bytes → Ordering
compare_entities [] [] = Ordering.eq
compare_entities [] (f ∷ fs) = Ordering.lt
compare_entities (e ∷ es) [] = Ordering.gt
compare_entities (e ∷ es) (f ∷ fs) = then_by (entity_order (run_of e) (run_of f)) (compare_entities es fs)

-- where an element's type stands; where that is the first place, the other fields are behind it
pub record Element (s : Bytes) (c r : Cursor) : Type 0 where
  pub holds : slice r.at r.to s ≡ value 1 (fields_from s c)
  pub inside : Inside s r
  pub first : r.at ≡ c.at + 3 → (fields_from s c ≡ item 1 (slice r.at r.to s) (fields_from s (record { at = r.to; to = c.to }))) × (r.to ≤ c.to)

-- the elements from a cursor on: the one at it and those after it, or none
unfoldable pub onward : Bytes → Cursor → Entity → Type 0
onward s c (At start end next) =
    (values 1 (fields_from s c) ≡ slice start end s ∷ values 1 (fields_from s next)) × (start ≤ end) × (end ≤ length s) × (c.at < next.at) ×
    (next.at ≤ next.to) × (next.to ≡ c.to) × (Ascending 1 (fields_from s c) → Ascending 1 (fields_from s next))
onward s c Last = Ascending 1 (fields_from s c) → values 1 (fields_from s c) ≡ []

pub record Quotas (a b : Bytes) : Type 0 where
  pub first : 3 ≤ length a
  pub second : 3 ≤ length b
  pub first-ascends : Ascending 1 (run_in a)
  pub second_ascends : Ascending 1 (run_in b)
