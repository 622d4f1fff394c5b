-- The sum of an advance and the stored offset, and the record that an advance stores.
use Rattle.std.specs.Prelude.{◌≡◌, Bool, List, ℕ, ◌-◌, ◌%◌}
use Rattle.model.specs.Number.{bytes, span, half, place}
use Rattle.model.specs.Run.{Run, value, set_field}
use Rattle.model.specs.Record.{Rec, rec}
use Rattle.model.specs.Contents.{Entry}
use Rattle.model.specs.Move.{offset_sum, sum_leaves, stored_offset}
use Rattle.model.specs.declared.Kind.TheVariants.{PartitionOffsetAdvance}

-- the two places, added
abbrev pub sum_after : Run → List Entry → ℕ
sum_after run l = offset_sum (stored_offset run l) (value 3 run)

-- a sum's place, and whether the sum leaves i64
abbrev pub IsSum : ℕ → ℕ → Bool → Type 0
IsSum s n leaves = (n ≡ (s - half 8) % span 8) × (leaves ≡ sum_leaves s)

-- an advance with the offset of a place in the place of its own
abbrev pub offset_rec : Run → ℕ → Rec
offset_rec run n = rec PartitionOffsetAdvance (set_field 3 (bytes 8 (place 8 n)) run)
