-- A run of records, parsed once, each with the place of its first byte.
use Rattle.std.specs.Prelude.{ℕ, zero, suc, ◌+◌, ◌-◌, Bool, true, false, List, [], ◌∷◌}
use Rattle.model.specs.Number.{Bytes}
use Rattle.model.specs.Shape.{Source}
use Rattle.model.specs.Record.{Rec, read, on_got}

-- records up to the end, or up to one that Read refuses
pub data Items : Type 0 where
  end : Items
  bad : ℕ → ℕ → Items
  item : ℕ → Rec → Items → Items

-- the records from a place on; `skip` of the bytes are still of the record before
unfoldable pub items_from : Source → ℕ → ℕ → Bytes → Items
items_from source skip place [] = end
items_from source zero place (b ∷ s) =
    on_got (read source (b ∷ s)) (λ number. bad number place) (λ r used. item place r (items_from source (used - 1) (place + 1) s))
items_from source (suc skip) place (b ∷ s) = items_from source skip (place + 1) s

abbrev pub items_of : Source → Bytes → Items
items_of source s = items_from source 0 0 s

unfoldable pub records : Items → List Rec
records end = []
records (bad number place) = []
records (item place r rest) = r ∷ records rest

unfoldable pub is_whole : Items → Bool
is_whole end = true
is_whole (bad number place) = false
is_whole (item place r rest) = is_whole rest
