-- The short partitions of some entries, counted.
use mathlib.Core.Path.{◌≡◌, refl}
use mathlib.Core.Bool.{Bool}
use mathlib.Core.List.{List, [], ◌∷◌, map}
use Rattle.model.specs.Record.{Rec}
use Rattle.model.specs.Image.{entry_of}
use Rattle.model.specs.Lookup.{is_short, short_count}
use Rattle.image_entries.proofs.Counted.{how_many}

abbrev pub short : Rec → Bool
short r = is_short (entry_of r)

pub short_count_lem : (l : List Rec) → how_many short l ≡ short_count (map entry_of l)
unfolding how_many short_count
short_count_lem [] = refl
short_count_lem (r ∷ l) = rw (short_count_lem l)
