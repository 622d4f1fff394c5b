-- Whether no entry is of a group, asked entry by entry.
use mathlib.Core.Path.{◌≡◌, refl}
use mathlib.Core.Bool.{Bool, true, false, ◌&&◌, ◌||◌, not}
use mathlib.Core.List.{List, [], ◌∷◌}
use Rattle.model.specs.Choice.{every}
use Rattle.model.specs.Record.{Rec}
use Rattle.model.specs.Map.{any}
use Rattle.model.specs.Contents.{record_key, in_group_of}
use Rattle.image_groups.specs.Groups.{apart_in}

abbrev pub is_other : Rec → Rec → Bool
is_other g r = not (in_group_of g (record_key r))

pub every_other : (g : Rec) (l : List Rec) → every (is_other g) l ≡ apart_in l g
unfolding apart_in any
every_other g [] = refl
every_other g (r ∷ l) = go (in_group_of g (record_key r)) (every_other g l)
  where
    go : (b : Bool) → every (is_other g) l ≡ not (any record_key (in_group_of g) l)
        → not b && every (is_other g) l ≡ not (b || any record_key (in_group_of g) l)
    go true e = refl
    go false e = e
