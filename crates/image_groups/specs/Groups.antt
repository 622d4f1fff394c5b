-- Empty groups: whether one has a member among entries.
use Rattle.std.specs.Prelude.{Bool, false, cond, not, List, [], ◌∷◌, eqb}
use Rattle.model.specs.Run.{Run, done, torn, item}
use Rattle.model.specs.Record.{Rec}
use Rattle.model.specs.Map.{any}
use Rattle.model.specs.Contents.{record_key, in_group_of}

-- an empty group that has no member among the entries
unfoldable pub apart_in : List Rec → Rec → Bool
apart_in l g = not (any record_key (in_group_of g) l)

-- whether the first entry is a member
unfoldable pub begins_in : Rec → List Rec → Bool
begins_in g [] = false
begins_in g (x ∷ l) = in_group_of g (record_key x)

-- the fields of tag 1 that a run begins with: of a config its node, of a quota its entities
unfoldable pub leading : Run → Run
leading done = done
leading torn = done
leading (item t v r) = cond (eqb t 1) (item t v (leading r)) done
