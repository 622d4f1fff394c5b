-- Lists of nodes, eight bytes each, by their numbers.
use Rattle.std.specs.Prelude.{ℕ, zero, suc, ◌/◌, Bool, true, false, cond, ◌&&◌, ◌||◌, not, List, [], ◌∷◌, eqb, length, take, drop}
use Rattle.model.specs.Number.{Bytes, number}

-- the first `count` nodes
unfoldable pub nodes_from : ℕ → Bytes → List ℕ
nodes_from zero v = []
nodes_from (suc count) v = number (take 8 v) ∷ nodes_from count (drop 8 v)

abbrev pub nodes_of : Bytes → List ℕ
nodes_of v = nodes_from (length v / 8) v

unfoldable pub is_among : ℕ → List ℕ → Bool
is_among n [] = false
is_among n (x ∷ l) = eqb n x || is_among n l

unfoldable pub no_repeats : List ℕ → Bool
no_repeats [] = true
no_repeats (x ∷ l) = not (is_among x l) && no_repeats l

-- those that are not among others
unfoldable pub outside : List ℕ → List ℕ → ℕ
outside others [] = 0
outside others (x ∷ l) = cond (is_among x others) (outside others l) (suc (outside others l))
