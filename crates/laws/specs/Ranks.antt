-- The snapshot's groups by kind number, in the order of `to_records`' code: 3, 17, 6, 1, 2, 15, 21, 22, 5, 7, 8, 12, 16, 18, 19, 11, 13, 10.
use Rattle.std.specs.Prelude.{◌≡◌, refl, [], ◌∷◌, map, ℕ}
use Rattle.model.specs.Choice.{given}
use Rattle.model.specs.Kind.{kind_of, kinds}
use Rattle.model.specs.Key.{rank}

abbrev rank_of : ℕ → ℕ
rank_of number = given (kind_of number) 0 rank

pub groups_in_order : map rank_of (3 ∷ 17 ∷ 6 ∷ 1 ∷ 2 ∷ 15 ∷ 21 ∷ 22 ∷ 5 ∷ 7 ∷ 8 ∷ 12 ∷ 16 ∷ 18 ∷ 19 ∷ 11 ∷ 13 ∷ 10 ∷ [])
    ≡ 1 ∷ 2 ∷ 3 ∷ 4 ∷ 5 ∷ 6 ∷ 7 ∷ 8 ∷ 9 ∷ 10 ∷ 11 ∷ 12 ∷ 13 ∷ 14 ∷ 15 ∷ 16 ∷ 17 ∷ 18 ∷ []
unfolding kind_of kinds rank
groups_in_order = refl

-- the other kinds are in no group: 26 stands before them
pub others_in_none : map rank_of (4 ∷ 9 ∷ 14 ∷ 20 ∷ 23 ∷ 24 ∷ 25 ∷ 26 ∷ []) ≡ 0 ∷ 0 ∷ 0 ∷ 0 ∷ 0 ∷ 0 ∷ 0 ∷ 0 ∷ []
unfolding kind_of kinds rank
others_in_none = refl
