-- A reply in one number, and values that are too wide for that: they go to the first places of a lent list.
use Rattle.std.specs.Prelude.{List, [], ◌∷◌, ℕ, ◌+◌, ◌*◌, ◌/◌, ◌%◌, length, drop}
use Rattle.model.specs.Reply.{Reply}
use Rattle.model.specs.History.{first_value}

-- 01's number, and the value that comes with it, 0 where none does
abbrev pub packed : Reply → ℕ
packed r = r.number * 4294967296 + first_value r.values

-- the two halves of such a number
abbrev pub upper_half : ℕ → ℕ
upper_half n = n / 4294967296

abbrev pub lower_half : ℕ → ℕ
lower_half n = n % 4294967296

abbrev pub first_is : List ℕ → List ℕ → List ℕ
first_is [] l = l
first_is (v ∷ vs) [] = []
first_is (v ∷ vs) (x ∷ l) = v ∷ l

abbrev pub widened : Reply → List ℕ → List ℕ
widened r l = first_is r.values l

-- the value after the first
abbrev pub beside : Reply → List ℕ → List ℕ
beside r l = first_is (drop 1 r.values) l

-- as many values as a list has places for, from the first on
abbrev pub filled : List ℕ → List ℕ → List ℕ
filled [] l = l
filled (v ∷ vs) [] = []
filled (v ∷ vs) (x ∷ l) = v ∷ filled vs l

-- how many values come with a number, where there may be none
abbrev pub counted : Reply → ℕ
counted r = r.number * 4294967296 + length r.values
