-- Comparisons: numbers by value, strings and ids by bytes, keys part by part.
use Prim.Native.Nat.{ℕ, compare, Ordering}
use Rattle.std.specs.Prelude.{Bool, true, false, List, [], ◌∷◌}
use Rattle.model.specs.Number.{Bytes}
use Rattle.std.specs.declared.cmp.Ordering.{Ordering as Order}
use Rattle.std.specs.declared.cmp.Ordering.TheVariants.{Less, Equal, Greater}

-- what the code's answer means
abbrev pub ordering : Order → Ordering
ordering Less = Ordering.lt
ordering Equal = Ordering.eq
ordering Greater = Ordering.gt

-- the second comparison decides where the first finds no difference
abbrev pub then_by : Ordering → Ordering → Ordering
then_by Ordering.lt o = Ordering.lt
then_by Ordering.eq o = o
then_by Ordering.gt o = Ordering.gt

-- element by element; a list comes before its longer continuations
module _ (A : Type 0) (order : A → A → Ordering) where
  abbrev pub lexicographic : List A → List A → Ordering
  lexicographic [] [] = Ordering.eq
  lexicographic [] (b ∷ y) = Ordering.lt
  lexicographic (a ∷ x) [] = Ordering.gt
  lexicographic (a ∷ x) (b ∷ y) = then_by (order a b) (lexicographic x y)

unfoldable pub compare_bytes : Bytes → Bytes → Ordering
compare_bytes = lexicographic ℕ compare

-- a key: its group's rank, then names and numbers; a number is a part of one element
abbrev pub Key : Type 0
Key = List Bytes

unfoldable pub compare_keys : Key → Key → Ordering
compare_keys = lexicographic Bytes compare_bytes

abbrev pub is_below : Ordering → Bool
is_below Ordering.lt = true
is_below Ordering.eq = false
is_below Ordering.gt = false

abbrev pub is_same : Ordering → Bool
is_same Ordering.lt = false
is_same Ordering.eq = true
is_same Ordering.gt = false

-- equality of byte strings, as a test
unfoldable pub same_bytes : Bytes → Bytes → Bool
same_bytes a b = is_same (compare_bytes a b)
