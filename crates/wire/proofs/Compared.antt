-- The library's words for comparing are the model's.
use mathlib.Core.Path.{◌≡◌, refl, sym, ap, ◌∙◌}
use mathlib.Core.List.{[], ◌∷◌}
use Prim.Native.Nat.{ℕ, ◌<◌, compare}
use Rattle.std.specs.Cmp.Lexicographic.{slice_cmp}
use Rattle.std.specs.Ordering.{nat_cmp, ordering_then, is_eq, MatchOrdering}
use Rattle.std.specs.declared.cmp.Ordering.{Ordering as Order}
use Rattle.std.specs.declared.cmp.Ordering.TheVariants.{Less, Equal, Greater}
use Rattle.std.specs.Str.{bytes_eq}
use Rattle.std.proofs.lemmas.Cmp.{ranked}
use Rattle.std.proofs.lemmas.Map.Text.{is_eq-slice_cmp}
use Rattle.model.specs.Number.{Bytes}
use Rattle.model.specs.Order.{ordering, then_by, compare_bytes, is_same, same_bytes}
use Rattle.laws.specs.Order.{lt-compare, eq_compare, gt_compare}

numbers : (x y : ℕ) → ordering (nat_cmp x y) ≡ compare x y
numbers x y = go (nat_cmp x y) (ranked x y _ refl)
  where
    go : (o : Order) → MatchOrdering o (x < y) (x ≡ y) (y < x) → ordering o ≡ compare x y
    go Less h = sym (lt-compare x y h)
    go Equal h = sym (eq_compare x y h)
    go Greater h = sym (gt_compare x y h)

then : (o p : Order) → ordering (ordering_then o p) ≡ then_by (ordering o) (ordering p)
then Less p = refl
then Equal p = refl
then Greater p = refl

pub compared : (a b : Bytes) → ordering (slice_cmp nat_cmp a b) ≡ compare_bytes a b
unfolding compare_bytes
compared [] [] = refl
compared [] (y ∷ b) = refl
compared (x ∷ a) [] = refl
compared (x ∷ a) (y ∷ b) = then (nat_cmp x y) (slice_cmp nat_cmp a b) ∙ rw (numbers x y, compared a b)

same : (o : Order) → is_eq o ≡ is_same (ordering o)
same Less = refl
same Equal = refl
same Greater = refl

pub equal : (a b : Bytes) → bytes_eq a b ≡ same_bytes a b
unfolding same_bytes
equal a b = sym (is_eq-slice_cmp a b) ∙ same (slice_cmp nat_cmp a b) ∙ ap is_same (compared a b)
