-- The names that begin with a scope stand together: none is below it, and behind one that is not below it and does not begin with it there is none.
use Rattle.std.specs.Prelude.{◌≡◌, refl, true, [], ◌∷◌, eqb}
use Rattle.std.proofs.Common.{sym, eqb-true, eq-eqb}
use Prim.Native.Nat.{Ordering, compare}
use Rattle.model.specs.Number.{Bytes}
use Rattle.model.specs.Order.{compare_bytes}
use Rattle.model.specs.Lookup.{begins_with}
use Rattle.laws.specs.Choice.{true_false, and_left, and_right}
use Rattle.laws.specs.Order.{numbers_total, gt_lt}

pub run_ends : (p a b : Bytes) → (compare_bytes a p ≡ Ordering.lt → ⊥) → (compare_bytes b a ≡ Ordering.lt → ⊥) → begins_with p b ≡ true → begins_with p a ≡ true
unfolding begins_with compare_bytes
run_ends [] a b lo hi h = refl
run_ends (x ∷ p) [] b lo hi h = absurd (lo refl)
run_ends (x ∷ p) (y ∷ a) [] lo hi h = absurd (true_false h refl)
run_ends (x ∷ p) (y ∷ a) (z ∷ b) lo hi h = go (compare y x) refl (run_ends p a b)
  where
    same : x ≡ z
    same = eqb-true x z (and_left (eqb x z) (begins_with p b) h)

    go : (o : Ordering) → compare y x ≡ o
        → ((compare_bytes a p ≡ Ordering.lt → ⊥) → (compare_bytes b a ≡ Ordering.lt → ⊥) → begins_with p b ≡ true → begins_with p a ≡ true)
        → begins_with (x ∷ p) (y ∷ a) ≡ true
    go Ordering.lt q i = absurd (lo (rw q refl))
    go Ordering.gt q i = absurd (hi (rw (← same, gt_lt numbers_total y x q) refl))
    go Ordering.eq q i =
        let e : y ≡ x = numbers_total.eqv y x q in
        let back : compare z y ≡ Ordering.eq = rw (← same, e) (numbers_total.same x) in
        rw (eq-eqb x y (sym e))
        (i (λ k. lo (rw q k)) (λ k. hi (rw back k)) (and_right (eqb x z) (begins_with p b) h))
