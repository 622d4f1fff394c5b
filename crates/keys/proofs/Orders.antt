-- Orders in steps: the first difference decides, and a part of one number compares as the number.
use mathlib.Core.Path.{◌≡◌, refl, sym, ◌∙◌}
use mathlib.Core.Bool.{Bool, true, false}
use mathlib.Core.List.{[], ◌∷◌}
use Prim.Native.Nat.{ℕ, ◌≤◌, ◌<◌, compare, Ordering}
use native.Mathlib.Omega.{arith}
use lib.Dec.{eqb}
use lib.ListN.{length}
use borrow.Author.Tests.{eqb-true, eqb-false}
use Rattle.model.specs.Number.{Bytes, AreBytes, number}
use Rattle.model.specs.Kind.{kind_of, kinds}
use Rattle.model.specs.Key.{rank}
use Rattle.model.specs.Order.{then_by, compare_bytes, ordering}
use Rattle.std.specs.declared.cmp.Ordering.{Ordering as Order}
use Rattle.std.specs.declared.cmp.Ordering.TheVariants.{Less, Equal, Greater}
use Rattle.shapes.proofs.Bases.{kind_past}
use Rattle.keys.specs.Keys.{rank_of}
use Rattle.keys.specs.Forms.{form_of, key_form}
use Rattle.laws.specs.Order.{lt-compare, eq_compare, gt_compare}
use Rattle.laws.specs.Numbers.{compare-number}

module _ {o : Order} {x : Ordering} (y : Ordering) where
  pub first_less : o ≡ Less → ordering o ≡ x → Ordering.lt ≡ then_by x y
  first_less h e = let q : Ordering.lt ≡ x = rw h at e in rw (← q)

  pub first_equal : o ≡ Equal → ordering o ≡ x → y ≡ then_by x y
  first_equal h e = let q : Ordering.eq ≡ x = rw h at e in rw (← q)

  pub first_greater : o ≡ Greater → ordering o ≡ x → Ordering.gt ≡ then_by x y
  first_greater h e = let q : Ordering.gt ≡ x = rw h at e in rw (← q)

-- parts of one number
pub then_same : (o : Ordering) → then_by o Ordering.eq ≡ o
then_same Ordering.lt = refl
then_same Ordering.eq = refl
then_same Ordering.gt = refl

pub single : (x y : ℕ) → compare_bytes (x ∷ []) (y ∷ []) ≡ compare x y
unfolding compare_bytes
single x y = then_same (compare x y)

module _ (x y a b : ℕ) (p : x ≡ a) (q : y ≡ b) where
  pub single_less : x < y → Ordering.lt ≡ compare_bytes (a ∷ []) (b ∷ [])
  single_less h = rw (← p, ← q) (sym (single x y ∙ lt-compare x y h))

  pub single_greater : y < x → Ordering.gt ≡ compare_bytes (a ∷ []) (b ∷ [])
  single_greater h = rw (← p, ← q) (sym (single x y ∙ gt_compare x y h))

  pub single_equal : x ≡ y → Ordering.eq ≡ compare_bytes (a ∷ []) (b ∷ [])
  single_equal h = rw (← p, ← q) (sym (single x y ∙ eq_compare x y h))

-- numbers of one width compare as their bytes
pub number_part_lem : (a b : Bytes) → length a ≡ length b → AreBytes a → AreBytes b → compare_bytes (number a ∷ []) (number b ∷ []) ≡ compare_bytes a b
number_part_lem a b e p q = single (number a) (number b) ∙ sym (compare-number a b e p q)

-- a number past the kinds of entries has no rank and no form: 26 by computation, and past it there is no kind
past_kinds : {P : ℕ → Type 0} → P 26 → ((n : ℕ) → 27 ≤ n → P n) → (n : ℕ) → 26 ≤ n → P n
past_kinds {P} last past n h = go (eqb n 26) refl
  where
    go : (b : Bool) → eqb n 26 ≡ b → P n
    go true e = rw (eqb-true n 26 e) last
    go false e = let d = eqb-false n 26 e in past n (omega arith)

pub rank_past : (n : ℕ) → 26 ≤ n → 0 ≡ rank_of n
unfolding rank_of kind_of kinds rank
rank_past n h = past_kinds {P = λ m. 0 ≡ rank_of m} refl (λ m k. rw (kind_past m k)) n h

pub form_past : (n : ℕ) → 26 ≤ n → 0 ≡ form_of n
unfolding form_of kind_of kinds key_form
form_past n h = past_kinds {P = λ m. 0 ≡ form_of m} refl (λ m k. rw (kind_past m k)) n h
