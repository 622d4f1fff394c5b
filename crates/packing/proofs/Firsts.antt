-- The first places of a list.
use mathlib.Core.Path.{◌≡◌, refl, ap, ◌∙◌}
use mathlib.Core.List.{List, [], ◌∷◌}
use Prim.Native.Nat.{ℕ, ◌≤◌, ◌<◌}
use native.Mathlib.Omega.{arith}
use lib.ListN.{length, set}
use Rattle.packing.specs.Packed.{first_is, filled}

pub set_first : (n : ℕ) (l : List ℕ) → 0 < length l → set l 0 n ≡ first_is (n ∷ []) l
set_first n [] q = absurd (omega arith)
set_first n (x ∷ l) q = refl

pub no_first : (n : ℕ) (l : List ℕ) → length l ≤ 0 → l ≡ first_is (n ∷ []) l
no_first n [] q = refl
no_first n (x ∷ l) q = absurd (omega arith)

-- a second one behind the first
module _ (a b : ℕ) where
  pub set_second : (l : List ℕ) {m : List ℕ} → m ≡ first_is (a ∷ []) l → 1 < length m → set m 1 b ≡ filled (a ∷ b ∷ []) l
  set_second l {m} e q = ap (λ x. set x 1 b) e ∙ go l (omega (arith, q, ap length e))
    where
      go : (l : List ℕ) → 1 < length (first_is (a ∷ []) l) → set (first_is (a ∷ []) l) 1 b ≡ filled (a ∷ b ∷ []) l
      go [] h = absurd (omega arith)
      go (x ∷ []) h = absurd (omega arith)
      go (x ∷ y ∷ l) h = refl

  pub no_second : (l : List ℕ) {m : List ℕ} → m ≡ first_is (a ∷ []) l → length m ≤ 1 → m ≡ filled (a ∷ b ∷ []) l
  no_second l {m} e q = e ∙ go l (omega (arith, q, ap length e))
    where
      go : (l : List ℕ) → length (first_is (a ∷ []) l) ≤ 1 → first_is (a ∷ []) l ≡ filled (a ∷ b ∷ []) l
      go [] h = refl
      go (x ∷ []) h = refl
      go (x ∷ y ∷ l) h = absurd (omega arith)
