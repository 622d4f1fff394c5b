-- Two tests of which the second is asked only where the first does not decide.
use mathlib.Core.Path.{◌≡◌, refl, sym, ap, ◌∙◌}
use mathlib.Core.Bool.{Bool, true, false, ◌&&◌, not}
use Prim.Native.Nat.{ℕ}
use native.Mathlib.Omega.{arith}
use borrow.Author.Tests.{leb-true, leb-false, lt-ltb, le-ltb}
use lib.Dec.{leb, ltb}
use Rattle.model.specs.Number.{half, is_negative}
use Rattle.laws.specs.Choice.{impossible}

-- both of two
module _ {x : Bool} (y : Bool) {a : Bool} (p : a ≡ x) where
  pub both_first : a ≡ false → a ≡ x && y
  both_first h = p ∙ (let q : x ≡ false = sym p ∙ h in rw q)

  pub both_second : a ≡ true → {b : Bool} → b ≡ y → b ≡ x && y
  both_second h q = q ∙ (let f : x ≡ true = sym p ∙ h in rw f)

  -- not both
  pub not_first : not a ≡ true → not a ≡ not (x && y)
  not_first h = ap not p ∙ go x (ap not (sym p) ∙ h)
    where
      go : (c : Bool) → not c ≡ true → not c ≡ not (c && y)
      go true k = impossible cc
      go false k = refl

  pub not_second : not a ≡ false → {b : Bool} → b ≡ y → not b ≡ not (x && y)
  not_second h q = ap not q ∙ go x (ap not (sym p) ∙ h)
    where
      go : (c : Bool) → not c ≡ false → not y ≡ not (c && y)
      go true k = refl
      go false k = impossible cc

-- a signed number above 0
ltb-leb : (m n : ℕ) → ltb n m ≡ not (leb m n)
ltb-leb m n = go (leb m n) refl
  where
    go : (b : Bool) → leb m n ≡ b → ltb n m ≡ not b
    go true h = le-ltb n m (leb-true m n h)
    go false h = lt-ltb n m (leb-false m n h)

pub not_positive : (n : ℕ) → n ≡ 0 → false ≡ (ltb 0 n && not (is_negative 8 n))
not_positive n h = rw h

pub is_positive : (n : ℕ) → (n ≡ 0 → ⊥) → ltb n (half 8) ≡ (ltb 0 n && not (is_negative 8 n))
is_positive n h = rw (lt-ltb 0 n (omega arith)) (ltb-leb (half 8) n)
