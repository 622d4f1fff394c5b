-- Three numbers compared one after the other.
use mathlib.Core.Path.{◌≡◌, refl, sym, ap, ◌∙◌}
use mathlib.Core.Bool.{false, ◌&&◌}
use Prim.Native.Nat.{ℕ}
use borrow.Author.Tests.{eq-eqb, ne_eqb}
use lib.Dec.{eqb}

module _ {a x : ℕ} (ea : a ≡ x) (one : ℕ) where
  pub first_differs : (a ≡ one → ⊥) → (y n z f : ℕ) → false ≡ eqb x one && eqb y n && eqb z f
  first_differs d y n z f = rw (ne_eqb x one (λ (e : x ≡ one). d (ea ∙ e))) refl

  module _ (same : a ≡ one) {b y : ℕ} (eb : b ≡ y) (n : ℕ) where
    pub second_differs : (b ≡ n → ⊥) → (z f : ℕ) → false ≡ eqb x one && eqb y n && eqb z f
    second_differs d z f = rw (eq-eqb x one (sym ea ∙ same), ne_eqb y n (λ (e : y ≡ n). d (eb ∙ e))) refl

    pub third_decides : b ≡ n → {c z : ℕ} → c ≡ z → (f : ℕ) → eqb c f ≡ eqb x one && eqb y n && eqb z f
    third_decides s {c} {z} ec f = rw (eq-eqb x one (sym ea ∙ same), eq-eqb y n (sym eb ∙ s)) (ap (λ q. eqb q f) ec)
