-- A field's value by the part of a record that it stands in, and the place of its number among signed ones.
use mathlib.Core.Path.{◌≡◌, sym, ap, ap₂, ◌∙◌}
use mathlib.Core.Bool.{Bool}
use mathlib.Core.List.{[], ◌∷◌}
use Prim.Native.Nat.{ℕ, ◌+◌, ◌-◌, ◌*◌, ◌^◌, ◌≤◌, ◌<◌}
use native.Mathlib.Omega.{arith}
use native.Mathlib.Nat.{pow-suc, pow-le-pow_right}
use native.Mathlib.Numerals.{add-one}
use borrow.Author.Tests.{eq-eqb, ne_eqb}
use lib.Dec.{eqb, lit<}
use lib.ListN.{length, take, drop}
use lib.Seq.{slice}
use Rattle.model.specs.Choice.{is_empty}
use Rattle.model.specs.Number.{Bytes, number, span, half, place}
use Rattle.model.specs.Order.{same_bytes}
use Rattle.model.specs.Run.{run_of, field, value}
use Rattle.laws.specs.Numbers.{span_pos, half-half, place_nonnegative, place-negative}
use Rattle.fields.specs.Fields.{held}
use Rattle.fields.specs.declared.Found.{Found}
use Rattle.fields.specs.declared.Found.TheVariants.{Part, Missing}
use Rattle.wire.proofs.Numbers.{span_fits}
use Rattle.keys.specs.Keys.{run_in}
use Rattle.keys.proofs.Found.{lent_slice, part_length, value-part, value-missing}

-- 1. The part

abbrev pub PartOf : Bytes → ℕ → ℕ → ℕ → Type 0
PartOf e tag start end = (slice start end e ≡ value tag (run_in e)) × (start ≤ end) × (end ≤ length e)

module _ (e : Bytes) (tag start end : ℕ) (h : PartOf e tag start end) where
  pub lent-value : take (end - start) (drop start e) ≡ value tag (run_in e)
  lent-value = lent_slice e start end h.1 ∙ h.0

  pub lent-short : (n : ℕ) → length (value tag (run_in e)) ≤ n → length (take (end - start) (drop start e)) ≤ n
  lent-short n few = rw lent-value few

  ends : end ≡ start + length (value tag (run_in e))
  ends = part_length e start end (value tag (run_in e)) h.1 h.2 h.0

  pub is_empty_lem : eqb start end ≡ is_empty (value tag (run_in e))
  is_empty_lem = go (value tag (run_in e)) ends
    where
      go : (v : Bytes) → end ≡ start + length v → eqb start end ≡ is_empty v
      go [] q = eq-eqb start end (omega arith)
      go (x ∷ v) q = ne_eqb start end (λ p. omega arith)

pub same-values : (a b : Bytes) (tag p q u v : ℕ) → PartOf a tag p q → PartOf b tag u v → {r : Bool}
    → r ≡ same_bytes (take (q - p) (drop p a)) (take (v - u) (drop u b)) → r ≡ same_bytes (value tag (run_in a)) (value tag (run_in b))
same-values a b tag p q u v h k e = e ∙ ap₂ same_bytes (lent-value a tag p q h) (lent-value b tag u v k)

-- a field within the run that a field's value is
module _ (e : Bytes) (tag start end : ℕ) (h : PartOf e tag start end) (inner : ℕ) {r : Found} (f : held e r ≡ field inner (run_of (slice start end e))) where
  pub lent_nested : {at len : ℕ} → r ≡ Part at len → take (at + len - at) (drop at e) ≡ value inner (run_of (value tag (run_in e)))
  lent_nested {at} {len} p =
      lent_slice e at (at + len) (omega arith) ∙ value-part e inner (run_of (slice start end e)) f p ∙ ap (λ v. value inner (run_of v)) h.0

  pub nested_short : {at len : ℕ} → r ≡ Part at len → (n : ℕ) → length (value inner (run_of (value tag (run_in e)))) ≤ n
      → length (take (at + len - at) (drop at e)) ≤ n
  nested_short p n few = rw (lent_nested p) few

  pub none_nested : r ≡ Missing → ◌≡◌ {A = Bytes} [] (value inner (run_of (value tag (run_in e))))
  none_nested p = value-missing e inner (run_of (slice start end e)) f p ∙ ap (λ v. value inner (run_of v)) h.0

-- 2. Half of a width's numbers

pub half-more : (h i : ℕ) → h + h ≡ span i → h * 256 + h * 256 ≡ span (i + 1)
half-more h i e = let p = pow-suc 256 i in rw add-one (omega arith)

pub half_fits : (h i width : ℕ) → h + h ≡ span i → i < width → width ≤ 8 → h * 256 < 2 ^ 64
half_fits h i width e l m = let low : h < span i = omega (arith, span_pos i) in omega (arith, span_fits h 0 i width low (lit< tt) l m)

pub half_is : (h width : ℕ) → 0 < width → h + h ≡ span width → h ≡ half width
half_is h width p e = omega (arith, half-half width p)

-- 3. A signed number's place

module _ (n half' width : ℕ) (is : half' ≡ half width) where
  pub place_fits : 0 < width → width ≤ 8 → n < half' → n + half' < 2 ^ 64
  place_fits p m l =
      let most : span width ≤ 2 ^ 64 = pow-le-pow_right {n = 256} (lit< tt) {i = width} {j = 8} m in
      omega (arith, half-half width p)

  pub place_up : (v : Bytes) → n ≡ number v → n < half' → n + half' ≡ place width (number v)
  place_up v e l = ap (λ x. n + x) is ∙ sym (place_nonnegative width n (rw (← is) l)) ∙ ap (place width) e

  pub place_down : (v : Bytes) → (n ≡ number v) × (n < span width) → half' ≤ n → n - half' ≡ place width (number v)
  place_down v e l = ap (λ x. n - x) is ∙ sym (place-negative width n (rw (← is) l) e.1) ∙ ap (place width) e.0
