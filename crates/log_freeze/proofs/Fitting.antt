-- The slot of a freeze record is that of the one prefix, or of the literal scope, that it freezes.
use mathlib.Core.Path.{◌≡◌, refl, sym, ap, ◌∙◌}
use mathlib.Core.Bool.{Bool, true, false, cond, ◌&&◌}
use Prim.Native.Nat.{ℕ, ◌+◌, ◌≤◌, ◌<◌}
use native.Mathlib.Omega.{arith}
use borrow.Author.Tests.{eqb-true, eqb-false, ne_eqb}
use lib.Dec.{eqb}
use lib.ListN.{length, take, drop, length-append, take-append-drop}
use lib.Seq.{take-length, length-take-le}
use Rattle.model.specs.Number.{Bytes}
use Rattle.model.specs.Order.{compare_bytes, same_bytes}
use Rattle.model.specs.Run.{Run, value}
use Rattle.model.specs.Lookup.{literal, prefixed}
use Rattle.laws.specs.Order.{same_bytes_self, same_bytes_true, same_bytes_false, apart_same_bytes}
use Rattle.log_freeze.specs.Slots.{literal_slot, slot_count, pattern_slot, slot_of}

and-false : (b : Bool) → b && false ≡ false
and-false true = refl
and-false false = refl

module _ (f : Run) (name : Bytes) (short : length name ≤ 255) where
  abbrev scope : Bytes
  scope = value 1 f

  abbrev pattern : Bytes
  pattern = value 2 f

  abbrev front : Bytes
  front = take (length scope) name

  -- by the answers to the tests
  abbrev slot : Bool → Bool → Bool → Bool → ℕ
  slot b p l e = cond b (cond p (length scope) (cond l (cond e literal_slot slot_count) slot_count)) slot_count

  -- 1. A scope that the name does not begin with, and one that it begins with

  no_prefix : same_bytes scope front ≡ false → (i : ℕ) → i ≤ length name → same_bytes scope (take i name) ≡ false
  no_prefix q i h = apart_same_bytes scope (take i name) (λ e.
      let size : length scope ≡ i = ap length e ∙ length-take-le i name h in
      same_bytes_false scope front q (e ∙ ap (λ n. take n name) (sym size)))

  prefix : same_bytes scope front ≡ true → (i : ℕ) → i ≤ length name → (t : Bool) → eqb (length scope) i ≡ t → same_bytes scope (take i name) ≡ t
  prefix q i h true e =
      let same : scope ≡ take i name = same_bytes_true scope front q ∙ ap (λ n. take n name) (eqb-true (length scope) i e) in
      ap (λ x. same_bytes scope x) (sym same) ∙ same_bytes_self scope
  prefix q i h false e = apart_same_bytes scope (take i name) (λ s. eqb-false (length scope) i e (ap length s ∙ length-take-le i name h))

  -- 2. Its slot is a prefix's

  pub prefix_slot : (i : ℕ) → i ≤ length name → (same_bytes pattern prefixed && same_bytes scope (take i name)) ≡ eqb (slot_of f name) i
  unfolding pattern_slot
  prefix_slot i h = go (same_bytes scope front) refl (same_bytes pattern prefixed) (same_bytes pattern literal) (eqb (length scope) (length name))
    where
      past : (n : ℕ) → 255 < n → false ≡ eqb n i
      past n k = sym (ne_eqb n i (λ e. absurd (omega arith)))

      go : (b : Bool) → same_bytes scope front ≡ b → (p l e : Bool) → (p && same_bytes scope (take i name)) ≡ eqb (slot b p l e) i
      go false q p l e = rw (no_prefix q i h) (and-false p ∙ past 257 (omega arith))
      go true q true l e = prefix q i h (eqb (length scope) i) refl
      go true q false true true = past 256 (omega arith)
      go true q false true false = past 257 (omega arith)
      go true q false false e = past 257 (omega arith)

  -- 3. Or the literal scope's

  whole : take (length name) name ≡ name
  whole = take-length name

  no_literal : same_bytes scope front ≡ false → same_bytes scope name ≡ false
  no_literal q = ap (λ x. same_bytes scope x) (sym whole) ∙ no_prefix q (length name) (omega arith)

  is_literal : same_bytes scope front ≡ true → same_bytes scope name ≡ eqb (length scope) (length name)
  is_literal q = ap (λ x. same_bytes scope x) (sym whole) ∙ prefix q (length name) (omega arith) (eqb (length scope) (length name)) refl

  scope-short : same_bytes scope front ≡ true → length scope ≤ 255
  scope-short q =
      let size : length (take (length scope) name) + length (drop (length scope) name) ≡ length name =
      sym (length-append (take (length scope) name) (drop (length scope) name)) ∙ ap length (take-append-drop (length scope) name) in
      omega (arith, ap length (same_bytes_true scope front q), size)

  not_both : same_bytes pattern prefixed ≡ true → same_bytes pattern literal ≡ false
  unfolding same_bytes compare_bytes
  not_both h = rw (same_bytes_true pattern prefixed h) refl

  pub literal_slot_lem : (same_bytes pattern literal && same_bytes scope name) ≡ eqb (slot_of f name) literal_slot
  unfolding pattern_slot
  literal_slot_lem = go (same_bytes scope front) refl (same_bytes pattern prefixed) refl (same_bytes pattern literal) refl
    where
      same : (e : Bool) → same_bytes scope name ≡ e → e ≡ eqb (cond e literal_slot slot_count) literal_slot
      same true q = refl
      same false q = refl

      go : (b : Bool) → same_bytes scope front ≡ b → (p : Bool) → same_bytes pattern prefixed ≡ p → (l : Bool) → same_bytes pattern literal ≡ l
          → (l && same_bytes scope name) ≡ eqb (slot b p l (eqb (length scope) (length name))) literal_slot
      go false q p u l v = rw (no_literal q) (and-false l)
      go true q true u l v =
          let no : l ≡ false = sym v ∙ not_both u in
          rw no (sym (ne_eqb (length scope) 256 (λ e. absurd (omega (arith, scope-short q)))))
      go true q false u true v = rw (is_literal q) (same (eqb (length scope) (length name)) (is_literal q))
      go true q false u false v = refl
