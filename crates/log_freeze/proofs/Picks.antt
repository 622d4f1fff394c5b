-- The slot of a freeze record and what it then holds, exit by exit; and the longest prefix's, slot by slot.
use mathlib.Core.Path.{◌≡◌, refl, sym, ap, ◌∙◌}
use mathlib.Core.Bool.{Bool, true, false, not}
use mathlib.Core.List.{List}
use Prim.Native.Nat.{ℕ, suc, ◌+◌, ◌-◌, ◌≤◌, ◌<◌}
use native.Mathlib.Omega.{arith}
use borrow.Author.Tests.{eq-eqb, ne_eqb, not-true, not-false}
use lib.ListN.{length, take, drop, get_or, set}
use lib.Seq.{set_out}
use Rattle.model.specs.Number.{Bytes, number}
use Rattle.model.specs.Order.{same_bytes}
use Rattle.model.specs.Run.{Run, value}
use Rattle.model.specs.Lookup.{begins_with, literal, prefixed}
use Rattle.wire.proofs.Begins.{begins_same}
use Rattle.keys.specs.Keys.{kind_in, run_in}
use Rattle.keys.proofs.Found.{part_length}
use Rattle.keys.proofs.Fields.{PartOf, lent-value}
use Rattle.log_freeze.specs.Slots.{literal_slot, pattern_slot, slot_of, slot_value, noted, longest_slot, chosen_slot}

-- 1. By the pattern

module _ (pattern : Bytes) (scope name : ℕ) {a : Bool} (ea : a ≡ same_bytes pattern prefixed) where
  pub is_prefixed : a ≡ true → scope ≡ pattern_slot pattern scope name
  unfolding pattern_slot
  is_prefixed h = rw (sym ea ∙ h)

  module _ (no : a ≡ false) {b : Bool} (eb : b ≡ same_bytes pattern literal) where
    pub no_pattern : not b ≡ true → 257 ≡ pattern_slot pattern scope name
    unfolding pattern_slot
    no_pattern h = rw (sym ea ∙ no, sym eb ∙ not-true b h)

    module _ (h : not b ≡ false) where
      pub whole_name : scope ≡ name → 256 ≡ pattern_slot pattern scope name
      unfolding pattern_slot
      whole_name q = rw (sym ea ∙ no, sym eb ∙ not-false b h, eq-eqb scope name q)

      pub part-of_name : (scope ≡ name → ⊥) → 257 ≡ pattern_slot pattern scope name
      unfolding pattern_slot
      part-of_name q = rw (sym ea ∙ no, sym eb ∙ not-false b h, ne_eqb scope name q)

-- 2. Of a record

module _ (e name : Bytes) {start end : ℕ} (p : PartOf e 1 start end) where
  abbrev lent : Bytes
  lent = take (end - start) (drop start e)

  size : end - start ≡ length (value 1 (run_in e))
  size = omega (arith, part_length e start end (value 1 (run_in e)) p.1 p.2 p.0)

  module _ {b : Bool} (eb : b ≡ begins_with lent name) where
    begins : b ≡ same_bytes (value 1 (run_in e)) (take (length (value 1 (run_in e))) name)
    begins = eb ∙ ap (λ x. begins_with x name) (lent-value e 1 start end p) ∙ sym (begins_same (value 1 (run_in e)) name)

    pub no_slot : not b ≡ true → 257 ≡ slot_of (run_in e) name
    no_slot h = rw (sym begins ∙ not-true b h)

    pub some-slot : not b ≡ false → {from to : ℕ} → PartOf e 2 from to → {r : ℕ}
        → r ≡ pattern_slot (take (to - from) (drop from e)) (end - start) (length name) → r ≡ slot_of (run_in e) name
    some-slot h {from} {to} q er =
        er ∙ ap (λ x. pattern_slot x (end - start) (length name)) (lent-value e 2 from to q)
        ∙ ap (λ n. pattern_slot (value 2 (run_in e)) n (length name)) size ∙ rw (sym begins ∙ not-false b h)

module _ (f : Run) (at : ℕ) {n : ℕ} (en : n ≡ number (value 3 f)) where
  pub frozen-value : n ≡ 1 → at + 1 ≡ slot_value f at
  frozen-value h = rw (eq-eqb (number (value 3 f)) 1 (sym en ∙ h))

  pub thawed_value : (n ≡ 1 → ⊥) → 0 ≡ slot_value f at
  thawed_value h = rw (ne_eqb (number (value 3 f)) 1 (λ q. h (en ∙ q)))

-- 3. The slots after a record

module _ (slots : List ℕ) (name e : Bytes) (at : ℕ) where
  pub no_freeze_lem : (get_or e 0 0 ≡ 18 → ⊥) → slots ≡ noted slots name e at
  unfolding noted
  no_freeze_lem h = rw (ne_eqb (kind_in e) 18 h)

  module _ (h : get_or e 0 0 ≡ 18) {i : ℕ} (ei : i ≡ slot_of (run_in e) name) where
    pub set-slot : {v : ℕ} → v ≡ slot_value (run_in e) at → set slots i v ≡ noted slots name e at
    unfolding noted
    set-slot ev = rw (eq-eqb (kind_in e) 18 h, ei, ev) refl

    pub other_scope : length slots ≤ i → slots ≡ noted slots name e at
    unfolding noted
    other_scope k =
        rw (eq-eqb (kind_in e) 18 h) (sym (set_out slots (slot_of (run_in e) name) (slot_value (run_in e) at) (omega (arith, ei))))

-- 4. The longest prefix

module _ (slots : List ℕ) where
  pub longer_empty : (i : ℕ) → 0 < i → get_or slots (i - 1) 0 ≡ 0 → longest_slot slots i ≡ longest_slot slots (i - 1)
  unfolding longest_slot
  longer_empty i h e =
      let q : i ≡ suc (i - 1) = omega arith in
      ap (longest_slot slots) q ∙ rw (eq-eqb (get_or slots (i - 1) 0) 0 e)

  pub longer_holds : (i : ℕ) → 0 < i → (get_or slots (i - 1) 0 ≡ 0 → ⊥) → longest_slot slots i ≡ get_or slots (i - 1) 0
  unfolding longest_slot
  longer_holds i h e =
      let q : i ≡ suc (i - 1) = omega arith in
      ap (longest_slot slots) q ∙ rw (ne_eqb (get_or slots (i - 1) 0) 0 e)

  pub none-shorter : (i : ℕ) → i ≤ 0 → longest_slot slots i ≡ 0
  unfolding longest_slot
  none-shorter i h = let q : i ≡ 0 = omega arith in ap (longest_slot slots) q

  pub literal-first : (n : ℕ) → (get_or slots literal_slot 0 ≡ 0 → ⊥) → get_or slots literal_slot 0 ≡ chosen_slot slots n
  literal-first n h = rw (ne_eqb (get_or slots literal_slot 0) 0 h)

  pub prefix_next : (n : ℕ) → get_or slots literal_slot 0 ≡ 0 → {v : ℕ} → v ≡ longest_slot slots (n + 1) → v ≡ chosen_slot slots n
  prefix_next n h e = let q : n + 1 ≡ suc n = omega arith in e ∙ ap (longest_slot slots) q ∙ rw (eq-eqb (get_or slots literal_slot 0) 0 h)
