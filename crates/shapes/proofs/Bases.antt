-- The base of a kind number: by computation for each kind, none above them, one stored shape that differs, and one kind that the log and the
-- image do not know.
use mathlib.Core.Path.{◌≡◌, refl, sym, ◌∙◌}
use mathlib.Core.Bool.{Bool, true, false}
use mathlib.Core.Option.{Option, none, some}
use Prim.Native.Nat.{ℕ, zero, suc, ◌≤◌}
use native.Mathlib.Omega.{arith}
use lib.Dec.{eqb}
use borrow.Author.Tests.{eqb-true, eqb-false, ne_eqb}
use Rattle.model.specs.Choice.{given}
use Rattle.model.specs.Kind.{kind_of, kinds, kind_number}
use Rattle.model.specs.Shape.{logged, stored, framed, shape_of, unknown}
use Rattle.model.specs.declared.Kind.{Kind}
use Rattle.laws.specs.Lists.{get_elem?_past}
use Rattle.laws_records.specs.Kinds.{number_kind}
use Rattle.shapes.specs.Table.{row_count, base_of, known_base, kind_base}

pub kind_past : (k : ℕ) → 27 ≤ k → kind_of k ≡ none
unfolding kind_of kinds
kind_past zero h = refl
kind_past (suc n) h = get_elem?_past kinds n (omega arith)

base_offset : (k : ℕ) → k ≡ 26 → row_count ≡ kind_base logged k
unfolding kind_base kind_of kinds kind_number
base_offset k e = rw e

pub base_past : (k : ℕ) → 26 ≤ k → row_count ≡ kind_base logged k
unfolding kind_base
base_past k h = go (eqb k 26) refl
  where
    go : (b : Bool) → eqb k 26 ≡ b → row_count ≡ kind_base logged k
    go true e = base_offset k (eqb-true k 26 e)
    go false e = let d = eqb-false k 26 e in rw (kind_past k (omega arith))

-- of other kinds than 1 the stored shape is the record's
stored_same : (k : ℕ) (o : Option Kind) → kind_of k ≡ o → (k ≡ 1 → ⊥)
    → given o row_count (λ n. known_base (unknown stored n) (base_of (shape_of stored n)))
    ≡ given o row_count (λ n. known_base (unknown logged n) (base_of (shape_of logged n)))
unfolding shape_of
stored_same k none e h = refl
stored_same k (some n) e h = rw (ne_eqb (kind_number n) 1 (λ q. h (sym (number_kind k n e) ∙ q)))

pub base_stored : (k : ℕ) → (k ≡ 1 → ⊥) → kind_base stored k ≡ kind_base logged k
unfolding kind_base
base_stored k h = stored_same k (kind_of k) refl h

-- the log knows every kind but 26
framed-same : (k : ℕ) (o : Option Kind) → kind_of k ≡ o → (k ≡ 26 → ⊥)
    → given o row_count (λ n. known_base (unknown framed n) (base_of (shape_of framed n)))
    ≡ given o row_count (λ n. known_base (unknown logged n) (base_of (shape_of logged n)))
unfolding shape_of
framed-same k none e h = refl
framed-same k (some n) e h = rw (ne_eqb (kind_number n) 26 (λ q. h (sym (number_kind k n e) ∙ q)))

pub base_framed : (k : ℕ) → (k ≡ 26 → ⊥) → kind_base framed k ≡ kind_base logged k
unfolding kind_base
base_framed k h = framed-same k (kind_of k) refl h
