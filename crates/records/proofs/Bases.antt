-- The base of a kind number: none, where there is no such kind or its source does not know it, or that of the kind's shape, whose rows are the
-- kind's.
use mathlib.Core.Path.{◌≡◌, refl, sym, ◌∙◌}
use mathlib.Core.Bool.{Bool, true, false, cond}
use mathlib.Core.Option.{Option, none, some}
use Prim.Native.Nat.{ℕ, zero, suc}
use native.Mathlib.Omega.{arith}
use lib.Dec.{eqb}
use Rattle.model.specs.Choice.{given}
use Rattle.model.specs.Kind.{kind_of, kind_number}
use Rattle.model.specs.Run.{Run}
use Rattle.model.specs.Shape.{Source, logged, stored, framed, shape_of, unknown, start, run_fault, fault}
use Rattle.model.specs.Record.{Got, bad, rec, whole}
use Rattle.model.specs.declared.Kind.{Kind}
use Rattle.laws_records.specs.Kinds.{kind_number_lem}
use Rattle.shapes.specs.Table.{row_count, base_of, known_base, kind_base, rows_from}
use Rattle.shapes.proofs.Rows.{rows_from_lem}
use Rattle.shapes.proofs.Columns.{base_fits}
use Rattle.shape_faults.specs.Walk.{IsBase, check_at}

-- a shape's base is no kind's that there is none of
base_not_past : (source : Source) (kind : Kind) {base : ℕ} → base ≡ base_of (shape_of source kind) → base ≡ row_count → ⊥
base_not_past source kind e h = omega (arith, base_fits (shape_of source kind) e)

-- a kind that its source does not know is 3
three : (b : Bool) (n : ℕ) → cond {A = ℕ} b 3 0 ≡ suc n → cond {A = ℕ} b 3 0 ≡ 3
three true n e = refl
three false n e = absurd (omega arith)

unknown_three : (source : Source) (kind : Kind) (n : ℕ) → unknown source kind ≡ suc n → unknown source kind ≡ 3
unknown_three logged kind n e = three (eqb (kind_number kind) 26) n e
unknown_three stored kind n e = three (eqb (kind_number kind) 26) n e
unknown_three framed kind n e = absurd (omega arith)

module _ (source : Source) (k : ℕ) {base : ℕ} (e : base ≡ kind_base source k) where
  -- what is read of such a number
  pub no_kind : base ≡ row_count → (run : Run) (used : ℕ)
      → given (kind_of k) (bad 3) (λ kind. whole (fault source kind run) (rec kind run) used) ≡ bad 3
  unfolding kind_base
  no_kind h run used = go (kind_of k) e
    where
      known : (kind : Kind) (n : ℕ) → unknown source kind ≡ n → base ≡ known_base n (base_of (shape_of source kind))
          → whole (fault source kind run) (rec kind run) used ≡ bad 3
      known kind zero u q = absurd (base_not_past source kind q h)
      known kind (suc n) u q = rw (unknown_three source kind n u)

      go : (o : Option Kind) → base ≡ given o row_count (λ n. known_base (unknown source n) (base_of (shape_of source n)))
          → given o (bad 3) (λ kind. whole (fault source kind run) (rec kind run) used) ≡ bad 3
      go none q = refl
      go (some kind) q = known kind (unknown source kind) refl q

  pub some_kind : (base ≡ row_count → ⊥)
      → (kind : Kind) × (kind_of k ≡ some kind) × (unknown source kind ≡ 0) × (base ≡ base_of (shape_of source kind))
  unfolding kind_base
  some_kind h = go (kind_of k) refl e
    where
      known : (kind : Kind) (n : ℕ) → unknown source kind ≡ n → base ≡ known_base n (base_of (shape_of source kind))
          → (unknown source kind ≡ 0) × (base ≡ base_of (shape_of source kind))
      known kind zero u q = (u, q)
      known kind (suc n) u q = absurd (h q)

      go : (o : Option Kind) → kind_of k ≡ o → base ≡ given o row_count (λ n. known_base (unknown source n) (base_of (shape_of source n)))
          → (kind : Kind) × (kind_of k ≡ some kind) × (unknown source kind ≡ 0) × (base ≡ base_of (shape_of source kind))
      go none p q = absurd (h q)
      go (some kind) p q = let w = known kind (unknown source kind) refl q in (kind, p, w.0, w.1)

  pub kind_base_lem : (base ≡ row_count → ⊥) → IsBase base
  kind_base_lem h = let s = some_kind h in record { shape = shape_of source s.0; at = s.3 }

-- the rule of the base's rows is the kind's
pub kind_fault : (source : Source) (kind : Kind) {base : ℕ} → unknown source kind ≡ 0 → base ≡ base_of (shape_of source kind) → (run : Run)
    → run_fault (check_at false none) (rows_from base) start run ≡ fault source kind run
kind_fault source kind u e run = rw (u, e, rows_from_lem (shape_of source kind))

-- a kind's own base
pub record-base : (kind : Kind) {number base : ℕ} → number ≡ kind_number kind → base ≡ kind_base framed number → base ≡ base_of (shape_of framed kind)
unfolding kind_base
record-base kind e f = f ∙ rw (e, kind_number_lem kind)
