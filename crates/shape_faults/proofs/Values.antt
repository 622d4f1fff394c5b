-- What is wrong with a value, by the form's code: up to 8 no run, from there on one.
use mathlib.Core.Path.{◌≡◌, refl, ap, ◌∙◌}
use mathlib.Core.Bool.{Bool, true, false, cond}
use mathlib.Core.Option.{Option}
use Prim.Native.Nat.{ℕ, zero, suc, ◌≤◌, ◌<◌}
use native.Mathlib.Omega.{arith}
use borrow.Author.Tests.{ne_eqb}
use Rattle.model.specs.Number.{Bytes}
use Rattle.model.specs.Run.{run_of}
use Rattle.model.specs.Shape.{nested, start, leaf_fault, value_fault, run_fault}
use Rattle.shapes.specs.Table.{form_in, size_in, base_of, shape_at, form_of, rows_from}
use Rattle.shapes.proofs.Rows.{rows_from_lem}
use Rattle.shape_faults.specs.Walk.{IsBase, IsRow, check_at}

leaf_value : (key : Option Bytes) (form size : ℕ) (v : Bytes) → form < 9 → value_fault key (form_of form size) v ≡ leaf_fault key (form_of form size) v
unfolding value_fault form_of
leaf_value key zero size v h = refl
leaf_value key (suc zero) size v h = refl
leaf_value key (suc (suc zero)) size v h = refl
leaf_value key (suc (suc (suc zero))) size v h = refl
leaf_value key (suc (suc (suc (suc zero)))) size v h = refl
leaf_value key (suc (suc (suc (suc (suc zero))))) size v h = refl
leaf_value key (suc (suc (suc (suc (suc (suc zero)))))) size v h = refl
leaf_value key (suc (suc (suc (suc (suc (suc (suc zero))))))) size v h = refl
leaf_value key (suc (suc (suc (suc (suc (suc (suc (suc zero)))))))) size v h = refl
leaf_value key (suc (suc (suc (suc (suc (suc (suc (suc (suc form))))))))) size v h = absurd (omega arith)

run_form : (form size : ℕ) → 9 ≤ form → form_of form size ≡ nested (shape_at size)
unfolding form_of
run_form form size h =
    rw (
      ne_eqb form 0 (omega arith),
      ne_eqb form 1 (omega arith),
      ne_eqb form 2 (omega arith),
      ne_eqb form 3 (omega arith),
      ne_eqb form 4 (omega arith),
      ne_eqb form 5 (omega arith),
      ne_eqb form 6 (omega arith),
      ne_eqb form 7 (omega arith),
      ne_eqb form 8 (omega arith),
    )

-- the shape of a row's run
module _ (row : ℕ) {form size : ℕ} (is : IsRow row) (ef : form ≡ form_in row) (es : size ≡ size_in row) (h : 9 ≤ form) where
  run-size : size ≡ base_of (shape_at size)
  run-size = rw es (is (rw (← ef) h))

  pub run_is_base : IsBase size
  run_is_base = record { shape = shape_at size; at = run-size }

module _ (row : ℕ) (v : Bytes) (prior before : Option Bytes) {inner : Bool} {form size r : ℕ} (ef : form ≡ form_in row) (es : size ≡ size_in row) where
  pub value_inner : inner ≡ true → r ≡ leaf_fault prior (form_of form size) v → r ≡ check_at inner prior before (form_of (form_in row) (size_in row)) v
  value_inner h e = rw (h, ← ef, ← es) e

  pub value_leaf : inner ≡ false → form < 9 → r ≡ leaf_fault before (form_of form size) v
      → r ≡ check_at inner prior before (form_of (form_in row) (size_in row)) v
  value_leaf h k e = rw (h, ← ef, ← es, leaf_value before form size v k) e

  pub value-run : IsRow row → inner ≡ false → 9 ≤ form → r ≡ run_fault (check_at true before) (rows_from size) start (run_of v)
      → r ≡ check_at inner prior before (form_of (form_in row) (size_in row)) v
  unfolding value_fault
  value-run is h k e =
      let q = run-size row is ef es k in
      let rows = ap rows_from q ∙ rows_from_lem (shape_at size) in
      rw (h, ← ef, ← es, run_form form size k, ← rows) e

-- the recursion ends: within an element no value is a run
pub inner_falls : {inner : Bool} {t : ℕ} → cond inner 0 3 ≡ t → inner ≡ false → 2 < t
inner_falls e h = let q = rw h at e in omega arith
