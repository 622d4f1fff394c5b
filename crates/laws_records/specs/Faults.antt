-- Records that pass: the laws of their fields, for the rows of their kind.
use Rattle.std.specs.Prelude.{◌≡◌, List, [], ◌∷◌, true, false, ℕ, ◌≤◌, length}
use Rattle.std.proofs.Math.Option.{none, some}
use Rattle.std.proofs.Common.{arith}
use Rattle.model.specs.Choice.{given}
use Rattle.laws.specs.Choice.{or_then-left, or_then_right}
use Rattle.model.specs.Number.{Bytes}
use Rattle.model.specs.Run.{Run, bytes_of, field, value, values, set_field, drop_field, items}
use Rattle.model.specs.declared.Kind.{Kind}
use Rattle.model.specs.Shape.{Row, rows_of, row_at, is_required, repeats, value_fault, Source, shape_of, unknown, start, run_fault, fault}
use Rattle.laws_records.specs.Runs.{Whole, Short, short-bytes}
use Rattle.laws_records.specs.Fields.{Ascending, set_field_lem}
use Rattle.laws_records.specs.Passing.{Elements, Passing, passing, passes}
use Rattle.laws_records.specs.Passes.{values_pass, field_passes, required_there, value_passes, values_once, set_passes, drop_passes, items_passes}
use Rattle.laws_records.specs.Forms.{ValueFits, value_fits, fits_value}
use Rattle.laws_records.specs.Lengths.{longest_body, longest_shape, fields-length}

module _ (source : Source) (kind : Kind) (run : Run) (ok : fault source kind run ≡ 0) where
  -- its source knows the kind, and its fields pass
  pub fault-known : unknown source kind ≡ 0
  fault-known = or_then-left (unknown source kind) (run_fault value_fault (rows_of (shape_of source kind)) start run) ok

  pub fault-run : run_fault value_fault (rows_of (shape_of source kind)) start run ≡ 0
  fault-run = or_then_right (unknown source kind) (run_fault value_fault (rows_of (shape_of source kind)) start run) ok

  pub fault-passing : Passing value_fault (rows_of (shape_of source kind)) run
  fault-passing = passing value_fault (rows_of (shape_of source kind)) run fault-run

  pub fault-whole : Whole run
  fault-whole = fault-passing.whole

  pub fault-ascends : Ascending 1 run
  fault-ascends = fault-passing.ascends

  -- its fields fit a length of two bytes, and so does each value
  pub fault-length : length (bytes_of run) ≤ longest_body
  fault-length = omega (arith, fields-length (rows_of (shape_of source kind)) run fault-run, longest_shape source kind)

  pub fault-short : Short run
  fault-short = short-bytes run (omega (arith, fault-length))

  -- the value that is there changes nothing
  pub fault-set_field : (tag : ℕ) (v : Bytes) → field tag run ≡ some v → set_field tag v run ≡ run
  fault-set_field tag v e = set_field_lem tag v 1 run fault-ascends e

  module _ (tag : ℕ) {row : Row} (found : row_at (rows_of (shape_of source kind)) tag ≡ some row) where
    pub fault_required : is_required row.presence ≡ true → (v : Bytes) × (field tag run ≡ some v) × (value_fault none row.form v ≡ 0)
    fault_required q = required_there fault-passing tag found q

    -- what a field's value is
    pub fault-value : is_required row.presence ≡ true → ValueFits none row.form (value tag run)
    fault-value q = value_fits none row.form (value tag run) (value_passes fault-passing tag found q)

    pub fault-field : (v : Bytes) → field tag run ≡ some v → ValueFits none row.form v
    fault-field v e = value_fits none row.form v (field_passes fault-passing tag found v e)

    pub fault-values : Elements value_fault row 0 none (values tag run)
    fault-values = values_pass fault-passing tag found

    pub fault_once : repeats row.presence ≡ false → values tag run ≡ given (field tag run) [] (λ v. v ∷ [])
    fault_once q = values_once fault-passing tag found q

    -- what still passes
    pub set-fault : (w : Bytes) → repeats row.presence ≡ false → ValueFits none row.form w
        → fault source kind (set_field tag w run) ≡ 0
    set-fault w q h =
        let p = set_passes fault-passing tag found w q (fits_value none row.form w h) in
        rw fault-known (passes value_fault (rows_of (shape_of source kind)) (set_field tag w run) p)

    pub drop-fault : is_required row.presence ≡ false → fault source kind (drop_field tag run) ≡ 0
    drop-fault q = rw fault-known (passes value_fault (rows_of (shape_of source kind)) (drop_field tag run) (drop_passes fault-passing tag found q))

    pub items-fault : (vs : List Bytes) → Ascending tag (drop_field tag run) → Elements value_fault row 0 none vs
        → fault source kind (items tag vs (drop_field tag run)) ≡ 0
    items-fault vs s e =
        rw fault-known (passes value_fault (rows_of (shape_of source kind)) (items tag vs (drop_field tag run)) (items_passes fault-passing tag found vs s e))
