-- Records that read back where they stand, and one more value after which they still do.
use Rattle.std.specs.Prelude.{◌≡◌, false, ℕ, ◌<◌}
use Rattle.std.proofs.Common.{◌∙◌}
use Rattle.std.proofs.Math.Option.{none, some}
use Rattle.model.specs.Number.{Bytes, AreBytes}
use Rattle.model.specs.Run.{Run, set_field}
use Rattle.model.specs.Shape.{Row, rows_of, row_at, repeats, logged, stored, shape_of, fault}
use Rattle.model.specs.Record.{rec}
use Rattle.model.specs.declared.Kind.{Kind}
use Rattle.model.specs.declared.Kind.TheVariants.{Topic}
use Rattle.laws_records.specs.Runs.{AreFields}
use Rattle.laws_records.specs.Fields.{set-fields}
use Rattle.laws_records.specs.Forms.{ValueFits}
use Rattle.laws_records.specs.Faults.{set-fault}
use Rattle.laws_records.specs.Stored.{fault_stored}
use Rattle.laws_image.specs.Fits.{Readable}

-- a logged record that is no topic
pub logged_readable : (kind : Kind) → (kind ≡ Topic → ⊥) → (run : Run) → fault logged kind run ≡ 0 → AreFields run
    → Readable (rec kind run)
logged_readable kind apart run ok b = record { passes = fault_stored kind apart run ∙ ok; fields = b }

module _ (kind : Kind) (run : Run) (r : Readable (rec kind run)) where
  pub set_readable : (tag : ℕ) {row : Row} → row_at (rows_of (shape_of stored kind)) tag ≡ some row → repeats row.presence ≡ false
      → tag < 256 → (w : Bytes) → AreBytes w → ValueFits none row.form w → Readable (rec kind (set_field tag w run))
  set_readable tag found once small w b fits = record {
    passes = set-fault stored kind run r.passes tag found w once fits;
    fields = set-fields tag w run small b r.fields;
  }
