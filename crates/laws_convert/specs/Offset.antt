-- The record of kind 26: the offset that it holds determines its bytes.
use Rattle.std.specs.Prelude.{◌≡◌, refl, true}
use Rattle.std.proofs.Common.{sym, ◌∙◌, ap}
use Rattle.model.specs.Number.{Bytes, AreBytes, number, bytes, is_offset}
use Rattle.model.specs.Run.{Run, done, item, bytes_of, value}
use Rattle.model.specs.Kind.{kind_number}
use Rattle.model.specs.Shape.{rows_of, shape_of, framed, fault}
use Rattle.model.specs.Record.{Rec, rec, record_bytes}
use Rattle.model.specs.Snapshot.{offset_rec, is_offset_rec}
use Rattle.model.specs.declared.Kind.{Kind}
use Rattle.model.specs.declared.Kind.TheVariants.{LogOffset}
use Rattle.laws.specs.Numbers.{bytes-number}
use Rattle.laws_records.specs.Runs.{AreFields, run-bytes, fields-run}
use Rattle.laws_records.specs.Fields.{value_are_bytes}
use Rattle.laws_records.specs.Faults.{fault-value, fault-whole, fault-short}
use Rattle.laws_image.specs.Kinds.{is_kind}
use Rattle.laws_image.specs.Required.{required_run}

-- the fields of a record of bytes are of bytes
fields_of : (r : Rec) → fault framed r.kind r.run ≡ 0 → AreBytes (record_bytes r) → AreFields r.run
unfolding record_bytes
fields_of r ok h =
    rw (run-bytes r.run (fault-whole framed r.kind r.run ok) (fault-short framed r.kind r.run ok)) at
    (fields-run (bytes_of r.run) h.1.1.1)

of_kind : (kind : Kind) (run : Run) → kind ≡ LogOffset → fault framed kind run ≡ 0 → AreFields run
    → (is_offset (number (value 1 run)) ≡ true) × (record_bytes (rec kind run) ≡ record_bytes (offset_rec (number (value 1 run))))
unfolding rows_of shape_of
of_kind kind run k = rw k (λ pass f.
    let fits = fault-value framed LogOffset run pass 1 refl refl in
    let spelt : run ≡ item 1 (value 1 run) done = required_run framed LogOffset run pass refl in
    let own : bytes 8 (number (value 1 run)) ≡ value 1 run =
    ap (λ w. bytes w (number (value 1 run))) (sym fits.0) ∙ bytes-number (value 1 run) (value_are_bytes 1 run f) in
    (fits.1, ap (λ (z : Run). record_bytes (rec LogOffset z)) (spelt ∙ ap (λ (v : Bytes). item 1 v done) (sym own))))

pub offset_record : (r : Rec) → is_offset_rec r ≡ true → fault framed r.kind r.run ≡ 0 → AreBytes (record_bytes r)
    → (is_offset (number (value 1 r.run)) ≡ true) × (record_bytes r ≡ record_bytes (offset_rec (number (value 1 r.run))))
unfolding kind_number
offset_record r h ok are = of_kind r.kind r.run (is_kind r.kind LogOffset h) ok (fields_of r ok are)
