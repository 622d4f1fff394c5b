-- An entry by its bytes: its kind, its fields, and what the values of those that must be there are.
use mathlib.Core.Path.{◌≡◌, refl, sym, ap, ◌∙◌, subst}
use mathlib.Core.Bool.{true}
use mathlib.Core.Option.{none, some}
use Prim.Native.Nat.{ℕ, ◌≤◌}
use native.Mathlib.Omega.{arith}
use lib.ListN.{length}
use Rattle.model.specs.Number.{Bytes}
use Rattle.model.specs.Run.{value}
use Rattle.model.specs.Kind.{kind_number}
use Rattle.model.specs.Shape.{Row, rows_of, row_at, is_required, stored, shape_of, fault}
use Rattle.model.specs.Record.{Rec, record_bytes}
use Rattle.model.specs.declared.Kind.{Kind}
use Rattle.laws_records.specs.Kinds.{number_injective}
use Rattle.laws_records.specs.Records.{length_record}
use Rattle.laws_records.specs.Forms.{ValueFits}
use Rattle.laws_records.specs.Faults.{fault-value, fault-ascends}
use Rattle.laws_records.specs.Fields.{Ascending}
use Rattle.keys.specs.Keys.{kind_in, run_in}
use Rattle.entries.specs.Entries.{IsRecord, record_in}
use Rattle.entries.proofs.Records.{record-run}
use Rattle.entries.proofs.Changes.{record-in}

first_byte : (r : Rec) → kind_in (record_bytes r) ≡ kind_number r.kind
unfolding record_bytes
first_byte r = refl

module _ (e : Bytes) (i : IsRecord e) where
  pub headed : 3 ≤ length e
  headed = omega (arith, ap length i.bytes, length_record i.value)

  pub kind_in_lem : kind_in e ≡ kind_number (record_in e).kind
  kind_in_lem = ap kind_in i.bytes ∙ first_byte i.value ∙ ap (λ r. kind_number r.kind) (sym (record-in e i))

  pub run_in_lem : run_in e ≡ (record_in e).run
  run_in_lem = ap run_in i.bytes ∙ record-run i.value i.passes ∙ ap (λ r. r.run) (sym (record-in e i))

  pub passes : fault stored (record_in e).kind (record_in e).run ≡ 0
  passes = rw (record-in e i) i.passes

  -- fields of tag 1 come first
  pub ascends : Ascending 1 (run_in e)
  ascends = rw run_in_lem (fault-ascends stored (record_in e).kind (record_in e).run passes)

  module _ (k : Kind) (is : kind_in e ≡ kind_number k) where
    pub kind_is : (record_in e).kind ≡ k
    kind_is = number_injective (record_in e).kind k (sym kind_in_lem ∙ is)

    pub value_is : (tag : ℕ) {row : Row} → row_at (rows_of (shape_of stored k)) tag ≡ some row → is_required row.presence ≡ true
        → ValueFits none row.form (value tag (record_in e).run)
    value_is tag found must =
        fault-value stored k (record_in e).run (subst (λ x. fault stored x (record_in e).run ≡ 0) kind_is passes) tag found must
