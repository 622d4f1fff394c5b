-- A record of the log by its bytes: its kind, its fields, and what the values of those that must be there are.
use mathlib.Core.Path.{◌≡◌, refl, sym, ap, ◌∙◌, subst}
use mathlib.Core.Bool.{true}
use mathlib.Core.List.{[], ◌∷◌, append-nil}
use mathlib.Core.Option.{none, some}
use Prim.Native.Nat.{ℕ, ◌≤◌, ◌<◌}
use native.Mathlib.Omega.{arith}
use lib.ListN.{length, take, drop}
use lib.Seq.{length-take-le}
use Rattle.model.specs.Number.{Bytes, AreBytes}
use Rattle.model.specs.Run.{done, run_of, bytes_of, value}
use Rattle.model.specs.Kind.{kind_number}
use Rattle.model.specs.Shape.{text, Row, rows_of, row_at, is_required, logged, shape_of, fault}
use Rattle.model.specs.Record.{Rec, rec, record_bytes, got, read, on_got}
use Rattle.model.specs.Reply.{accepted}
use Rattle.model.specs.declared.Kind.{Kind}
use Rattle.model.specs.declared.Kind.TheVariants.{Topic, PartitionUpdate}
use Rattle.laws_records.specs.Runs.{run-bytes}
use Rattle.laws_records.specs.Kinds.{number_injective}
use Rattle.laws_records.specs.Records.{length_record, read_record, record-read, read-later}
use Rattle.laws_records.specs.Forms.{ValueFits, leaf_fits}
use Rattle.laws_records.specs.Passes.{value_passes}
use Rattle.laws_records.specs.Faults.{fault-value, fault-known, fault-whole, fault-short}
use Rattle.keys.specs.Keys.{kind_in, run_in}
use Rattle.entries.proofs.Records.{known_range}
use Rattle.records.specs.Answers.{got_reply}
use Rattle.records.proofs.Replies.{used_got}
use Rattle.find.specs.Logged.{IsLogged, logged_in, TopicFields}

-- 1. The bytes of a record

first_byte : (r : Rec) → kind_in (record_bytes r) ≡ kind_number r.kind
unfolding record_bytes
first_byte r = refl

body : (r : Rec) → drop 3 (record_bytes r) ≡ bytes_of r.run
unfolding record_bytes
body r = refl

record-run : (r : Rec) → fault logged r.kind r.run ≡ 0 → run_in (record_bytes r) ≡ r.run
record-run r ok = ap run_of (body r) ∙ run-bytes r.run (fault-whole logged r.kind r.run ok) (fault-short logged r.kind r.run ok)

module _ (s : Bytes) (i : IsLogged s) where
  pub headed : 3 ≤ length s
  headed = omega (arith, ap length i.bytes, length_record i.value)

  pub logged_in_lem : logged_in s ≡ i.value
  logged_in_lem =
      ap (λ g. on_got g (λ n. rec Topic done) (λ r n. r))
      (ap (read logged) (i.bytes ∙ sym (append-nil (record_bytes i.value))) ∙ read_record logged i.value [] i.passes)

  pub kind_in_lem : kind_in s ≡ kind_number (logged_in s).kind
  kind_in_lem = ap kind_in i.bytes ∙ first_byte i.value ∙ ap (λ r. kind_number r.kind) (sym logged_in_lem)

  pub run_in_lem : run_in s ≡ (logged_in s).run
  run_in_lem = ap run_in i.bytes ∙ record-run i.value i.passes ∙ ap (λ r. r.run) (sym logged_in_lem)

  pub passes : fault logged (logged_in s).kind (run_in s) ≡ 0
  passes = rw (run_in_lem, logged_in_lem) i.passes

  -- 2. A number that no kind has

  kind_range : (0 < kind_in s) × (kind_in s ≤ 25)
  kind_range =
      let r = known_range (logged_in s).kind (fault-known logged (logged_in s).kind (run_in s) passes) in
      (omega (arith, kind_in_lem), omega (arith, kind_in_lem))

  pub kind_zero : {A : Type 0} → kind_in s ≡ 0 → A
  kind_zero h = absurd (omega (arith, kind_range))

  pub kind_past : {A : Type 0} → 26 ≤ kind_in s → A
  kind_past h = absurd (omega (arith, kind_range))

  -- 3. By the kind

  module _ (k : Kind) (is : kind_in s ≡ kind_number k) where
    pub kind_is : (logged_in s).kind ≡ k
    kind_is = number_injective (logged_in s).kind k (sym kind_in_lem ∙ is)

    pub value_of : (tag : ℕ) {row : Row} → row_at (rows_of (shape_of logged k)) tag ≡ some row → is_required row.presence ≡ true
        → ValueFits none row.form (value tag (run_in s))
    value_of tag found must = fault-value logged k (run_in s) (subst (λ x. fault logged x (run_in s) ≡ 0) kind_is passes) tag found must

  -- 4. What a topic's record and a partition's update hold

  pub topic_logged : kind_in s ≡ 1 → TopicFields s
  unfolding rows_of shape_of kind_number
  topic_logged is = record {
    headed = headed;
    name_fits = (value_of Topic is 1 refl refl).1;
    count_width = value_of Topic is 3 refl refl;
    factor_width = value_of Topic is 4 refl refl;
  }

  pub nested_logged : kind_in s ≡ 23 → length (value 1 (run_of (value 1 (run_in s)))) ≤ 255
  unfolding rows_of shape_of kind_number
  nested_logged is =
      (leaf_fits none (text 255) (value 1 (run_of (value 1 (run_in s)))) (value_passes (value_of PartitionUpdate is 1 refl refl) 1 refl refl)).1

-- 5. What is read of the log is one

module _ (input : Bytes) (are_bytes : AreBytes input) {n : ℕ} (e : accepted (n ∷ []) ≡ got_reply (read logged input)) where
  pub it : (r : Rec) × (read logged input ≡ got r n)
  it = used_got (read logged input) n e

  pub record-fits : n ≤ length input
  record-fits = (record-read logged input it.0 n are_bytes it.1).2

  pub record-length : n ≡ length (take n input)
  record-length = sym (length-take-le n input record-fits)

  pub record-logged : IsLogged (take n input)
  record-logged = let d = record-read logged input it.0 n are_bytes it.1 in record { value = it.0; bytes = d.0; passes = d.1 }

  pub logged_is : logged_in (take n input) ≡ it.0
  logged_is =
      ap (λ g. on_got g (λ n. rec Topic done) (λ r n. r))
      (ap (read logged) (sym (append-nil (take n input))) ∙ read-later logged input it.0 n it.1 [])
