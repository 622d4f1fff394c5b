-- A record that passes holds no replica list with a repeat.
use Rattle.std.specs.Prelude.{◌≡◌, Bool, [], ◌∷◌, ℕ}
use Rattle.std.proofs.Math.Path.{refl}
use Rattle.std.proofs.Common.{sym, ap, ap₂, ◌∙◌, eqb-true}
use Rattle.std.proofs.Math.Bool.{true, false, cond}
use Rattle.std.proofs.Math.Option.{none}
use Rattle.std.proofs.Math.Dec.{eqb}
use Rattle.model.specs.Number.{Bytes}
use Rattle.model.specs.Run.{Run, run_of, value}
use Rattle.model.specs.Nodes.{nodes_of, no_repeats}
use Rattle.model.specs.Kind.{kind_number}
use Rattle.model.specs.Shape.{list_limit, node_set, rows_of, Source, logged, framed, stored, shape_of, fault}
use Rattle.model.specs.Record.{Rec, got, read, apart_by, replicas_apart, begins_apart}
use Rattle.model.specs.declared.Kind.TheVariants.{Partition, PartitionUpdate}
use Rattle.laws.specs.Choice.{impossible}
use Rattle.laws_records.specs.Passes.{value_passes}
use Rattle.laws_records.specs.Forms.{leaf_fits}
use Rattle.laws_records.specs.Faults.{fault-value}
use Rattle.laws_records.specs.Kinds.{number_injective, number_kind}
use Rattle.laws_records.specs.Records.{reads, head_of}

partition_apart : (source : Source) (run : Run) → fault source Partition run ≡ 0 → no_repeats (nodes_of (value 4 run)) ≡ true
unfolding rows_of shape_of kind_number
partition_apart logged run ok = (fault-value logged Partition run ok 4 refl refl).2
partition_apart framed run ok = (fault-value framed Partition run ok 4 refl refl).2
partition_apart stored run ok = (fault-value stored Partition run ok 4 refl refl).2

update_apart : (source : Source) (run : Run) → fault source PartitionUpdate run ≡ 0 → no_repeats (nodes_of (value 4 (run_of (value 1 run)))) ≡ true
unfolding rows_of shape_of kind_number
update_apart logged run ok = (leaf_fits none (node_set list_limit) _ (value_passes (fault-value logged PartitionUpdate run ok 1 refl refl) 4 refl refl)).2
update_apart framed run ok = (leaf_fits none (node_set list_limit) _ (value_passes (fault-value framed PartitionUpdate run ok 1 refl refl) 4 refl refl)).2
update_apart stored run ok = (leaf_fits none (node_set list_limit) _ (value_passes (fault-value stored PartitionUpdate run ok 1 refl refl) 4 refl refl)).2

module _ (source : Source) (r : Rec) (ok : fault source r.kind r.run ≡ 0) where
  pub passes_apart : replicas_apart r ≡ true
  unfolding apart_by kind_number
  passes_apart = first (eqb (kind_number r.kind) 2) refl
    where
      second : (b : Bool) → eqb (kind_number r.kind) 23 ≡ b
          → cond b (no_repeats (nodes_of (value 4 (run_of (value 1 r.run))))) true ≡ true
      second true e =
          let k : r.kind ≡ PartitionUpdate = number_injective r.kind PartitionUpdate (eqb-true (kind_number r.kind) 23 e) in
          update_apart source r.run (ap (λ q. fault source q r.run) (sym k) ∙ ok)
      second false e = refl

      first : (b : Bool) → eqb (kind_number r.kind) 2 ≡ b
          → cond b (no_repeats (nodes_of (value 4 r.run)))
          (cond (eqb (kind_number r.kind) 23) (no_repeats (nodes_of (value 4 (run_of (value 1 r.run))))) true)
          ≡ true
      first true e =
          let k : r.kind ≡ Partition = number_injective r.kind Partition (eqb-true (kind_number r.kind) 2 e) in
          partition_apart source r.run (ap (λ q. fault source q r.run) (sym k) ∙ ok)
      first false e = second (eqb (kind_number r.kind) 23) refl

pub read_apart : (source : Source) (s : Bytes) (r : Rec) (n : ℕ) → read source s ≡ got r n → replicas_apart r ≡ true
read_apart source s r n e = passes_apart source r (reads source s r n e).passes

-- and so the bytes that it was read from begin with one
pub begins_apart_lem : (source : Source) (s : Bytes) (r : Rec) (n : ℕ) → read source s ≡ got r n → begins_apart s ≡ true
unfolding read begins_apart
begins_apart_lem source [] r n e = impossible cc
begins_apart_lem source (k ∷ []) r n e = impossible cc
begins_apart_lem source (k ∷ h ∷ []) r n e = impossible cc
begins_apart_lem source (k ∷ h ∷ l ∷ s) r n e =
    let d = head_of source k h l s r n e in
    ap₂ apart_by (sym (number_kind k r.kind d.known)) d.spelt ∙ passes_apart source r d.passes
