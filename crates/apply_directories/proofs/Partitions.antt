-- A partition and an assignment by their bytes: what their fields are, the slot that is sought, and the directories that are built.
use mathlib.Core.Path.{◌≡◌, refl, sym, ap, ap₂, ◌∙◌, subst}
use mathlib.Core.Option.{none, some}
use Prim.Native.Nat.{ℕ, ◌+◌, ◌-◌, ◌*◌, ◌/◌, ◌%◌, ◌≤◌, ◌<◌}
use native.Mathlib.Omega.{arith}
use lib.ListN.{length, take, drop}
use Rattle.model.specs.Number.{Bytes}
use Rattle.model.specs.Run.{value}
use Rattle.model.specs.Kind.{kind_number}
use Rattle.model.specs.Shape.{rows_of, stored, shape_of, fault}
use Rattle.model.specs.Move.{replicas, directories, node_count, slot_of, filled, assigned}
use Rattle.model.specs.declared.Kind.{Kind}
use Rattle.model.specs.declared.Kind.TheVariants.{Partition, PartitionDirAssignment}
use Rattle.laws.specs.Choice.{over}
use Rattle.laws_records.specs.Faults.{fault-value}
use Rattle.keys.specs.Keys.{run_in}
use Rattle.keys.proofs.Found.{part_length}
use Rattle.entries.specs.Entries.{IsRecord, record_in}
use Rattle.entries.proofs.Changes.{record-in}
use Rattle.image_entries.proofs.Records.{run_in_lem}
use Rattle.keys.proofs.Fields.{PartOf, lent-value}
use Rattle.apply_directories.specs.Assign.{IsAssignment, IsPartition, slot_in, SlotIs, new_directories, Built}

-- 1. The fields

passes_as : (s : Bytes) → IsRecord s → (k : Kind) → (record_in s).kind ≡ k → fault stored k (record_in s).run ≡ 0
passes_as s i k e =
    subst (λ x. fault stored x (record_in s).run ≡ 0) e
    (subst (λ r. fault stored r.kind r.run ≡ 0) (sym (record-in s i)) i.passes)

-- a field's part is its value
part-value : (s : Bytes) → IsRecord s → (tag start end : ℕ) → PartOf s tag start end → take (end - start) (drop start s) ≡ value tag (record_in s).run
part-value s i tag start end p = lent-value s tag start end p ∙ ap (value tag) (run_in_lem s i)

module _ (e : Bytes) (i : IsPartition e) where
  pub partition_passes : fault stored Partition (record_in e).run ≡ 0
  partition_passes = passes_as e i.is Partition i.kind

  replicas_fit : (length (replicas (record_in e).run) % 8 ≡ 0) × (node_count (replicas (record_in e).run) ≤ 64)
  unfolding rows_of shape_of kind_number
  replicas_fit = let f = fault-value stored Partition (record_in e).run partition_passes 4 refl refl in (f.0, f.1)

  directories_fit : (length (directories (record_in e).run) % 16 ≡ 0) × (length (directories (record_in e).run) / 16 ≤ 64)
  unfolding rows_of shape_of kind_number
  directories_fit = fault-value stored Partition (record_in e).run partition_passes 9 refl refl

module _ (s : Bytes) (i : IsAssignment s) where
  assignment_passes : fault stored PartitionDirAssignment (record_in s).run ≡ 0
  assignment_passes = passes_as s i.is PartitionDirAssignment i.kind

  pub name_fits : length (value 1 (run_in s)) ≤ 255
  unfolding rows_of shape_of kind_number
  name_fits =
      let h = (fault-value stored PartitionDirAssignment (record_in s).run assignment_passes 1 refl refl).1 in
      omega (arith, ap (λ r. length (value 1 r)) (run_in_lem s i.is))

  pub number_width : length (value 2 (run_in s)) ≡ 4
  unfolding rows_of shape_of kind_number
  number_width =
      ap (λ r. length (value 2 r)) (run_in_lem s i.is) ∙ fault-value stored PartitionDirAssignment (record_in s).run assignment_passes 2 refl refl

  pub node_width_lem : length (value 3 (run_in s)) ≡ 8
  unfolding rows_of shape_of kind_number
  node_width_lem =
      ap (λ r. length (value 3 r)) (run_in_lem s i.is) ∙ fault-value stored PartitionDirAssignment (record_in s).run assignment_passes 3 refl refl

  id_width_lem : length (value 4 (record_in s).run) ≡ 16
  unfolding rows_of shape_of kind_number
  id_width_lem = fault-value stored PartitionDirAssignment (record_in s).run assignment_passes 4 refl refl

-- 2. The slot and the directories

module _ (e s : Bytes) (p : IsPartition e) (a : IsAssignment s) where
  -- the replicas as they are lent, and the node
  module _ (from to : ℕ) (hp : PartOf e 4 from to) where
    pub lent-whole : length (take (to - from) (drop from e)) % 8 ≡ 0
    lent-whole = rw (part-value e p.is 4 from to hp) (replicas_fit e p).0

    pub slot-found : {node : Bytes} → node ≡ value 3 (run_in s) → {n : ℕ}
        → SlotIs (slot_of (node_count (take (to - from) (drop from e))) node (take (to - from) (drop from e))) (node_count (take (to - from) (drop from e))) n
        → ((to - from) / 8 ≡ node_count (replicas (record_in e).run)) × SlotIs (slot_in (record_in s).run (record_in e).run) ((to - from) / 8) n
    slot-found {node} is {n} h =
        let f = (record_in s).run in
        let r = (record_in e).run in
        let ends = part_length e from to (replicas r) hp.1 hp.2 (hp.0 ∙ ap (value 4) (run_in_lem e p.is)) in
        let count : (to - from) / 8 ≡ node_count (replicas r) = omega arith in
        let named : node ≡ value 3 f = is ∙ ap (value 3) (run_in_lem s a.is) in
        let same : SlotIs (slot_of (node_count (replicas r)) (value 3 f) (replicas r)) (node_count (replicas r)) n =
        subst (λ v. SlotIs (slot_of (node_count (replicas r)) v (replicas r)) (node_count (replicas r)) n) named
        (subst (λ x. SlotIs (slot_of (node_count x) node x) (node_count x) n) (part-value e p.is 4 from to hp) h) in
        (count, subst (λ x. SlotIs (slot_in f r) x n) (sym count) same)

  module _ {count slot : ℕ} (h : (count ≡ node_count (replicas (record_in e).run)) × SlotIs (slot_in (record_in s).run (record_in e).run) count slot) where
    pub no_replica : count ≤ slot → (b : Bytes) → Built (new_directories (record_in s).run (record_in e).run) b 0
    unfolding new_directories
    no_replica past b =
        let none-there = h.1.none past in
        record {
          none = λ z. rw none-there refl;
          there = λ z. absurd (omega arith);
          fits = omega arith;
          whole = refl;
          few = omega arith;
        }

    module _ (here : slot < count) (from to start end : ℕ) (hp : PartOf e 9 from to) (ha : PartOf s 4 start end) where
      pub may-fill : (b : Bytes) → 1024 ≤ length b
          → (length (take (to - from) (drop from e)) ≤ length b) × (count * 16 ≤ length b) × (slot < count) × (length (take (end - start) (drop start s)) ≡ 16)
      may-fill b bounds = (
        omega (arith, ap length (part-value e p.is 9 from to hp), (directories_fit e p).0, (directories_fit e p).1),
        omega (arith, h.0, (replicas_fit e p).1),
        here,
        ap length (part-value s a.is 4 start end ha) ∙ id_width_lem s a,
      )

      pub dirs_built : (b : Bytes) {n : ℕ} → 1024 ≤ length b
          → (take n b ≡ assigned slot (take (end - start) (drop start s)) (filled count (take (to - from) (drop from e)))) ×
          (n ≡ length (take (to - from) (drop from e)) + (count * 16 - length (take (to - from) (drop from e))))
          → Built (new_directories (record_in s).run (record_in e).run) b n
      unfolding new_directories
      dirs_built b {n} bounds said =
          let f = (record_in s).run in
          let r = (record_in e).run in
          let old = directories r in
          let long : n ≡ length old + (count * 16 - length old) =
          said.1 ∙ ap (λ x. length x + (count * 16 - length x)) (part-value e p.is 9 from to hp) in
          let bytes : take n b ≡ assigned slot (value 4 f) (filled (node_count (replicas r)) old) =
          said.0
          ∙ ap₂ (λ x y. assigned slot x (filled count y)) (part-value s a.is 4 start end ha) (part-value e p.is 9 from to hp)
          ∙ ap (λ x. assigned slot (value 4 f) (filled x old)) h.0 in
          record {
            none = λ z. absurd (omega arith);
            there = λ z. ap (over (λ k. assigned k (value 4 f) (filled (node_count (replicas r)) old))) (h.1.there here) ∙ ap some (sym bytes);
            fits = omega (arith, (directories_fit e p).0, (directories_fit e p).1, h.0, (replicas_fit e p).1);
            whole = omega (arith, (directories_fit e p).0);
            few = omega (arith, (directories_fit e p).0, (directories_fit e p).1, h.0, (replicas_fit e p).1);
          }
