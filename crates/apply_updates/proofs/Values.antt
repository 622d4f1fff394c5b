-- An update's fields: that they pass, how long their values are, and the records that are built of them.
use mathlib.Core.Path.{◌≡◌, refl, sym, ap, ◌∙◌, subst}
use mathlib.Core.List.{◌++◌}
use mathlib.Core.Option.{Option, none, some}
use Prim.Native.Nat.{ℕ, ◌+◌, ◌-◌, ◌/◌, ◌%◌, ◌≤◌}
use native.Mathlib.Omega.{arith}
use lib.ListN.{length, take, drop}
use Rattle.model.specs.Number.{Bytes, AreBytes}
use Rattle.model.specs.Run.{done, run_of, bytes_of, field, value, set_field, or_empty}
use Rattle.model.specs.Kind.{kind_number}
use Rattle.model.specs.Shape.{rows_of, logged, stored, shape_of, fault}
use Rattle.model.specs.Record.{record_bytes}
use Rattle.model.specs.declared.Kind.TheVariants.{Partition, PartitionUpdate}
use Rattle.laws.specs.Numbers.{drop_are_bytes}
use Rattle.laws_records.specs.Runs.{Whole, fields-run, bytes_run, length_run}
use Rattle.laws_records.specs.Fields.{value_are_bytes}
use Rattle.laws_records.specs.Forms.{OneBelow}
use Rattle.laws_records.specs.Faults.{fault-value, fault-field, fault-whole, fault-length}
use Rattle.laws_apply.specs.Changes.{nested_passes}
use Rattle.keys.specs.Keys.{run_in}
use Rattle.keys.proofs.Found.{part_length}
use Rattle.entries.specs.Entries.{record_in}
use Rattle.entries.proofs.Changes.{record-in}
use Rattle.image_entries.proofs.Records.{headed, run_in_lem}
use Rattle.records.specs.Answers.{put_at, head}
use Rattle.apply_drafts.specs.Drafts.{spells, draft_room}
use Rattle.apply_drafts.proofs.Fronts.{put_at-front}
use Rattle.apply_updates.specs.Updates.{IsUpdate, partition_of, named_of, partition_rec, updated_elr, updated_recovery}
use Rattle.apply_updates.proofs.Drafting.{Stands, lent, Upto}

-- 1. Values

list_short : (o : Option Bytes) → ((v : Bytes) → o ≡ some v → (length v % 8 ≡ 0) × (length v / 8 ≤ 64)) → length (or_empty o) ≤ 512
list_short none h = omega arith
list_short (some v) h = let p = h v refl in omega (arith, p.0, p.1)

byte_short : (o : Option Bytes) → ((v : Bytes) → o ≡ some v → OneBelow 2 v) → length (or_empty o) ≤ 1
byte_short none h = omega arith
byte_short (some v) h = let p = h v refl in omega (arith, ap length p.only)

module _ (s : Bytes) (u : IsUpdate s) where
  pub update_headed : 3 ≤ length s
  update_headed = headed s u.is

  pub update_run : run_in s ≡ (record_in s).run
  update_run = run_in_lem s u.is

  -- an image stores an update's shape as the log has it
  pub update_passes : fault logged PartitionUpdate (run_in s) ≡ 0
  unfolding shape_of kind_number
  update_passes =
      let ok : fault stored (record_in s).kind (record_in s).run ≡ 0 = rw (record-in s u.is) u.is.passes in
      rw update_run (subst (λ k. fault stored k (record_in s).run ≡ 0) u.kind ok)

  partition_passes : fault stored Partition (partition_of (run_in s)) ≡ 0
  unfolding rows_of shape_of
  partition_passes = nested_passes (value 1 (run_in s)) (fault-value logged PartitionUpdate (run_in s) update_passes 1 refl refl)

  pub name_short : length (value 1 (partition_of (run_in s))) ≤ 255
  unfolding rows_of shape_of kind_number
  name_short = (fault-value stored Partition (partition_of (run_in s)) partition_passes 1 refl refl).1

  pub number_short : length (value 2 (partition_of (run_in s))) ≤ 4
  unfolding rows_of shape_of kind_number
  number_short = omega (arith, fault-value stored Partition (partition_of (run_in s)) partition_passes 2 refl refl)

  pub eligible_short : length (value 2 (run_in s)) ≤ 512
  unfolding rows_of shape_of
  eligible_short = list_short (field 2 (run_in s)) (fault-field logged PartitionUpdate (run_in s) update_passes 2 refl)

  pub known-short : length (value 3 (run_in s)) ≤ 512
  unfolding rows_of shape_of
  known-short = list_short (field 3 (run_in s)) (fault-field logged PartitionUpdate (run_in s) update_passes 3 refl)

  pub state_short : length (value 4 (run_in s)) ≤ 1
  unfolding rows_of shape_of
  state_short = byte_short (field 4 (run_in s)) (fault-field logged PartitionUpdate (run_in s) update_passes 4 refl)

  -- 2. The partition's record

  partition-whole : Whole (partition_of (run_in s))
  partition-whole = fault-whole stored Partition (partition_of (run_in s)) partition_passes

  partition-short : 3 + length (value 1 (run_in s)) ≤ draft_room
  partition-short =
      omega (arith, length_run (value 1 (run_in s)) partition-whole, fault-length stored Partition (partition_of (run_in s)) partition_passes)

  module _ (start end : ℕ) (h : Stands s (value 1 (run_in s)) start end) where
    lent_long : length (take (end - start) (drop start s)) ≡ length (value 1 (run_in s))
    lent_long = ap length (lent s (value 1 (run_in s)) start end h)

    pub partition_fits : (b : Bytes) → draft_room ≤ length b → 0 + 3 + length (take (end - start) (drop start s)) ≤ length b
    partition_fits b big = omega (arith, lent_long, partition-short)

    pub partition-written : AreBytes s → (b c : Bytes)
        → c ≡ put_at b 0 (head 2 (length (take (end - start) (drop start s))) ++ take (end - start) (drop start s))
        → (take (3 + (end - start)) c ≡ record_bytes (partition_rec (run_in s))) × (3 + (end - start) ≤ draft_room)
    unfolding record_bytes kind_number
    partition-written are_bytes b c e =
        let v = value 1 (run_in s) in
        let x = head 2 (length v) ++ v in
        let long : end ≡ start + length v = part_length s start end v h.1 h.2 h.0 in
        let size : 3 + (end - start) ≡ length x = omega arith in
        let same : bytes_of (run_of v) ≡ v = bytes_run v (value_are_bytes 1 (run_in s) (fields-run (drop 3 s) (drop_are_bytes 3 s are_bytes))) partition-whole in
        let put : c ≡ put_at b 0 x = e ∙ ap (λ y. put_at b 0 (head 2 (length y) ++ y)) (lent s v start end h) in (
          ap (λ n. take n c) size ∙ put_at-front b x put ∙ ap (λ y. head 2 (length y) ++ y) (sym same),
          omega (arith, partition-short, long),
        )

  -- 3. The ELR's and the recovery's record

  -- 268: three bytes, and 3 + 255 and 3 + 4 for the name and the number
  pub named_is : {b : Bytes} {n kind : ℕ}
      → Upto 268 b n kind (set_field 2 (value 2 (partition_of (run_in s))) (set_field 1 (value 1 (partition_of (run_in s))) done))
      → (take n b ≡ spells kind (named_of (run_in s))) × (n ≤ 268)
  unfolding set_field
  named_is d = (d.held.spelt, d.few)

  pub named_draft : (b : Bytes) (n kind : ℕ) → (take n b ≡ spells kind (named_of (run_in s))) × (n ≤ 268) → Upto 268 b n kind (named_of (run_in s))
  named_draft b n kind h = record {
    held = record { spelt = h.0; whole = tt; short = (omega (arith, name_short), (omega (arith, number_short), tt)) };
    few = h.1;
  }

  pub elr_built : {b : Bytes} {n : ℕ} → Upto 1298 b n 21 (set_field 4 (value 3 (run_in s)) (set_field 3 (value 2 (run_in s)) (named_of (run_in s))))
      → (take n b ≡ record_bytes (updated_elr (run_in s))) × (n ≤ draft_room)
  unfolding set_field record_bytes kind_number
  elr_built d = (d.held.spelt, omega (arith, d.few))

  pub recovery_built : {b : Bytes} {n : ℕ} → Upto 272 b n 22 (set_field 3 (value 4 (run_in s)) (named_of (run_in s)))
      → (take n b ≡ record_bytes (updated_recovery (run_in s))) × (n ≤ draft_room)
  unfolding set_field record_bytes kind_number
  recovery_built d = (d.held.spelt, omega (arith, d.few))
