-- What is listed for an image's entries: records that read back, that Validate admits, and that only room can refuse.
use Rattle.std.specs.Prelude.{◌≡◌, Bool, cond, eqb, length, take, drop}
use Rattle.std.proofs.Math.Path.{refl}
use Rattle.std.proofs.Common.{sym, ap, ◌∙◌, subst, arith, eqb-true, length-take-le}
use mathlib.Core.List.{List, [], ◌∷◌}
use Rattle.std.proofs.Math.Bool.{true, false}
use Rattle.std.proofs.Math.Option.{Option, none}
use Prim.Native.Nat.{ℕ, zero, suc, ◌*◌, ◌/◌, ◌%◌, ◌≤◌}
use Rattle.std.proofs.Math.Dec.{lit<}
use Rattle.std.proofs.Math.ListN.{length-drop}
use Rattle.model.specs.Number.{Bytes, AreBytes}
use Rattle.model.specs.Order.{same_bytes}
use Rattle.model.specs.Run.{Run, bytes_of, value, or_empty, set_field, drop_field}
use Rattle.model.specs.Kind.{kind_number}
use Rattle.model.specs.Shape.{text, fixed, rows_of, any_required, may_follow, run_fault, logged, stored, shape_of, fault}
use Rattle.model.specs.Record.{Rec, rec}
use Rattle.model.specs.Contents.{Entry, topic, part, plain, kept, Contents}
use Rattle.model.specs.Move.{replicas, directories, node_width, id_width, node_count, moved, overflows}
use Rattle.model.specs.Validate.{alone, against, judge}
use Rattle.model.specs.Downgrade.{is_under, directories_level, cordoned_level, migrating, project, projected, assignment, assignments, slots, listed, downgrade}
use Rattle.model.specs.declared.Kind.TheVariants.{Partition, BrokerRegistration}
use Rattle.laws.specs.Choice.{impossible}
use Rattle.laws.specs.Lists.{All, all_imp, all_append, all-joined}
use Rattle.laws.specs.Numbers.{take_are_bytes, drop_are_bytes, replicate_are_bytes}
use Rattle.laws_records.specs.Runs.{AreFields}
use Rattle.laws_records.specs.Fields.{set-fields, drop-fields, value_are_bytes}
use Rattle.laws_records.specs.Forms.{fits_value}
use Rattle.laws_records.specs.Kinds.{number_injective}
use Rattle.laws_records.specs.Faults.{fault_required, fault-set_field, fault-value, set-fault, drop-fault}
use Rattle.laws_records.specs.Stored.{fault_stored}
use Rattle.laws_image.specs.Fits.{Readable, Proper}
use Rattle.laws_downgrade.specs.Pass.{PartitionReads, EntryReads, least}
use Rattle.laws_downgrade.specs.Rest.{SameRest, broker_rest, assignment-rest}

-- 1. What readable entries are

partition_reads : (p : Run) → Readable (rec Partition p) → PartitionReads p
unfolding rows_of shape_of kind_number
partition_reads p r =
    let there = fault_required stored Partition p r.passes 9 refl refl in
    let dirs : directories p ≡ there.0 = ap (λ (o : Option Bytes). or_empty o) there.1 in
    let whole = fault-value stored Partition p r.passes 9 refl refl in
    let nodes = fault-value stored Partition p r.passes 4 refl refl in
    record {
      back = ap (λ d. set_field 9 d p) dirs ∙ fault-set_field stored Partition p r.passes 9 there.0 there.1;
      long = omega (arith, nodes.0);
      whole = whole.0;
      apart = nodes.2;
    }

pub entry_reads : (e : Entry) → Proper e → EntryReads e
unfolding kept
entry_reads (topic name id count factor named) p = tt
entry_reads (part r) p = partition_reads r p.readable
entry_reads (plain r) p = tt

-- 2. What is listed

-- a record that reads back from the log, that Validate admits, that adds to no offset, and that moves brokers and partitions alone
pub record Passes (r : Rec) : Type 0 where
  pub ok : fault logged r.kind r.run ≡ 0
  pub fields : AreFields r.run
  pub admitted : (l : List Entry) → judge r l ≡ 0
  pub still : (l : List Entry) → overflows r l ≡ false
  pub rest : (c : Contents) → SameRest c (moved r c)

project_passes : (level : ℕ) (b : Run) → Readable (rec BrokerRegistration b) → Passes (rec BrokerRegistration (project level b))
unfolding project rows_of shape_of kind_number overflows judge alone against
project_passes level b r = go (is_under level directories_level) (is_under level cordoned_level)
  where
    at : Bool → Bool → Run
    at d c = let dirs = cond d (set_field 8 [] b) b in cond c (drop_field 11 dirs) dirs

    sets : fault stored BrokerRegistration (set_field 8 [] b) ≡ 0
    sets = set-fault stored BrokerRegistration b r.passes 8 refl [] refl (refl, omega arith)

    reads : (q : Run) → fault stored BrokerRegistration q ≡ 0 → AreFields q → Passes (rec BrokerRegistration q)
    reads q ok f = record {
      ok = sym (fault_stored BrokerRegistration (λ e. impossible cc) q) ∙ ok;
      fields = f;
      admitted = λ l. refl;
      still = λ l. refl;
      rest = broker_rest q;
    }

    go : (d c : Bool) → Passes (rec BrokerRegistration (at d c))
    go true true =
        reads (drop_field 11 (set_field 8 [] b)) (drop-fault stored BrokerRegistration (set_field 8 [] b) sets 11 refl refl)
        (drop-fields 11 (set_field 8 [] b) (set-fields 8 [] b (lit< tt) tt r.fields))
    go true false = reads (set_field 8 [] b) sets (set-fields 8 [] b (lit< tt) tt r.fields)
    go false true = reads (drop_field 11 b) (drop-fault stored BrokerRegistration b r.passes 11 refl refl) (drop-fields 11 b r.fields)
    go false false = reads b r.passes r.fields

module _ (p : Run) (r : Readable (rec Partition p)) where
  assignment_passes : (node : Bytes) → length node ≡ node_width → AreBytes node → Passes (assignment p node)
  unfolding rows_of shape_of kind_number any_required may_follow run_fault overflows judge alone against
  assignment_passes node wide b = record {
    ok =
        rw (
          fits_value none (text 255) (value 1 p) (fault-value stored Partition p r.passes 1 refl refl),
          fits_value none (fixed 4) (value 2 p) (fault-value stored Partition p r.passes 2 refl refl),
          fits_value none (fixed 8) node wide,
          fits_value none (fixed 16) migrating refl,
        );
    fields = (
      lit< tt,
      value_are_bytes 1 p r.fields,
      (lit< tt, value_are_bytes 2 p r.fields, (lit< tt, b, (lit< tt, replicate_are_bytes 16 0 (lit< tt), tt))),
    );
    admitted = λ l. refl;
    still = λ l. refl;
    rest = assignment-rest (assignment p node).run;
  }

  assignments_pass : (count : ℕ) (nodes dirs : Bytes) → count * node_width ≤ length nodes → AreBytes nodes → All Passes (assignments p count nodes dirs)
  unfolding assignments
  assignments_pass zero nodes dirs long b = tt
  assignments_pass (suc count) nodes dirs long b =
      all_append Passes (cond (same_bytes (take id_width dirs) migrating) [] (assignment p (take node_width nodes) ∷ []))
      (assignments p count (drop node_width nodes) (drop id_width dirs)) (here (same_bytes (take id_width dirs) migrating))
      (assignments_pass count (drop node_width nodes) (drop id_width dirs) (omega (arith, length-drop node_width nodes)) (drop_are_bytes node_width nodes b))
    where
      here : (s : Bool) → All Passes (cond s [] (assignment p (take node_width nodes) ∷ []))
      here true = tt
      here false = (assignment_passes (take node_width nodes) (length-take-le node_width nodes (omega arith)) (take_are_bytes node_width nodes b), tt)

listed_pass : (level : ℕ) (e : Entry) → Proper e → All Passes (listed level e)
unfolding listed kept
listed_pass level (topic name id count factor named) p = tt
listed_pass level (part r) p = go (is_under level directories_level)
  where
    whole : length (replicas r) % node_width ≡ 0
    whole = unfold rows_of shape_of kind_number in (fault-value stored Partition r p.readable.passes 4 refl refl).0

    go : (under : Bool) → All Passes (cond under (assignments r (slots r) (replicas r) (directories r)) [])
    go true =
        let few = (least (node_count (replicas r)) (length (directories r) / id_width)).0 in
        assignments_pass r p.readable (slots r) (replicas r) (directories r) (omega (arith, whole)) (value_are_bytes 4 r p.readable.fields)
    go false = tt
listed_pass level (plain r) p = go (eqb (kind_number r.kind) (kind_number BrokerRegistration)) refl
  where
    go : (b : Bool) → eqb (kind_number r.kind) (kind_number BrokerRegistration) ≡ b → All Passes (cond b (projected level r.run) [])
    go false e = tt
    go true e = known (same_bytes (bytes_of (project level r.run)) (bytes_of r.run))
      where
        k : r.kind ≡ BrokerRegistration
        k = number_injective r.kind BrokerRegistration (eqb-true (kind_number r.kind) (kind_number BrokerRegistration) e)

        known : (s : Bool) → All Passes (cond s [] (rec BrokerRegistration (project level r.run) ∷ []))
        known true = tt
        known false = (project_passes level r.run (subst (λ x. Readable (rec x r.run)) k p.readable), tt)

pub all_pass : (level : ℕ) (c : Contents) → All Proper c.real → All Passes (downgrade level c)
unfolding downgrade
all_pass level c u = all-joined (listed level) Passes c.real (all_imp Proper (λ e. All Passes (listed level e)) (listed_pass level) c.real u)
