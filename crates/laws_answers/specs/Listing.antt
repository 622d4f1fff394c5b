-- How long the listing for a downgrade can be: a changed broker is hardly longer than it was, and a partition has at most 64 slots.
use Rattle.std.specs.Prelude.{◌≡◌, Bool, true, false, cond, List, [], ◌∷◌, ◌++◌, ltb, eqb, length, take, drop}
use Rattle.std.proofs.Math.Path.{refl}
use Rattle.std.proofs.Common.{append-nil, length-append, length-take}
use Prim.Native.Nat.{ℕ, zero, suc, ◌+◌, ◌*◌, ◌≤◌, ◌<◌}
use native.Mathlib.Omega.{arith}
use Rattle.model.specs.Choice.{joined}
use Rattle.model.specs.Number.{Bytes}
use Rattle.model.specs.Order.{same_bytes}
use Rattle.model.specs.Run.{Run, done, torn, item, bytes_of, set_field, drop_field}
use Rattle.model.specs.Kind.{kind_number}
use Rattle.model.specs.Shape.{stored, fault, rows_of, shape_of}
use Rattle.model.specs.Record.{Rec, rec, record_bytes}
use Rattle.model.specs.Contents.{Entry, topic, part, plain, kept, Contents}
use Rattle.model.specs.Move.{replicas, directories, node_width, id_width}
use Rattle.model.specs.Downgrade.{directories_level, cordoned_level, is_under, migrating, project, projected, assignment, assignments, slots, listed, downgrade}
use Rattle.model.specs.declared.Kind.TheVariants.{Partition, BrokerRegistration}
use Rattle.laws.specs.Lists.{All, joined-append}
use Rattle.laws_records.specs.Lengths.{longest_body}
use Rattle.laws_records.specs.Runs.{length_item}
use Rattle.laws_records.specs.Records.{length_record}
use Rattle.laws_records.specs.Faults.{fault-length, fault-value}
use Rattle.laws_image.specs.Fits.{Proper, Fits}
use Rattle.laws_answers.specs.Records.{longest_record, entries_few}

-- 1. A broker as a level knows it

drop-shorter : (tag : ℕ) (r : Run) → length (bytes_of (drop_field tag r)) ≤ length (bytes_of r)
unfolding drop_field
drop-shorter tag done = omega arith
drop-shorter tag torn = omega arith
drop-shorter tag (item t v r) = go (eqb t tag) (drop-shorter tag r)
  where
    go : (b : Bool) → length (bytes_of (drop_field tag r)) ≤ length (bytes_of r)
        → length (bytes_of (cond b (drop_field tag r) (item t v (drop_field tag r)))) ≤ length (bytes_of (item t v r))
    go true h = omega (arith, length_item t v r)
    go false h = omega (arith, length_item t v r, length_item t v (drop_field tag r))

-- a field that is emptied, or put in empty
empty_longer : (tag : ℕ) (r : Run) → length (bytes_of (set_field tag [] r)) ≤ 3 + length (bytes_of r)
unfolding set_field
empty_longer tag done = omega (arith, length_item tag [] done)
empty_longer tag torn = omega (arith, length_item tag [] torn)
empty_longer tag (item t v r) = go (ltb t tag) (eqb t tag) (empty_longer tag r)
  where
    go : (b d : Bool) → length (bytes_of (set_field tag [] r)) ≤ 3 + length (bytes_of r)
        → length (bytes_of (cond b (item t v (set_field tag [] r)) (item tag [] (cond d r (item t v r))))) ≤ 3 + length (bytes_of (item t v r))
    go true d h = omega (arith, length_item t v r, length_item t v (set_field tag [] r))
    go false true h = omega (arith, length_item t v r, length_item tag [] r)
    go false false h = omega (arith, length_item t v r, length_item tag [] (item t v r))

project_longer : (level : ℕ) (b : Run) → length (bytes_of (project level b)) ≤ 3 + length (bytes_of b)
unfolding project
project_longer level b = go (is_under level directories_level) (is_under level cordoned_level)
  where
    go : (c d : Bool) → let dirs = cond c (set_field 8 [] b) b in length (bytes_of (cond d (drop_field 11 dirs) dirs)) ≤ 3 + length (bytes_of b)
    go true true = omega (arith, empty_longer 8 b, drop-shorter 11 (set_field 8 [] b))
    go true false = omega (arith, empty_longer 8 b)
    go false true = omega (arith, drop-shorter 11 b)
    go false false = omega arith

-- what an entry is listed as has at most as many bytes
abbrev most_listed : ℕ
most_listed = longest_record + 3

projected-short : (level : ℕ) (b : Run) → length (bytes_of b) ≤ longest_body → length (joined record_bytes (projected level b)) ≤ most_listed
projected-short level b h = go (same_bytes (bytes_of (project level b)) (bytes_of b))
  where
    changed : Rec
    changed = rec BrokerRegistration (project level b)

    go : (same : Bool) → length (joined record_bytes (cond same [] (changed ∷ []))) ≤ most_listed
    go true = omega arith
    go false = rw (append-nil (record_bytes changed)) (omega (arith, h, project_longer level b, length_record changed))

-- 2. A partition's slots

-- a record of a slot
abbrev most_slot : ℕ
most_slot = 298

no_fields : length (bytes_of done) ≡ 0
unfolding bytes_of
no_fields = refl

module _ (p : Run) (ok : fault stored Partition p ≡ 0) where
  slot-short : (node : Bytes) → length node ≤ node_width → length (record_bytes (assignment p node)) ≤ most_slot
  unfolding rows_of shape_of kind_number
  slot-short node h =
      let name = (fault-value stored Partition p ok 1 refl refl).1 in
      let number = fault-value stored Partition p ok 2 refl refl in
      simp (length_record, length_item, no_fields) (omega (arith, name, number, h))

  slots-short : (count : ℕ) (nodes dirs : Bytes) → length (joined record_bytes (assignments p count nodes dirs)) ≤ count * most_slot
  unfolding assignments
  slots-short zero nodes dirs = omega arith
  slots-short (suc count) nodes dirs = go (same_bytes (take id_width dirs) migrating) (slots-short count (drop node_width nodes) (drop id_width dirs))
    where
      one : Rec
      one = assignment p (take node_width nodes)

      rest : List Rec
      rest = assignments p count (drop node_width nodes) (drop id_width dirs)

      go : (b : Bool) → length (joined record_bytes rest) ≤ count * most_slot
          → length (joined record_bytes (cond b [] (one ∷ []) ++ rest)) ≤ suc count * most_slot
      go true h = omega arith
      go false h =
          rw (length-append (record_bytes one) (joined record_bytes rest))
          (omega (arith, h, slot-short (take node_width nodes) (omega (arith, length-take node_width nodes))))

  partition-short : length (joined record_bytes (assignments p (slots p) (replicas p) (directories p))) ≤ most_listed
  unfolding rows_of shape_of kind_number
  partition-short =
      let few = (fault-value stored Partition p ok 4 refl refl).1 in
      omega (arith, slots-short (slots p) (replicas p) (directories p), few)

-- 3. The listing

listed-short : (level : ℕ) (e : Entry) → Proper e → length (joined record_bytes (listed level e)) ≤ most_listed
unfolding listed kept
listed-short level (topic name id count factor named) h = omega arith
listed-short level (part p) h = go (is_under level directories_level)
  where
    go : (b : Bool) → length (joined record_bytes (cond b (assignments p (slots p) (replicas p) (directories p)) [])) ≤ most_listed
    go true = partition-short p h.readable.passes
    go false = omega arith
listed-short level (plain r) h = go (eqb (kind_number r.kind) (kind_number BrokerRegistration))
  where
    go : (b : Bool) → length (joined record_bytes (cond b (projected level r.run) [])) ≤ most_listed
    go true = projected-short level r.run (fault-length stored r.kind r.run h.readable.passes)
    go false = omega arith

all_short : (level : ℕ) (l : List Entry) → All Proper l → length (joined record_bytes (joined (listed level) l)) ≤ length l * most_listed
all_short level [] u = omega arith
all_short level (e ∷ l) u =
    rw (joined-append record_bytes (listed level e) (joined (listed level) l), length-append)
    (omega (arith, listed-short level e u.0, all_short level l u.1))

pub listing-short : (level capacity : ℕ) (c : Contents) → Fits capacity c → length (joined record_bytes (downgrade level c)) < 4294967296
unfolding downgrade
listing-short level capacity c f = omega (arith, all_short level c.real f.entries, entries_few capacity c f)
