-- Records that plans make from given and stored ones read back: a changed broker, an advanced offset, parts of an update, directories.
use Rattle.std.specs.Prelude.{◌≡◌, List, [], ◌∷◌, ◌++◌, Bool, ℕ, zero, suc, ◌+◌, ◌-◌, ◌*◌, ◌≤◌, ◌<◌, length, take, drop}
use Rattle.std.proofs.Math.Path.{refl}
use Rattle.std.proofs.Common.{sym, ◌∙◌, arith, length-append, length-take, length-drop}
use Rattle.std.proofs.Math.Option.{Option, none, some}
use Rattle.std.proofs.Math.Bool.{true, false, cond}
use Rattle.std.proofs.Math.Dec.{eqb, lit<}
use Rattle.std.proofs.Math.ListN.{get_elem?}
use Rattle.std.proofs.lemmas.List.{length-replicate}
use Rattle.model.specs.Choice.{every, given, is_empty}
use Rattle.model.specs.Number.{Bytes, AreBytes, number}
use Rattle.model.specs.Order.{same_bytes}
use Rattle.model.specs.Run.{Run, run_of, field, value, set_field}
use Rattle.model.specs.Kind.{kind_number}
use Rattle.model.specs.Shape.{Form, fixed, below, offset, text, map_key, raw, list, node_set, nested, Row, record_of, rows_of, any_required, may_follow}
use Rattle.model.specs.Shape.{list_limit, start, leaf_fault, run_fault, value_fault, logged, stored, shape_of, fault}
use Rattle.model.specs.Record.{rec}
use Rattle.model.specs.Move.{node_width, id_width, elr_rec, recovery_rec, fenced_after, changed_broker}
use Rattle.model.specs.Move.{slot_of, filled, assigned}
use Rattle.model.specs.declared.Kind.TheVariants.{Partition, BrokerRegistration, BrokerRegistrationChange, PartitionUpdate}
use Rattle.laws.specs.Choice.{impossible, and_left, and_right}
use Rattle.laws.specs.Numbers.{append_are_bytes, take_are_bytes, drop_are_bytes, replicate_are_bytes}
use Rattle.laws_records.specs.Runs.{AreFields, fields-run}
use Rattle.laws_records.specs.Fields.{value_are_bytes, field_are_bytes}
use Rattle.laws_records.specs.Passing.{run-same, passes}
use Rattle.laws_records.specs.Forms.{leaf_check, OneBelow, ValueFits, fits_value}
use Rattle.laws_records.specs.Faults.{fault-value, fault-field}
use Rattle.laws_image.specs.Fits.{Readable}
use Rattle.laws_apply.specs.Readable.{set_readable}
use Rattle.laws_apply.specs.Entries.{AreDirectories}

-- 1. Brokers

bit : (n : ℕ) → n < 2 → OneBelow 2 (n ∷ [])
bit n h = record { byte = n; only = refl; low = h }

bit_bytes : (v : Bytes) → OneBelow 2 v → AreBytes v
bit_bytes v o = rw o.only ((let h = o.low in omega arith), tt)

fenced_bit : (change : ℕ) (old : Bytes) → OneBelow 2 old → OneBelow 2 (fenced_after change old)
fenced_bit change old h = go (eqb change 0) (eqb change 1)
  where
    go : (a b : Bool) → OneBelow 2 (cond a (0 ∷ []) (cond b old (1 ∷ [])))
    go true b = bit 0 (lit< tt)
    go false true = h
    go false false = bit 1 (lit< tt)

shut_bit : (b : Bool) (old : Bytes) → OneBelow 2 old → OneBelow 2 (cond b (1 ∷ []) old)
shut_bit true old h = bit 1 (lit< tt)
shut_bit false old h = h

module _ (change : Run) (ok : fault logged BrokerRegistrationChange change ≡ 0) (b : AreFields change) where
  dirs_readable : (run : Run) → Readable (rec BrokerRegistration run)
      → Readable (rec BrokerRegistration (cond (is_empty (value 5 change)) run (set_field 8 (value 5 change) run)))
  unfolding rows_of shape_of kind_number
  dirs_readable run r = go (is_empty (value 5 change))
    where
      go : (e : Bool) → Readable (rec BrokerRegistration (cond e run (set_field 8 (value 5 change) run)))
      go true = r
      go false =
          set_readable BrokerRegistration run r 8 refl refl (lit< tt) (value 5 change) (value_are_bytes 5 change b)
          (fault-value logged BrokerRegistrationChange change ok 5 refl refl)

  cordoned_readable : (run : Run) → Readable (rec BrokerRegistration run)
      → Readable (rec BrokerRegistration (given (field 6 change) run (λ cordoned. set_field 11 cordoned run)))
  unfolding rows_of shape_of kind_number
  cordoned_readable run r = go (field 6 change) refl
    where
      go : (o : Option Bytes) → field 6 change ≡ o → Readable (rec BrokerRegistration (given o run (λ cordoned. set_field 11 cordoned run)))
      go none e = r
      go (some v) e =
          set_readable BrokerRegistration run r 11 refl refl (lit< tt) v (field_are_bytes 6 change v b e)
          (fault-field logged BrokerRegistrationChange change ok 6 refl v e)

  pub changed_readable : (run : Run) → Readable (rec BrokerRegistration run) → Readable (rec BrokerRegistration (changed_broker change run))
  unfolding changed_broker rows_of shape_of kind_number
  changed_readable run r =
      let change-number = number (value 3 change) in
      let down = eqb (number (value 4 change)) 1 in
      let fence = fenced_after change-number (value 9 run) in
      let shut = cond down (1 ∷ []) (value 10 run) in
      let p = fenced_bit change-number (value 9 run) (fault-value stored BrokerRegistration run r.passes 9 refl refl) in
      let q = shut_bit down (value 10 run) (fault-value stored BrokerRegistration run r.passes 10 refl refl) in
      let fenced = set_field 9 fence run in
      let fenced-reads = set_readable BrokerRegistration run r 9 refl refl (lit< tt) fence (bit_bytes fence p) p in
      let shutdown = set_field 10 shut fenced in
      let shutdown-reads = set_readable BrokerRegistration fenced fenced-reads 10 refl refl (lit< tt) shut (bit_bytes shut q) q in
      let dirs = cond (is_empty (value 5 change)) shutdown (set_field 8 (value 5 change) shutdown) in
      cordoned_readable dirs (dirs_readable shutdown shutdown-reads)

-- 2. Parts of an update

-- a form that is no map's key and no run
abbrev is_leaf : Form → Bool
is_leaf (fixed width) = true
is_leaf (below bound) = true
is_leaf offset = true
is_leaf (text limit) = true
is_leaf (map_key limit) = false
is_leaf (raw limit) = true
is_leaf (list width limit) = true
is_leaf (node_set limit) = true
is_leaf (nested s) = false

leaf_value : (form : Form) → is_leaf form ≡ true → (prior k : Option Bytes) (v : Bytes) → leaf_fault prior form v ≡ value_fault k form v
unfolding leaf_fault value_fault
leaf_value (fixed width) h prior k v = refl
leaf_value (below bound) h prior k v = refl
leaf_value offset h prior k v = refl
leaf_value (text limit) h prior k v = refl
leaf_value (map_key limit) h prior k v = impossible cc
leaf_value (raw limit) h prior k v = refl
leaf_value (list width limit) h prior k v = refl
leaf_value (node_set limit) h prior k v = refl
leaf_value (nested s) h prior k v = impossible cc

every-at : {A : Type 0} (test : A → Bool) (l : List A) (i : ℕ) (x : A) → every test l ≡ true → get_elem? l i ≡ some x → test x ≡ true
every-at test [] i x h e = impossible cc
every-at test (y ∷ l) zero x h e = let q : y ≡ x = cc in rw (← q) (and_left (test y) (every test l) h)
every-at test (y ∷ l) (suc i) x h e = every-at test l i x (and_right (test y) (every test l) h) e

-- a partition that stands as a value passes as a record: its fields are no runs
pub nested_passes : (v : Bytes) → ValueFits none (nested (record_of Partition)) v → fault stored Partition (run_of v) ≡ 0
unfolding shape_of kind_number
nested_passes v p =
    let rows = rows_of (record_of Partition) in
    sym (run-same (leaf_check none) value_fault rows same start (run_of v)) ∙ passes (leaf_check none) rows (run_of v) p
  where
    leaves : every (λ row. is_leaf row.form) (rows_of (record_of Partition)) ≡ true
    leaves = unfold rows_of in refl

    same : (i : ℕ) (row : Row) → get_elem? (rows_of (record_of Partition)) i ≡ some row → (k : Option Bytes) (w : Bytes)
        → leaf_fault none row.form w ≡ value_fault k row.form w
    same i row e k w = leaf_value row.form (every-at (λ x. is_leaf x.form) (rows_of (record_of Partition)) i row leaves e) none k w

module _ (f : Run) (ok : fault logged PartitionUpdate f ≡ 0) (b : AreFields f) where
  pub update_partition : Readable (rec Partition (run_of (value 1 f)))
  unfolding rows_of shape_of
  update_partition = record {
    passes = nested_passes (value 1 f) (fault-value logged PartitionUpdate f ok 1 refl refl);
    fields = fields-run (value 1 f) (value_are_bytes 1 f b);
  }

  name_fits : ValueFits none (text 255) (value 1 (run_of (value 1 f)))
  unfolding rows_of shape_of kind_number
  name_fits = fault-value stored Partition (run_of (value 1 f)) update_partition.passes 1 refl refl

  number_fits : ValueFits none (fixed 4) (value 2 (run_of (value 1 f)))
  unfolding rows_of shape_of kind_number
  number_fits = fault-value stored Partition (run_of (value 1 f)) update_partition.passes 2 refl refl

  value-bytes : (tag : ℕ) → AreBytes (value tag (run_of (value 1 f)))
  value-bytes tag = value_are_bytes tag (run_of (value 1 f)) update_partition.fields

  pub elr_readable : (eligible known : Bytes) → field 2 f ≡ some eligible → field 3 f ≡ some known
      → Readable (elr_rec (value 1 (run_of (value 1 f))) (value 2 (run_of (value 1 f))) eligible known)
  unfolding rows_of shape_of kind_number any_required may_follow run_fault
  elr_readable eligible known p q =
      let p-fits = fault-field logged PartitionUpdate f ok 2 refl eligible p in
      let q-fits = fault-field logged PartitionUpdate f ok 3 refl known q in
      record {
        passes =
            rw (
              fits_value none (text 255) (value 1 (run_of (value 1 f))) name_fits,
              fits_value none (fixed 4) (value 2 (run_of (value 1 f))) number_fits,
              fits_value none (list 8 64) eligible p-fits,
              fits_value none (list 8 64) known q-fits,
            );
        fields = (
          lit< tt,
          value-bytes 1,
          (
            lit< tt,
            value-bytes 2,
            (lit< tt, field_are_bytes 2 f eligible b p, (lit< tt, field_are_bytes 3 f known b q, tt)),
          ),
        );
      }

  pub recovery_readable : (state : Bytes) → field 4 f ≡ some state
      → Readable (recovery_rec (value 1 (run_of (value 1 f))) (value 2 (run_of (value 1 f))) state)
  unfolding rows_of shape_of kind_number any_required may_follow run_fault
  recovery_readable state p =
      let p-fits = fault-field logged PartitionUpdate f ok 4 refl state p in
      record {
        passes =
            rw (
              fits_value none (text 255) (value 1 (run_of (value 1 f))) name_fits,
              fits_value none (fixed 4) (value 2 (run_of (value 1 f))) number_fits,
              fits_value none (below 2) state p-fits,
            );
        fields = (lit< tt, value-bytes 1, (lit< tt, value-bytes 2, (lit< tt, field_are_bytes 4 f state b p, tt)));
      }

-- 3. Directories

pub slot-below : (most : ℕ) (node nodes : Bytes) (slot : ℕ) → slot_of most node nodes ≡ some slot → slot < most
unfolding slot_of
slot-below zero node nodes slot e = impossible cc
slot-below (suc most) node nodes slot e =
    go (is_empty nodes) (same_bytes (take node_width nodes) node) (slot_of most node (drop node_width nodes)) e
    (slot-below most node (drop node_width nodes))
  where
    go : (a b : Bool) (o : Option ℕ) → cond a none (cond b (some 0) (given o none (λ n. some (suc n)))) ≡ some slot
        → ((n : ℕ) → o ≡ some n → n < most) → slot < suc most
    go true b o q i = impossible cc
    go false true o q i = let z : 0 ≡ slot = cc in omega arith
    go false false none q i = impossible cc
    go false false (some n) q i = let z : suc n ≡ slot = cc in let h = i n refl in omega arith

length-filled : (count : ℕ) (dirs : Bytes) → length (filled count dirs) ≡ length dirs + (count * id_width - length dirs)
length-filled count dirs = simp (length-append, length-replicate)

length-assigned : (slot : ℕ) (id dirs : Bytes) → length id ≡ id_width → slot * id_width + id_width ≤ length dirs
    → length (assigned slot id dirs) ≡ length dirs
length-assigned slot id dirs wide low = simp (length-append, length-take, length-drop, wide) (omega arith)

-- directories of at most 64, filled up to as many as the replicas, and one of them replaced
pub assigned-directories : (count slot : ℕ) (id dirs : Bytes) → count ≤ list_limit → slot < count → length id ≡ id_width → AreBytes id
    → AreDirectories dirs → AreDirectories (assigned slot id (filled count dirs))
assigned-directories count slot id dirs few low wide b d = record {
  are_bytes =
      append_are_bytes (take (slot * id_width) all ++ id) (drop (slot * id_width + id_width) all)
      (append_are_bytes (take (slot * id_width) all) id (take_are_bytes (slot * id_width) all all-bytes) b)
      (drop_are_bytes (slot * id_width + id_width) all all-bytes);
  whole = rw same (omega (arith, d.whole));
  few = rw same (omega (arith, d.few));
}
  where
    all : Bytes
    all = filled count dirs

    all-bytes : AreBytes all
    all-bytes = append_are_bytes dirs _ d.are_bytes (replicate_are_bytes (count * id_width - length dirs) _ (lit< tt))

    same : length (assigned slot id all) ≡ length dirs + (count * id_width - length dirs)
    same = let h = length-filled count dirs in length-assigned slot id all wide (omega arith) ∙ h
