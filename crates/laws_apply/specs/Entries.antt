-- Entries such as Apply stores, and the changes that a move makes to each of them: they keep its key and what it is.
use Rattle.std.specs.Prelude.{◌≡◌, List, Bool, true, false, cond, ℕ, ◌+◌, ◌/◌, ◌%◌, ◌≤◌, ◌<◌, length}
use Rattle.std.proofs.Math.Path.{refl}
use Rattle.std.proofs.Math.Option.{Option, none, some}
use Rattle.std.proofs.Common.{arith}
use Rattle.std.proofs.Math.Dec.{lit<}
use Rattle.model.specs.Number.{Bytes, AreBytes, bytes, span}
use Rattle.model.specs.Order.{Key, compare_keys, is_same, same_bytes}
use Rattle.model.specs.Run.{Run, done, item, field, set_field}
use Rattle.model.specs.Kind.{kind_number}
use Rattle.model.specs.Shape.{fixed, text, string_limit, list_limit, rows_of, any_required, may_follow, run_fault, stored, shape_of, fault}
use Rattle.model.specs.Record.{rec}
use Rattle.model.specs.Key.{key_of, subject, topic_key}
use Rattle.model.specs.Map.{get}
use Rattle.model.specs.Contents.{Entry, topic, part, plain, topic_run, flag_bytes, kept, key}
use Rattle.model.specs.Move.{clear_named, clear_old_named, count_partition, is_new, partition_topic, replicas, id_width, node_count, set_directories}
use Rattle.model.specs.declared.Kind.TheVariants.{Topic, Partition}
use Rattle.laws.specs.Numbers.{length-bytes, bytes_are_bytes}
use Rattle.laws_records.specs.Fields.{value-set_other}
use Rattle.laws_records.specs.Faults.{fault-value}
use Rattle.laws_records.specs.Forms.{ValueFits, fits_value}
use Rattle.laws_image.specs.Fits.{Readable}
use Rattle.laws_image.specs.Orderly.{Storable}
use Rattle.laws_apply.specs.Readable.{set_readable}

-- a topic's replication factor fits its field; its count does where the contents fit
abbrev pub FactorFits : Entry → Type 0
FactorFits (topic name id count factor named) = factor < span 2
FactorFits (part r) = Unit {0}
FactorFits (plain r) = Unit {0}

pub record Stored (e : Entry) : Type 0 where
  pub readable : Readable (kept e)
  pub factor : FactorFits e
  pub storable : Storable e

-- 1. Topics

-- a name and an id that a topic may have
pub record AreNameAndId (name id : Bytes) : Type 0 where
  pub name_fits : ValueFits none (text string_limit) name
  pub id_fits : ValueFits none (fixed id_width) id
  pub name_bytes : AreBytes name
  pub id_bytes : AreBytes id

flag_bytes_lem : (b : Bool) → AreBytes (flag_bytes b)
flag_bytes_lem true = (lit< tt, (lit< tt, (lit< tt, (lit< tt, (lit< tt, tt)))))
flag_bytes_lem false = (lit< tt, (lit< tt, (lit< tt, (lit< tt, (lit< tt, tt)))))

length-flag : (b : Bool) → length (flag_bytes b) ≡ 5
length-flag true = refl
length-flag false = refl

module _ (name id : Bytes) (count factor : ℕ) (named : Bool) where
  -- a topic reads back whatever its count, factor and flag
  pub topic_readable : AreNameAndId name id → Readable (kept (topic name id count factor named))
  unfolding kept rows_of shape_of kind_number any_required may_follow run_fault
  topic_readable t = record {
    passes =
        rw (
          fits_value none (text string_limit) name t.name_fits,
          fits_value none (fixed id_width) id t.id_fits,
          fits_value none (fixed 4) (bytes 4 count) (length-bytes 4 count),
          fits_value none (fixed 2) (bytes 2 factor) (length-bytes 2 factor),
          fits_value none (fixed 5) (flag_bytes named) (length-flag named),
        );
    fields = (
      lit< tt,
      t.name_bytes,
      (
        lit< tt,
        t.id_bytes,
        (lit< tt, bytes_are_bytes 4 count, (lit< tt, bytes_are_bytes 2 factor, (lit< tt, flag_bytes_lem named, tt))),
      ),
    );
  }

  pub name_and_id : Readable (kept (topic name id count factor named)) → AreNameAndId name id
  unfolding kept rows_of shape_of kind_number field
  name_and_id r =
      let run = topic_run name id count factor (item 5 (flag_bytes named) done) in
      record {
        name_fits = fault-value stored Topic run r.passes 1 refl refl;
        id_fits = fault-value stored Topic run r.passes 2 refl refl;
        name_bytes = r.fields.1;
        id_bytes = r.fields.2.1;
      }

pub topic_stored : (name id : Bytes) (count factor : ℕ) (named : Bool) → AreNameAndId name id → factor < span 2
    → Stored (topic name id count factor named)
topic_stored name id count factor named t h = record { readable = topic_readable name id count factor named t; factor = h; storable = tt }

-- 2. No topic is named for an id

pub key-clear_named : (i : Bytes) (e : Entry) → key (clear_named i e) ≡ key e
unfolding clear_named key
key-clear_named i (topic name id count factor named) = refl
key-clear_named i (part r) = refl
key-clear_named i (plain r) = refl

pub key-clear_old_named : (o : Option Entry) (e : Entry) → key (clear_old_named o e) ≡ key e
unfolding clear_old_named
key-clear_old_named none e = refl
key-clear_old_named (some (topic name id count factor named)) e = key-clear_named id e
key-clear_old_named (some (part r)) e = refl
key-clear_old_named (some (plain r)) e = refl

pub clear_named_stored : (i : Bytes) (e : Entry) → Stored e → Stored (clear_named i e)
unfolding clear_named
clear_named_stored i (topic name id count factor named) s =
    topic_stored name id count factor (cond (same_bytes id i) false named) (name_and_id name id count factor named s.readable) s.factor
clear_named_stored i (part r) s = s
clear_named_stored i (plain r) s = s

pub clear_old_named_stored : (o : Option Entry) (e : Entry) → Stored e → Stored (clear_old_named o e)
unfolding clear_old_named
clear_old_named_stored none e s = s
clear_old_named_stored (some (topic name id count factor named)) e s = clear_named_stored id e s
clear_old_named_stored (some (part r)) e s = s
clear_old_named_stored (some (plain r)) e s = s

-- 3. A partition tells its topic

-- 1 where it is new, else 0; and the change of each entry
abbrev pub added : Run → List Entry → ℕ
added r l = is_new (get key (key_of Partition r) l)

abbrev pub told : Run → List Entry → Entry → Entry
told r l = count_partition (partition_topic r) (added r l) (node_count (replicas r))

key-count_partition : (name : Bytes) (new factor : ℕ) (e : Entry) → key (count_partition name new factor e) ≡ key e
unfolding count_partition key
key-count_partition name new factor (topic n id count old named) = go (same_bytes n name)
  where
    go : (b : Bool) → key (cond b (topic n id (count + new) factor named) (topic n id count old named)) ≡ topic_key n
    go true = refl
    go false = refl
key-count_partition name new factor (part r) = refl
key-count_partition name new factor (plain r) = refl

-- a partition has at most 64 replicas
pub replicas_few : (r : Run) → fault stored Partition r ≡ 0 → node_count (replicas r) ≤ list_limit
unfolding rows_of shape_of kind_number
replicas_few r ok = (fault-value stored Partition r ok 4 refl refl).1

pub key-told : (r : Run) (l : List Entry) (e : Entry) → key (told r l e) ≡ key e
key-told r l = key-count_partition (partition_topic r) (added r l) (node_count (replicas r))

count_partition_stored : (name : Bytes) (new factor : ℕ) → factor < span 2 → (e : Entry) → Stored e → Stored (count_partition name new factor e)
unfolding count_partition
count_partition_stored name new factor h (topic n id count old named) s = go (same_bytes n name)
  where
    go : (b : Bool) → Stored (cond b (topic n id (count + new) factor named) (topic n id count old named))
    go true = topic_stored n id (count + new) factor named (name_and_id n id count old named s.readable) h
    go false = s
count_partition_stored name new factor h (part r) s = s
count_partition_stored name new factor h (plain r) s = s

pub told_stored : (r : Run) → Readable (rec Partition r) → (l : List Entry) (e : Entry) → Stored e → Stored (told r l e)
told_stored r p l = count_partition_stored (partition_topic r) (added r l) (node_count (replicas r)) (omega (arith, replicas_few r p.passes))

-- 4. A partition's directories

-- directories that a partition may have
pub record AreDirectories (v : Bytes) : Type 0 where
  pub are_bytes : AreBytes v
  pub whole : length v % id_width ≡ 0
  pub few : length v / id_width ≤ list_limit

key-set_directories : (v : Bytes) (r : Run) → key_of Partition (set_field 9 v r) ≡ key_of Partition r
unfolding key_of subject
key-set_directories v r = rw (value-set_other 9 v 1 (λ e. omega arith) r, value-set_other 9 v 2 (λ e. omega arith) r)

pub key-directories : (k : Key) (v : Bytes) (e : Entry) → key (set_directories k v e) ≡ key e
unfolding set_directories key
key-directories k v (topic name id count factor named) = refl
key-directories k v (part r) = go (is_same (compare_keys (key_of Partition r) k))
  where
    go : (b : Bool) → key_of Partition (cond b (set_field 9 v r) r) ≡ key_of Partition r
    go true = key-set_directories v r
    go false = refl
key-directories k v (plain r) = refl

pub part_stored : (r : Run) → Readable (rec Partition r) → Stored (part r)
unfolding kept
part_stored r p = record { readable = p; factor = tt; storable = tt }

pub directories_stored : (k : Key) (v : Bytes) → AreDirectories v → (e : Entry) → Stored e → Stored (set_directories k v e)
unfolding set_directories kept rows_of shape_of kind_number
directories_stored k v d (topic name id count factor named) s = s
directories_stored k v d (part r) s = go (is_same (compare_keys (key_of Partition r) k))
  where
    go : (b : Bool) → Stored (part (cond b (set_field 9 v r) r))
    go true =
        part_stored (set_field 9 v r)
        (set_readable Partition r s.readable 9 refl refl (lit< tt) v d.are_bytes (d.whole, d.few))
    go false = s
directories_stored k v d (plain r) s = s
