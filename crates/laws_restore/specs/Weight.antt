-- Restored entries weigh as the entries do, and what is counted of entries is no more than they weigh.
use Rattle.std.specs.Prelude.{◌≡◌, refl, List, map, Bool, true, false, cond, ℕ, ◌+◌, ◌≤◌, eqb, length}
use Rattle.std.proofs.Common.{ap, arith, eqb-true}
use Rattle.model.specs.Choice.{total}
use Rattle.model.specs.Number.{Bytes}
use Rattle.model.specs.Order.{same_bytes}
use Rattle.model.specs.Kind.{kind_number}
use Rattle.model.specs.Record.{rec, record_bytes}
use Rattle.model.specs.Key.{rank, key_of, key_rank, key_name}
use Rattle.model.specs.Map.{count}
use Rattle.model.specs.Contents.{Entry, topic, part, plain, returned, key, of_topic, partitions, fixed_room, is_producer_ids, size, weight}
use Rattle.model.specs.Snapshot.{restored_entry, is_level, levels}
use Rattle.model.specs.declared.Kind.TheVariants.{Partition, FeatureLevel, ProducerIds}
use Rattle.laws.specs.Choice.{and_left}
use Rattle.laws.specs.Lists.{all_any, total-map-same}
use Rattle.laws.specs.Count.{count-total}
use Rattle.laws_records.specs.Kinds.{number_injective}
use Rattle.laws_records.specs.Runs.{length_item}
use Rattle.laws_records.specs.Records.{length_record}
use Rattle.laws_restore.specs.Settled.{settled}

-- a topic weighs the same whatever its count, factor and flag
pub size-restored : (l : List Entry) (e : Entry) → size (restored_entry l e) ≡ size e
unfolding restored_entry size returned
size-restored l (topic name id count factor named) = simp (length_record, length_item)
size-restored l (part r) = refl
size-restored l (plain r) = refl

pub total-restored : (l m : List Entry) → total size (map (restored_entry l) m) ≡ total size m
total-restored l m = total-map-same size (restored_entry l) m (all_any (λ e. size (restored_entry l e) ≡ size e) (size-restored l) m)

pub weight-settled : (o : ℕ) (l : List Entry) → weight (settled o l) ≡ fixed_room + total size l
unfolding weight total
weight-settled o l = omega (arith, total-restored l l)

-- only producer ids weigh nothing
pub size-positive : (e : Entry) → (key_rank (key e) ≡ rank ProducerIds → ⊥) → 1 ≤ size e
unfolding size key key_of key_rank
size-positive (topic name id count factor named) h = omega arith
size-positive (part r) h = omega (arith, length_record (rec Partition r))
size-positive (plain r) h = go (is_producer_ids r) refl
  where
    go : (b : Bool) → is_producer_ids r ≡ b → 1 ≤ cond b 0 (length (record_bytes r))
    go true e = absurd (h (ap rank (number_injective r.kind ProducerIds (eqb-true (kind_number r.kind) (kind_number ProducerIds) e))))
    go false e = omega (arith, length_record r)

pub levels-total : (l : List Entry) → levels l ≤ total size l
unfolding levels is_level rank
levels-total l =
    count-total key is_level size (λ e h. size-positive e (λ q. omega (arith, eqb-true (key_rank (key e)) (rank FeatureLevel) h))) l

pub partitions-total : (name : Bytes) (l : List Entry) → partitions name l ≤ total size l
unfolding partitions of_topic rank
partitions-total name l = count-total key (of_topic name) size heavy l
  where
    heavy : (e : Entry) → of_topic name (key e) ≡ true → 1 ≤ size e
    heavy e h =
        let ranked = and_left (eqb (key_rank (key e)) (rank Partition)) (same_bytes (key_name (key e)) name) h in
        size-positive e (λ q. omega (arith, eqb-true (key_rank (key e)) (rank Partition) ranked))
