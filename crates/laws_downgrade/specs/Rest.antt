-- What a listed record does not move: the entries that are neither brokers nor partitions, the empty groups and the fixed parts.
use Rattle.std.specs.Prelude.{◌≡◌, refl, List, [], ◌∷◌, map, false, cond, ℕ}
use Rattle.std.proofs.Common.{ap, ◌∙◌}
use Rattle.std.proofs.Math.Option.{Option, none, some}
use Rattle.model.specs.Choice.{given}
use Rattle.model.specs.Number.{Bytes}
use Rattle.model.specs.Order.{Key, compare_keys, is_same}
use Rattle.model.specs.Run.{Run, value, set_field}
use Rattle.model.specs.Record.{rec}
use Rattle.model.specs.Key.{rank, key_of, key_rank, partition_key}
use Rattle.model.specs.Map.{keep}
use Rattle.model.specs.Contents.{Entry, topic, part, plain, key, Contents}
use Rattle.model.specs.Move.{replicas, directories, node_count, set_directories, on_real, on_empties, on_fixed, move, moves, run_at, slot_of, filled, assigned, directory_moves, plan, moved, directories_m}
use Rattle.model.specs.Downgrade.{is_other}
use Rattle.model.specs.declared.Kind.TheVariants.{Partition, BrokerRegistration, PartitionDirAssignment}
use Rattle.laws.specs.Map.{keep-put}

pub record SameRest (c d : Contents) : Type 0 where
  pub others : keep key is_other d.real ≡ keep key is_other c.real
  pub empties : d.empties ≡ c.empties
  pub fixed : d.fixed ≡ c.fixed

pub rest_self : (c : Contents) → SameRest c c
rest_self c = record { others = refl; empties = refl; fixed = refl }

pub rest_then : {c d e : Contents} → SameRest c d → SameRest d e → SameRest c e
rest_then s t = record { others = t.others ∙ s.others; empties = t.empties ∙ s.empties; fixed = t.fixed ∙ s.fixed }

-- a broker
pub broker_rest : (run : Run) (c : Contents) → SameRest c (moved (rec BrokerRegistration run) c)
unfolding moved plan moves move on_real on_empties on_fixed
broker_rest run c = record {
  others = keep-put key is_other (plain (rec BrokerRegistration run)) (unfold is_other key key_of key_rank rank in refl) c.real;
  empties = refl;
  fixed = refl;
}

-- a partition's directories
part_apart : (p : Run) → is_other (key (part p)) ≡ false
unfolding is_other key key_of key_rank rank
part_apart p = refl

set_rest : (k : Key) (v : Bytes) (l : List Entry) → keep key is_other (map (set_directories k v) l) ≡ keep key is_other l
unfolding keep set_directories
set_rest k v [] = refl
set_rest k v (topic name id count factor named ∷ l) =
    let e = topic name id count factor named in
    ap (λ m. cond (is_other (key e)) (e ∷ m) m) (set_rest k v l)
set_rest k v (part r ∷ l) = rw (part_apart r, part_apart (cond (is_same (compare_keys (key_of Partition r) k)) (set_field 9 v r) r)) (set_rest k v l)
set_rest k v (plain r ∷ l) = ap (λ m. cond (is_other (key (plain r))) (plain r ∷ m) m) (set_rest k v l)

pub assignment-rest : (run : Run) (c : Contents) → SameRest c (moved (rec PartitionDirAssignment run) c)
unfolding moved plan moves move on_real on_empties on_fixed directory_moves
assignment-rest run c = of_partition (run_at (partition_key Partition (value 1 run) (value 2 run)) c.real)
  where
    at_slot : (p : Run) (o : Option ℕ)
        → SameRest c (moves (given o [] (λ slot. directories_m (key_of Partition p) (assigned slot (value 4 run) (filled (node_count (replicas p)) (directories p))) ∷ [])) c)
    at_slot p none = rest_self c
    at_slot p (some slot) = record {
      others = set_rest (key_of Partition p) (assigned slot (value 4 run) (filled (node_count (replicas p)) (directories p))) c.real;
      empties = refl;
      fixed = refl;
    }

    of_partition : (o : Option Run) → SameRest c (moves (given o [] (directory_moves run)) c)
    of_partition none = rest_self c
    of_partition (some p) = at_slot p (slot_of (node_count (replicas p)) (value 3 run) (replicas p))
