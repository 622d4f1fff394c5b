-- Entries as a restored image has them, after each entry more: what a prefix of a snapshot makes.
use Rattle.std.specs.Prelude.{◌≡◌, refl, List, [], ◌∷◌, ◌++◌, map, Bool, true, false, cond, ℕ, ◌+◌}
use Rattle.std.proofs.Common.{sym, ◌∙◌, ap, arith, add-zero, lit<, ne_eqb}
use Rattle.model.specs.Choice.{folded}
use Rattle.model.specs.Number.{Bytes}
use Rattle.model.specs.Order.{Key, same_bytes}
use Rattle.model.specs.Run.{Run}
use Rattle.model.specs.Record.{Rec}
use Rattle.model.specs.Key.{rank, subject, key_of, topic_key, key_rank, key_name}
use Rattle.model.specs.Map.{count}
use Rattle.model.specs.Contents.{Entry, topic, part, plain, key, record_key, Contents, of_topic, partitions, storable}
use Rattle.model.specs.Move.{partition_topic, replicas, node_count, clear_named, count_partition}
use Rattle.model.specs.Snapshot.{last_factor, restored_factor, last_owner, owner_of, restored_entry, is_level, levels, less_one}
use Rattle.model.specs.declared.Kind.TheVariants.{Partition}
use Rattle.laws.specs.Order.{Lt, lt_ne, lt-rank, same_bytes_self, same_bytes_sym, apart_same_bytes}
use Rattle.laws.specs.Lists.{All, all_imp, folded-append, folded-still}
use Rattle.laws.specs.Map.{Under}
use Rattle.laws.specs.Count.{count-append, count_none}
use Rattle.laws_image.specs.Entries.{not_partition}
use Rattle.laws_image.specs.Ranks.{rank_injective, key_rank_lem}

-- the contents that the first records of a snapshot make
abbrev pub settled : ℕ → List Entry → Contents
settled o l = record { real = map (restored_entry l) l; empties = []; fixed = record { epoch = less_one (levels l); kraft = 0; offset = o } }

-- 1. One entry more

module _ (l : List Entry) (e : Entry) where
  pub partitions-more : (name : Bytes) → partitions name (l ++ (e ∷ [])) ≡ partitions name l + cond (of_topic name (key e)) 1 0
  unfolding partitions count
  partitions-more name = count-append key (of_topic name) l (e ∷ [])

  pub factor_more : (name : Bytes) (factor : ℕ)
      → restored_factor name factor (l ++ (e ∷ [])) ≡ last_factor name (restored_factor name factor l) e
  unfolding restored_factor folded
  factor_more name factor = folded-append (last_factor name) factor l (e ∷ [])

  pub owner_more : (id owner : Bytes) → owner_of id owner (l ++ (e ∷ [])) ≡ last_owner id (owner_of id owner l) e
  unfolding owner_of folded
  owner_more id owner = folded-append (last_owner id) owner l (e ∷ [])

  pub levels-more : levels (l ++ (e ∷ [])) ≡ levels l + cond (is_level (key e)) 1 0
  unfolding levels count
  levels-more = count-append key is_level l (e ∷ [])

-- 2. What an entry's key says of it

pub key-restored : (l : List Entry) (e : Entry) → key (restored_entry l e) ≡ key e
unfolding key restored_entry
key-restored l (topic name id count factor named) = refl
key-restored l (part r) = refl
key-restored l (plain r) = refl

-- a key of another rank is of no topic's partition
pub other_rank : (name : Bytes) (k : Key) → (key_rank k ≡ rank Partition → ⊥) → of_topic name k ≡ false
unfolding of_topic
other_rank name k h = rw (ne_eqb (key_rank k) (rank Partition) h)

-- a record that Apply stores is no partition
pub plain_apart : (r : Rec) → storable r.kind r.run ≡ true → (name : Bytes) → of_topic name (key (plain r)) ≡ false
unfolding key rank
plain_apart r s name =
    other_rank name (record_key r)
    (λ e. not_partition r.kind r.run s (rank_injective r.kind Partition (sym (key_rank_lem r.kind r.run) ∙ e) (lit< tt)))

-- 3. Entries, with one entry more behind them

-- one that Apply stores changes no other
pub restored_plain : (l : List Entry) (r : Rec) → storable r.kind r.run ≡ true → (x : Entry)
    → restored_entry (l ++ (plain r ∷ [])) x ≡ restored_entry l x
unfolding restored_entry last_factor last_owner
restored_plain l r s (topic name id count factor named) = simp (partitions-more, factor_more, owner_more, plain_apart r s name, add-zero)
restored_plain l r s (part f) = refl
restored_plain l r s (plain f) = refl

-- topics of different keys have different names
names_apart : (a b : Bytes) → Lt (topic_key a) (topic_key b) → same_bytes b a ≡ false
names_apart a b h = apart_same_bytes b a (λ e. lt_ne h (ap topic_key (sym e)))

-- a topic takes its id from the ones before it
pub restored_topic : (l : List Entry) (name id : Bytes) (count factor : ℕ) (named : Bool) (x : Entry) → Lt (key x) (topic_key name)
    → restored_entry (l ++ (topic name id count factor named ∷ [])) x ≡ clear_named id (restored_entry l x)
unfolding restored_entry last_factor last_owner clear_named key of_topic key_rank rank
restored_topic l name id count factor named (topic n i c f b) h =
    simp (partitions-more, factor_more, owner_more, add-zero, same_bytes_sym id i) (go (same_bytes i id))
  where
    go : (same : Bool)
        → topic n i (partitions n l) (restored_factor n f l) (same_bytes (cond same name (owner_of i n l)) n)
        ≡ topic n i (partitions n l) (restored_factor n f l) (cond same false (same_bytes (owner_of i n l) n))
    go true = rw (names_apart n name h)
    go false = refl
restored_topic l name id count factor named (part f) h = refl
restored_topic l name id count factor named (plain f) h = refl

-- a partition tells its topic
pub restored-part : (l : List Entry) (r : Run) (x : Entry)
    → restored_entry (l ++ (part r ∷ [])) x ≡ count_partition (partition_topic r) 1 (node_count (replicas r)) (restored_entry l x)
unfolding restored_entry last_factor last_owner count_partition key key_of subject of_topic key_rank key_name rank
restored-part l r (topic n i c f b) =
    simp (partitions-more, factor_more, owner_more, same_bytes_sym n (partition_topic r)) (go (same_bytes (partition_topic r) n))
  where
    go : (same : Bool)
        → topic n i (partitions n l + cond same 1 0) (cond same (node_count (replicas r)) (restored_factor n f l))
        (same_bytes (owner_of i n l) n)
        ≡ cond same (topic n i (partitions n l + 1) (node_count (replicas r)) (same_bytes (owner_of i n l) n))
        (topic n i (partitions n l) (restored_factor n f l) (same_bytes (owner_of i n l) n))
    go true = refl
    go false = rw add-zero
restored-part l r (part f) = refl
restored-part l r (plain f) = refl

-- 4. The last entry itself

-- keys below a topic's are of no partition
none_below : (name other : Bytes) (l : List Entry) → Under key (topic_key other) l → All (λ x. of_topic name (key x) ≡ false) l
unfolding key_rank rank
none_below name other l u =
    all_imp (λ x. Lt (key x) (topic_key other)) (λ x. of_topic name (key x) ≡ false)
    (λ x h. other_rank name (key x) (λ e. let k = lt-rank h in omega arith)) l u

-- nor do they tell a factor
factor_below : (name : Bytes) (factor : ℕ) (other : Bytes) (l : List Entry) → Under key (topic_key other) l
    → restored_factor name factor l ≡ factor
unfolding restored_factor last_factor key key_of key_rank rank
factor_below name factor other l u =
    folded-still (last_factor name) factor l
    (all_imp (λ x. Lt (key x) (topic_key other)) (λ x. last_factor name factor x ≡ factor) one l u)
  where
    one : (x : Entry) → Lt (key x) (topic_key other) → last_factor name factor x ≡ factor
    one (topic n i c f b) h = refl
    one (part r) h = let k = lt-rank h in absurd (omega arith)
    one (plain r) h = refl

-- a topic comes with no partitions, its own factor, and its id
pub restored-new : (l : List Entry) (name id : Bytes) (count factor : ℕ) (named : Bool) → Under key (topic_key name) l
    → restored_entry (l ++ (topic name id count factor named ∷ [])) (topic name id count factor named) ≡ topic name id 0 factor true
unfolding restored_entry last_factor last_owner key of_topic key_rank rank partitions
restored-new l name id count factor named u =
    let none_yet = count_none key (of_topic name) l (none_below name name l u) in
    simp (partitions-more, factor_more, owner_more, none_yet, factor_below name factor name l u, same_bytes_self)
