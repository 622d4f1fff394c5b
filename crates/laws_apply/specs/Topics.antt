-- Topics by lookup: counts are at most the partitions' numbers and ids name one topic each, after every change that a move makes.
use Rattle.std.specs.Prelude.{◌≡◌, refl, List, map, Bool, ◌&&◌, not, eqb}
use Rattle.std.proofs.Common.{sym, ◌∙◌, lit<, eqb-true}
use Rattle.std.proofs.Math.Path.{ap}
use Rattle.std.proofs.Math.Option.{Option, none, some}
use Rattle.std.proofs.Math.Bool.{true, false, cond}
use Prim.Native.Nat.{ℕ, ◌+◌, ◌≤◌}
use native.Mathlib.Omega.{arith}
use Rattle.model.specs.Choice.{given}
use Rattle.model.specs.Number.{Bytes}
use Rattle.model.specs.Order.{Key, same_bytes}
use Rattle.model.specs.Run.{Run}
use Rattle.model.specs.Record.{Rec}
use Rattle.model.specs.Key.{rank, key_of, subject, topic_key, key_rank, key_name, topic_of}
use Rattle.model.specs.Map.{put, get, remove, keep, count}
use Rattle.model.specs.Contents.{Entry, topic, part, plain, key, record_key, of_topic, partitions, storable, names_id}
use Rattle.model.specs.Move.{clear_named, clear_old_named, count_of, count_partition, partition_topic, replicas, node_count, set_directories, apart_from}
use Rattle.model.specs.declared.Kind.TheVariants.{Topic, Partition}
use Rattle.laws.specs.Choice.{impossible, true_false, and_left, and_right, over, missing, missing-over}
use Rattle.laws.specs.Order.{same_bytes_true, same_bytes_false, same_bytes_sym}
use Rattle.laws.specs.Map.{Asc, get-put-same, get-put_other, get_remove_other, get-keep, get_in, get-map}
use Rattle.laws.specs.Count.{count-put, count-put_other, count-remove_other, count-keep, count_map}
use Rattle.laws.specs.Ids.{unnamed}
use Rattle.laws_image.specs.Ranks.{rank_injective, key_rank_lem}
use Rattle.laws_image.specs.Entries.{not_topic, not_partition}
use Rattle.laws_image.specs.Orderly.{names}
use Rattle.laws_restore.specs.Settled.{other_rank}
use Rattle.laws_apply.specs.Entries.{key-clear_named, key-clear_old_named, added, told, key-told, key-directories}

pub record Topics (l : List Entry) : Type 0 where
  pub counts : (name : Bytes) → count_of (get key (topic_key name) l) ≤ partitions name l
  pub named : (id a b : Bytes) → names id a l ≡ true → names id b l ≡ true → a ≡ b

-- 1. Changes elsewhere

-- a key of no topic and no partition
pub record Elsewhere (k : Key) : Type 0 where
  pub no_topic : key_rank k ≡ rank Topic → ⊥
  pub no_partition : key_rank k ≡ rank Partition → ⊥

-- a record such as Apply stores has one
pub storable_elsewhere : (r : Rec) → storable r.kind r.run ≡ true → Elsewhere (record_key r)
unfolding rank
storable_elsewhere r s =
    let kind = r.kind in
    let run = r.run in
    record {
      no_topic = λ e. not_topic kind run s (rank_injective kind Topic (sym (key_rank_lem kind run) ∙ e) (lit< tt));
      no_partition = λ e. not_partition kind run s (rank_injective kind Partition (sym (key_rank_lem kind run) ∙ e) (lit< tt));
    }

not_topic_key : (k : Key) → (key_rank k ≡ rank Topic → ⊥) → (name : Bytes) → topic_key name ≡ k → ⊥
unfolding key_rank
not_topic_key k h name e = h (sym (ap key_rank e))

-- where topics and the partitions' numbers stay, all stays
same_topics : (l m : List Entry) → ((name : Bytes) → get key (topic_key name) m ≡ get key (topic_key name) l)
    → ((name : Bytes) → partitions name m ≡ partitions name l) → Topics l → Topics m
same_topics l m found number t = record {
  counts = λ name. rw (found name, number name) (t.counts name);
  named = λ id a b p q. t.named id a b (rw (found a) at p) (rw (found b) at q);
}

module _ (l : List Entry) (t : Topics l) where
  pub put_topics : (e : Entry) → Elsewhere (key e) → Topics (put key e l)
  unfolding partitions
  put_topics e h =
      same_topics l (put key e l) (λ name. get-put_other key (topic_key name) e (not_topic_key (key e) h.no_topic name) l)
      (λ name. count-put_other key (of_topic name) e (other_rank name (key e) h.no_partition) l) t

  pub remove_topics : (k : Key) → Elsewhere k → Asc key l → Topics (remove key k l)
  unfolding partitions
  remove_topics k h asc =
      same_topics l (remove key k l) (λ name. get_remove_other key (topic_key name) k (not_topic_key k h.no_topic name) l asc)
      (λ name. count-remove_other key (of_topic name) k (other_rank name k h.no_partition) l) t

-- 2. Changes of each entry

-- one that keeps keys and counts, and names no topic for an id that it was not named for
pub record Lessens (f : Entry → Entry) : Type 0 where
  pub keys : (e : Entry) → key (f e) ≡ key e
  pub count : (e : Entry) → count_of (some (f e)) ≡ count_of (some e)
  pub name : (id : Bytes) (e : Entry) → names_id id (f e) ≡ true → names_id id e ≡ true

pub partitions-map : (f : Entry → Entry) → ((e : Entry) → key (f e) ≡ key e) → (name : Bytes) (l : List Entry)
    → partitions name (map f l) ≡ partitions name l
unfolding partitions
partitions-map f same name l = count_map key key f same (of_topic name) l

over-count : (f : Entry → Entry) → ((e : Entry) → count_of (some (f e)) ≡ count_of (some e)) → (o : Option Entry)
    → count_of (over f o) ≡ count_of o
over-count f h none = refl
over-count f h (some e) = h e

over-names : (f : Entry → Entry) (id : Bytes) → ((e : Entry) → names_id id (f e) ≡ true → names_id id e ≡ true) → (o : Option Entry)
    → given (over f o) false (names_id id) ≡ true → given o false (names_id id) ≡ true
over-names f id h none q = q
over-names f id h (some e) q = h e q

-- what it names was named
names-map : (f : Entry → Entry) → Lessens f → (l : List Entry) (id a : Bytes) → names id a (map f l) ≡ true → names id a l ≡ true
names-map f less l id a p =
    over-names f id (less.name id) (get key (topic_key a) l) (rw (get-map key key f less.keys (topic_key a) l) at p)

pub map_topics : (f : Entry → Entry) → Lessens f → (l : List Entry) → Topics l → Topics (map f l)
map_topics f less l t = record {
  counts = λ name.
      rw (
        get-map key key f less.keys (topic_key name) l,
        over-count f less.count (get key (topic_key name) l),
        partitions-map f less.keys name l,
      )
      (t.counts name);
  named = λ id a b p q. t.named id a b (names-map f less l id a p) (names-map f less l id b q);
}

clear_named_lessens : (i : Bytes) → Lessens (clear_named i)
unfolding clear_named count_of names_id
clear_named_lessens i = record { keys = key-clear_named i; count = count; name = name }
  where
    count : (e : Entry) → count_of (some (clear_named i e)) ≡ count_of (some e)
    count (topic n id c factor named) = refl
    count (part r) = refl
    count (plain r) = refl

    name : (j : Bytes) (e : Entry) → names_id j (clear_named i e) ≡ true → names_id j e ≡ true
    name j (topic n id c factor named) q = go (same_bytes id i) q
      where
        go : (b : Bool) → cond b false named && same_bytes id j ≡ true → named && same_bytes id j ≡ true
        go true r = impossible cc
        go false r = r
    name j (part r) q = q
    name j (plain r) q = q

clear_old_named_lessens : (o : Option Entry) → Lessens (clear_old_named o)
unfolding clear_old_named
clear_old_named_lessens none = record { keys = λ e. refl; count = λ e. refl; name = λ id e q. q }
clear_old_named_lessens (some (topic n id c factor named)) = clear_named_lessens id
clear_old_named_lessens (some (part r)) = record { keys = λ e. refl; count = λ e. refl; name = λ id e q. q }
clear_old_named_lessens (some (plain r)) = record { keys = λ e. refl; count = λ e. refl; name = λ id e q. q }

directories_lessen : (k : Key) (v : Bytes) → Lessens (set_directories k v)
unfolding set_directories count_of names_id
directories_lessen k v = record { keys = key-directories k v; count = count; name = name }
  where
    count : (e : Entry) → count_of (some (set_directories k v e)) ≡ count_of (some e)
    count (topic n id c factor named) = refl
    count (part r) = refl
    count (plain r) = refl

    name : (j : Bytes) (e : Entry) → names_id j (set_directories k v e) ≡ true → names_id j e ≡ true
    name j (topic n id c factor named) q = q
    name j (part r) q = q
    name j (plain r) q = q

pub directories_topics : (k : Key) (v : Bytes) (l : List Entry) → Topics l → Topics (map (set_directories k v) l)
directories_topics k v = map_topics (set_directories k v) (directories_lessen k v)

pub clear_old_named_topics : (o : Option Entry) (l : List Entry) → Topics l → Topics (map (clear_old_named o) l)
clear_old_named_topics o = map_topics (clear_old_named o) (clear_old_named_lessens o)

-- 3. A topic's end

keeps_topic : (name other : Bytes) → apart_from name (topic_key other) ≡ not (same_bytes other name)
unfolding apart_from topic_of key_rank key_name rank
keeps_topic name other = refl

-- partitions of other topics stay
keeps_partition : (name other : Bytes) → same_bytes other name ≡ false → (k : Key) → of_topic other k ≡ true → apart_from name k ≡ true
unfolding apart_from topic_of of_topic rank
keeps_partition name other h k q =
    let ranked = eqb-true (key_rank k) 5 (and_left (eqb (key_rank k) 5) (same_bytes (key_name k) other) q) in
    let called = same_bytes_true (key_name k) other (and_right (eqb (key_rank k) 5) (same_bytes (key_name k) other) q) in
    rw (ranked, called, h)

pub keep_topics : (name : Bytes) (l : List Entry) → Asc key l → Topics l → Topics (keep key (apart_from name) l)
unfolding partitions
keep_topics name l asc t = record { counts = counts; named = λ id a b p q. t.named id a b (lower id a p) (lower id b q) }
  where
    found : (n : Bytes) → get key (topic_key n) (keep key (apart_from name) l) ≡ cond (not (same_bytes n name)) (get key (topic_key n) l) none
    found n = get-keep key (apart_from name) (topic_key n) l asc ∙ rw (keeps_topic name n)

    counts : (n : Bytes) → count_of (get key (topic_key n) (keep key (apart_from name) l)) ≤ partitions n (keep key (apart_from name) l)
    counts n = rw (found n) (go (same_bytes n name) refl)
      where
        go : (b : Bool) → same_bytes n name ≡ b
            → count_of (cond (not b) (get key (topic_key n) l) none) ≤ partitions n (keep key (apart_from name) l)
        go true e = unfold count_of in omega arith
        go false e = rw (count-keep key (of_topic n) (apart_from name) (keeps_partition name n e) l) (t.counts n)

    lower : (id n : Bytes) → names id n (keep key (apart_from name) l) ≡ true → names id n l ≡ true
    lower id n p = go (same_bytes n name) (rw (found n) at p)
      where
        go : (b : Bool) → given (cond (not b) (get key (topic_key n) l) none) false (names_id id) ≡ true → names id n l ≡ true
        go true q = impossible cc
        go false q = q

-- 4. A topic

-- what is unnamed for an id is named for no topic
none_named : (i a : Bytes) (l : List Entry) → names i a (map (clear_named i) l) ≡ false
none_named i a l = rw (get-map key key (clear_named i) (key-clear_named i) (topic_key a) l) (go (get key (topic_key a) l))
  where
    go : (o : Option Entry) → given (over (clear_named i) o) false (names_id i) ≡ false
    go none = refl
    go (some e) = unnamed i e

-- whom an id names after a topic is put: it, for its id, or one that was named before
data Owner (name id : Bytes) (m : List Entry) (i a : Bytes) : Type 0 where
  now_named : a ≡ name → id ≡ i → Owner name id m i a
  still-named : names i a m ≡ true → Owner name id m i a

module _ (name id : Bytes) (count factor : ℕ) (m : List Entry) where
  pub found_topic : get key (topic_key name) (put key (topic name id count factor true) m) ≡ some (topic name id count factor true)
  unfolding key
  found_topic = get-put-same key (topic name id count factor true) m

  pub found_other : (a : Bytes) → same_bytes a name ≡ false
      → get key (topic_key a) (put key (topic name id count factor true) m) ≡ get key (topic_key a) m
  unfolding key
  found_other a h = get-put_other key (topic_key a) (topic name id count factor true) apart m
    where
      apart : topic_key a ≡ topic_key name → ⊥
      apart e = same_bytes_false a name h cc

  put_topic : Topics m → count ≤ partitions name m → ((a : Bytes) → names id a m ≡ false)
      → Topics (put key (topic name id count factor true) m)
  unfolding partitions key
  put_topic t few free = record { counts = counts; named = named }
    where
      e : Entry
      e = topic name id count factor true

      number : (n : Bytes) → partitions n (put key e m) ≡ partitions n m
      number n = count-put_other key (of_topic n) e (other_rank n (topic_key name) (λ q. unfold key_rank rank in omega arith)) m

      counts : (n : Bytes) → count_of (get key (topic_key n) (put key e m)) ≤ partitions n (put key e m)
      counts n = rw (number n) (go (same_bytes n name) refl)
        where
          go : (b : Bool) → same_bytes n name ≡ b → count_of (get key (topic_key n) (put key e m)) ≤ partitions n m
          go true q = rw (same_bytes_true n name q, found_topic) (unfold count_of in few)
          go false q = rw (found_other n q) (t.counts n)

      owner : (i a : Bytes) → names i a (put key e m) ≡ true → Owner name id m i a
      owner i a p = go (same_bytes a name) refl
        where
          go : (b : Bool) → same_bytes a name ≡ b → Owner name id m i a
          go true q =
              let called = same_bytes_true a name q in
              let mine : same_bytes id i ≡ true = unfold names_id in rw (called, found_topic) at p in
              now_named called (same_bytes_true id i mine)
          go false q = still-named (rw (found_other a q) at p)

      named : (i a b : Bytes) → names i a (put key e m) ≡ true → names i b (put key e m) ≡ true → a ≡ b
      named i a b p q = go (owner i a p) (owner i b q)
        where
          clash : (n : Bytes) → id ≡ i → names i n m ≡ true → ⊥
          clash n u v = true_false v (rw u at (free n))

          go : Owner name id m i a → Owner name id m i b → a ≡ b
          go (now_named x u) (now_named y v) = x ∙ sym y
          go (now_named x u) (still-named v) = absurd (clash b u v)
          go (still-named u) (now_named y v) = absurd (clash a v u)
          go (still-named u) (still-named v) = t.named i a b u v

pub topic_topics : (name id : Bytes) (factor : ℕ) (l : List Entry) → Topics l
    → let old = get key (topic_key name) l in
    Topics (put key (topic name id (count_of old) factor true) (map (clear_named id) (map (clear_old_named old) l)))
topic_topics name id factor l t =
    let old = get key (topic_key name) l in
    let before = map (clear_old_named old) l in
    let m = map (clear_named id) before in
    let few : count_of old ≤ partitions name m =
    rw (partitions-map (clear_named id) (key-clear_named id) name before, partitions-map (clear_old_named old) (key-clear_old_named old) name l)
    (t.counts name) in
    put_topic name id (count_of old) factor m (map_topics (clear_named id) (clear_named_lessens id) before (clear_old_named_topics old l t)) few
    (λ a. none_named id a before)

-- 5. A partition

count_partition-names : (name : Bytes) (new factor : ℕ) (i : Bytes) (e : Entry) → names_id i (count_partition name new factor e) ≡ names_id i e
unfolding count_partition names_id
count_partition-names name new factor i (topic n id c f named) = go (same_bytes n name)
  where
    go : (b : Bool) → names_id i (cond b (topic n id (c + new) factor named) (topic n id c f named)) ≡ named && same_bytes id i
    go true = refl
    go false = refl
count_partition-names name new factor i (part r) = refl
count_partition-names name new factor i (plain r) = refl

-- the entries after it
abbrev after : Run → List Entry → List Entry
after r l = put key (part r) (map (told r l) l)

module _ (r : Run) (l : List Entry) where
  pub found-told : (n : Bytes) → get key (topic_key n) (after r l) ≡ over (told r l) (get key (topic_key n) l)
  unfolding key key_of key_rank rank
  found-told n = get-put_other key (topic_key n) (part r) apart (map (told r l) l) ∙ get-map key key (told r l) (key-told r l) (topic_key n) l
    where
      apart : topic_key n ≡ key_of Partition r → ⊥
      apart e = let q = ap key_rank e in omega arith

  pub partitions-told : (n : Bytes) → partitions n (after r l) ≡ partitions n l + cond (same_bytes (partition_topic r) n) (added r l) 0
  unfolding partitions of_topic key key_of subject key_rank key_name rank
  partitions-told n =
      let k = key_of Partition r in
      let old : missing (get key k (map (told r l) l)) ≡ added r l =
      ap missing (get-map key key (told r l) (key-told r l) k l) ∙ missing-over (told r l) (get key k l) in
      count-put key (of_topic n) (part r) (map (told r l) l)
      ∙ (λ i. count_map key key (told r l) (key-told r l) (of_topic n) l i + cond (same_bytes (partition_topic r) n) (old i) 0)

  told-count : (n : Bytes) (o : Option Entry) → get key (topic_key n) l ≡ o → count_of o ≤ partitions n l
      → count_of (over (told r l) o) ≤ partitions n l + cond (same_bytes (partition_topic r) n) (added r l) 0
  unfolding count_partition count_of key
  told-count n none e h = omega arith
  told-count n (some (topic a id c f named)) e h =
      let called : a ≡ n = let k = (get_in key (topic_key n) l (topic a id c f named) e).1 in cc in
      rw (called, same_bytes_sym n (partition_topic r)) (go (same_bytes (partition_topic r) n))
    where
      factor : ℕ
      factor = node_count (replicas r)

      go : (b : Bool)
          → count_of (some (cond b (topic n id (c + added r l) factor named) (topic n id c f named))) ≤ partitions n l + cond b (added r l) 0
      go true = omega arith
      go false = omega arith
  told-count n (some (part s)) e h = omega arith
  told-count n (some (plain s)) e h = omega arith

  told_names : (id n : Bytes) → names id n (after r l) ≡ true → names id n l ≡ true
  told_names id n p =
      over-names (told r l) id (λ e q. rw (count_partition-names (partition_topic r) (added r l) (node_count (replicas r)) id e) at q)
      (get key (topic_key n) l) (rw (found-told n) at p)

  pub part_topics : Topics l → Topics (put key (part r) (map (told r l) l))
  part_topics t = record {
    counts = λ n. rw (found-told n, partitions-told n) (told-count n (get key (topic_key n) l) refl (t.counts n));
    named = λ id a b p q. t.named id a b (told_names id a p) (told_names id b q);
  }
