-- Accurate topics count their partitions and are named for their ids: each move keeps them so, where Validate and the premises ask it.
use Rattle.std.specs.Prelude.{◌≡◌, List, map, Bool, ◌&&◌, not, ℕ, ◌+◌, ltb, eqb}
use Rattle.std.proofs.Math.Path.{refl, sym, ap}
use Rattle.std.proofs.Common.{◌∙◌, add-zero, eqb-true}
use Rattle.std.proofs.Math.Option.{Option, none, some}
use Rattle.std.proofs.Math.Bool.{true, false, cond}
use native.Mathlib.Omega.{arith}
use Rattle.std.proofs.lemmas.Bool.{not-true}
use Rattle.model.specs.Number.{Bytes, number, half, place}
use Rattle.model.specs.Order.{Key, same_bytes}
use Rattle.model.specs.Run.{Run, value}
use Rattle.model.specs.Key.{rank, subject, key_of, topic_key, key_rank, key_name, topic_of}
use Rattle.model.specs.Map.{put, get, remove, keep}
use Rattle.model.specs.Contents.{Entry, topic, part, plain, key, of_topic, partitions}
use Rattle.model.specs.Move.{topic_m, part_m, directories_m, delete_m, clear_named, clear_old_named, count_of, count_partition, partition_topic, replicas, node_count}
use Rattle.model.specs.Move.{set_directories, apart_from, on_real}
use Rattle.model.specs.Validate.{topic_exists, unknown_topic}
use Rattle.model.specs.declared.Kind.TheVariants.{Partition}
use Rattle.laws.specs.Choice.{true_false, not_true_false, and_left, and_right, unless_true, over, missing-over}
use Rattle.laws.specs.Order.{same_bytes_self, same_bytes_true, same_bytes_false, same_bytes_sym, apart_same_bytes}
use Rattle.laws.specs.Lists.{all_imp}
use Rattle.laws.specs.Map.{Asc, map_asc, get-put-same, get-put_other, get_remove_other, keep_all, get-keep, get-map, get_in}
use Rattle.laws.specs.Count.{count-put, count-put_other, count-remove_other, count-keep, count_none, count_map}
use Rattle.laws_restore.specs.Settled.{other_rank}
use Rattle.laws_apply.specs.Entries.{key-clear_named, key-clear_old_named, added, told, key-told, key-directories}
use Rattle.laws_apply.specs.Topics.{Elsewhere}
use Rattle.history.specs.Good.{Premises, Agree, Accurate}

-- 1. Keys

same_name : (a b : Bytes) → topic_key a ≡ topic_key b → a ≡ b
same_name a b e = cc

-- ranks tell keys apart
part-key_apart : (name : Bytes) (r : Run) → topic_key name ≡ key_of Partition r → ⊥
unfolding key_of key_rank rank
part-key_apart name r e = let q = ap key_rank e in omega arith

-- 2. A partition, whose topic is stored

module _ (l : List Entry) (r : Run) (accurate : Accurate l) (known : unknown_topic (get key (topic_key (partition_topic r)) l) ≡ 0) where
  told_agrees : (name : Bytes) (o : Option Entry) → get key (topic_key name) l ≡ o → Agree o (partitions name l)
      → Agree (over (told r l) o) (partitions name l + cond (same_bytes (partition_topic r) name) (added r l) 0)
  unfolding count_partition key
  told_agrees name none e h = go (same_bytes (partition_topic r) name) refl
    where
      go : (b : Bool) → same_bytes (partition_topic r) name ≡ b → partitions name l + cond b (added r l) 0 ≡ 0
      go true q = let none-known : unknown_topic none ≡ 0 = rw (same_bytes_true (partition_topic r) name q, e) at known in absurd (omega arith)
      go false q = omega arith
  told_agrees name (some (topic a i n f p)) e h =
      let mine = same_name a name (get_in key (topic_key name) l (topic a i n f p) e).1 in
      rw (mine, same_bytes_sym name (partition_topic r)) (go (same_bytes (partition_topic r) name))
    where
      go : (b : Bool) → Agree (some (cond b (topic name i (n + added r l) (node_count (replicas r)) p) (topic name i n f p)))
          (partitions name l + cond b (added r l) 0)
      go true = (ap (λ m. m + added r l) h.0, h.1)
      go false = (h.0 ∙ sym (add-zero (partitions name l)), h.1)
  told_agrees name (some (part s)) e h = absurd h
  told_agrees name (some (plain s)) e h = absurd h

  pub part_accurate : Accurate (on_real (part_m r) l)
  unfolding on_real key partitions of_topic key_of subject key_rank key_name rank
  part_accurate name =
      rw (
        get-put_other key (topic_key name) (part r) (part-key_apart name r) (map (told r l) l),
        get-map key key (told r l) (key-told r l) (topic_key name) l,
        count-put key (of_topic name) (part r) (map (told r l) l),
        count_map key key (told r l) (key-told r l) (of_topic name) l,
        get-map key key (told r l) (key-told r l) (key_of Partition r) l,
        missing-over (told r l) (get key (key_of Partition r) l),
      )
      (told_agrees name (get key (topic_key name) l) refl (accurate name))

-- 3. A topic's id is taken from others: they keep their names, ids, counts and factors, and where they have another id, all

clear_named_other : (id name i : Bytes) (n f : ℕ) (p : Bool) → same_bytes i id ≡ false → clear_named id (topic name i n f p) ≡ topic name i n f p
unfolding clear_named
clear_named_other id name i n f p h = rw h

clear_old_named_other : (o : Option Entry) (name i : Bytes) (n f : ℕ) (p : Bool)
    → ((b j : Bytes) (m g : ℕ) (q : Bool) → o ≡ some (topic b j m g q) → same_bytes i j ≡ false)
    → clear_old_named o (topic name i n f p) ≡ topic name i n f p
unfolding clear_old_named
clear_old_named_other none name i n f p h = refl
clear_old_named_other (some (topic b j m g q)) name i n f p h = clear_named_other j name i n f p (h b j m g q refl)
clear_old_named_other (some (part r)) name i n f p h = refl
clear_old_named_other (some (plain r)) name i n f p h = refl

clear_named_topic : (id : Bytes) (o : Option Entry) (name i : Bytes) (n f : ℕ) (p : Bool)
    → (q : Bool) × (clear_named id (clear_old_named o (topic name i n f p)) ≡ topic name i n f q)
unfolding clear_named clear_old_named
clear_named_topic id none name i n f p = (_, refl)
clear_named_topic id (some (topic b j m g q)) name i n f p = (_, refl)
clear_named_topic id (some (part r)) name i n f p = (_, refl)
clear_named_topic id (some (plain r)) name i n f p = (_, refl)

agree_count : (o : Option Entry) (n : ℕ) → Agree o n → count_of o ≡ n
unfolding count_of
agree_count none n h = sym h
agree_count (some (topic name id m f p)) n h = h.0
agree_count (some (part r)) n h = absurd h
agree_count (some (plain r)) n h = absurd h

-- a stored name comes with its id
pub exists_id : (f : Run) (n : ℕ) (o : Option Entry) → topic_exists f n o ≡ 0
    → (name id : Bytes) (m g : ℕ) (p : Bool) → o ≡ some (topic name id m g p) → value 2 f ≡ id
unfolding topic_exists
exists_id f n o h name id m g p e = go (rw e at h)
  where
    go : topic_exists f n (some (topic name id m g p)) ≡ 0 → value 2 f ≡ id
    go q =
        let ids = same_bytes (value 2 f) id in
        let factors = eqb (number (value 4 f)) g in
        let more = ltb (n + half 4) (place 4 (number (value 3 f))) in
        same_bytes_true (value 2 f) id (and_left ids factors (and_left (ids && factors) more (unless_true (ids && factors && more) 6 (omega arith) q)))

module _ (l : List Entry) (name id : Bytes) (factor : ℕ) (accurate : Accurate l)
    (keeps : (a i : Bytes) (n f : ℕ) (p : Bool) → get key (topic_key name) l ≡ some (topic a i n f p) → id ≡ i)
    (premise : Premises (on_real (topic_m name id factor) l)) where
  abbrev old : Option Entry
  old = get key (topic_key name) l

  abbrev after : List Entry
  after = on_real (topic_m name id factor) l

  abbrev mine : Entry
  mine = topic name id (count_of old) factor true

  abbrev others : List Entry
  others = map (clear_named id) (map (clear_old_named old) l)

  topic_get : (a : Bytes) → (a ≡ name → ⊥) → get key (topic_key a) after ≡ over (clear_named id) (over (clear_old_named old) (get key (topic_key a) l))
  unfolding on_real key
  topic_get a h =
      get-put_other key (topic_key a) mine (λ e. h (same_name a name e)) others
      ∙ get-map key key (clear_named id) (key-clear_named id) (topic_key a) (map (clear_old_named old) l)
      ∙ ap (over (clear_named id)) (get-map key key (clear_old_named old) (key-clear_old_named old) (topic_key a) l)

  topic_here : get key (topic_key name) after ≡ some mine
  unfolding on_real key
  topic_here = get-put-same key mine others

  topic_partitions : (a : Bytes) → partitions a after ≡ partitions a l
  unfolding on_real key partitions of_topic key_rank rank
  topic_partitions a =
      count-put_other key (of_topic a) mine refl others
      ∙ count_map key key (clear_named id) (key-clear_named id) (of_topic a) (map (clear_old_named old) l)
      ∙ count_map key key (clear_old_named old) (key-clear_old_named old) (of_topic a) l

  topic_agrees : (a : Bytes) → (a ≡ name → ⊥) → (o : Option Entry) → get key (topic_key a) l ≡ o → Agree o (partitions a l)
      → Agree (over (clear_named id) (over (clear_old_named old) o)) (partitions a l)
  unfolding key
  topic_agrees a h none e agrees = agrees
  topic_agrees a h (some (part r)) e agrees = absurd agrees
  topic_agrees a h (some (plain r)) e agrees = absurd agrees
  topic_agrees a h (some (topic b i n f p)) e agrees = go (same_bytes i id) refl
    where
      go : (s : Bool) → same_bytes i id ≡ s → Agree (some (clear_named id (clear_old_named old (topic b i n f p)))) (partitions a l)
      go true q =
          let kept = clear_named_topic id old b i n f p in
          let there : get key (topic_key a) after ≡ some (topic b i n f kept.0) =
          topic_get a h ∙ ap (λ o. over (clear_named id) (over (clear_old_named old) o)) e ∙ ap some kept.1 in
          let its = (get_in key (topic_key a) after (topic b i n f kept.0) there).0 in
          let own = (get_in key (topic_key name) after mine topic_here).0 in
          let named-a = same_name b a (get_in key (topic_key a) l (topic b i n f p) e).1 in
          let one = premise.ids b name i id n (count_of old) f factor kept.0 true (same_bytes_true i id q) its own in
          absurd (h (sym named-a ∙ one))
      go false q =
          let same : clear_named id (clear_old_named old (topic b i n f p)) ≡ topic b i n f p =
          ap (clear_named id) (clear_old_named_other old b i n f p (λ c j m g r w. rw (← keeps c j m g r w) q)) ∙ clear_named_other id b i n f p q in
          rw same agrees

  pub topic_accurate : Accurate (on_real (topic_m name id factor) l)
  topic_accurate a = go (same_bytes a name) refl
    where
      here : Agree (get key (topic_key name) after) (partitions name after)
      here = rw (topic_here, topic_partitions name) (agree_count old (partitions name l) (accurate name), refl)

      go : (s : Bool) → same_bytes a name ≡ s → Agree (get key (topic_key a) after) (partitions a after)
      go true q = rw (same_bytes_true a name q) here
      go false q =
          let apart = same_bytes_false a name q in
          rw (topic_get a apart, topic_partitions a) (topic_agrees a apart (get key (topic_key a) l) refl (accurate a))

-- 4. A deletion takes a topic with its partitions, and its id from no other

-- what an entry's key says of its topic
of_topic_lem : (name : Bytes) (k : Key) → of_topic name k ≡ true → (key_rank k ≡ rank Partition) × (key_name k ≡ name)
unfolding of_topic
of_topic_lem name k h = (
  eqb-true (key_rank k) (rank Partition) (and_left (eqb (key_rank k) (rank Partition)) (same_bytes (key_name k) name) h),
  same_bytes_true (key_name k) name (and_right (eqb (key_rank k) (rank Partition)) (same_bytes (key_name k) name) h),
)

apart_part : (name other : Bytes) (k : Key) → of_topic other k ≡ true → apart_from name k ≡ not (same_bytes other name)
unfolding apart_from topic_of rank
apart_part name other k h = let w = of_topic_lem other k h in rw (w.0, w.1)

-- partitions of another topic stay, its own go
part_stays : (name other : Bytes) → same_bytes other name ≡ false → (k : Key) → of_topic other k ≡ true → apart_from name k ≡ true
part_stays name other h k q = rw (apart_part name other k q, h)

part_goes : (name : Bytes) (k : Key) → apart_from name k ≡ true → of_topic name k ≡ false
part_goes name k h =
    not_true_false (of_topic name k) λ q.
    true_false (same_bytes_self name) (not-true (same_bytes name name) (rw (apart_part name name k q) at h))

module _ (l : List Entry) (ascends : Asc key l) (name : Bytes) (accurate : Accurate l) (premise : Premises l) where
  abbrev gone : Option Entry
  gone = get key (topic_key name) l

  abbrev left : List Entry
  left = map (clear_old_named gone) l

  delete_get : (a : Bytes)
      → get key (topic_key a) (on_real (delete_m name) l) ≡ cond (not (same_bytes a name)) (over (clear_old_named gone) (get key (topic_key a) l)) none
  unfolding on_real apart_from topic_of key_rank key_name rank
  delete_get a =
      get-keep key (apart_from name) (topic_key a) left (map_asc key key (clear_old_named gone) (key-clear_old_named gone) l ascends)
      ∙ ap (λ o. cond (not (same_bytes a name)) o none) (get-map key key (clear_old_named gone) (key-clear_old_named gone) (topic_key a) l)

  delete_agrees : (a : Bytes) → (a ≡ name → ⊥) → (o : Option Entry) → get key (topic_key a) l ≡ o → Agree o (partitions a l)
      → Agree (over (clear_old_named gone) o) (partitions a l)
  unfolding key
  delete_agrees a h none e agrees = agrees
  delete_agrees a h (some (part r)) e agrees = absurd agrees
  delete_agrees a h (some (plain r)) e agrees = absurd agrees
  delete_agrees a h (some (topic b i n f p)) e agrees = rw (clear_old_named_other gone b i n f p apart) agrees
    where
      apart : (c j : Bytes) (m g : ℕ) (q : Bool) → gone ≡ some (topic c j m g q) → same_bytes i j ≡ false
      apart c j m g q w = apart_same_bytes i j λ same.
          let its = get_in key (topic_key a) l (topic b i n f p) e in
          let its-gone = get_in key (topic_key name) l (topic c j m g q) w in
          let one = premise.ids b c i j n m f g p q same its.0 its-gone.0 in
          h (sym (same_name b a its.1) ∙ one ∙ same_name c name its-gone.1)

  pub delete_accurate : Accurate (on_real (delete_m name) l)
  delete_accurate a = rw (delete_get a) (go (same_bytes a name) refl)
    where
      none_left : partitions name (on_real (delete_m name) l) ≡ 0
      none_left = unfold on_real partitions in count_none key (of_topic name) (keep key (apart_from name) left)
          (all_imp (λ x. apart_from name (key x) ≡ true) (λ x. of_topic name (key x) ≡ false) (λ x h. part_goes name (key x) h)
          (keep key (apart_from name) left) (keep_all key (apart_from name) left))

      all_left : same_bytes a name ≡ false → partitions a (on_real (delete_m name) l) ≡ partitions a l
      all_left q = unfold on_real partitions in
          count-keep key (of_topic a) (apart_from name) (part_stays name a q) left
          ∙ count_map key key (clear_old_named gone) (key-clear_old_named gone) (of_topic a) l

      go : (b : Bool) → same_bytes a name ≡ b
          → Agree (cond (not b) (over (clear_old_named gone) (get key (topic_key a) l)) none) (partitions a (on_real (delete_m name) l))
      go true q = rw (same_bytes_true a name q) none_left
      go false q = rw (all_left q) (delete_agrees a (same_bytes_false a name q) (get key (topic_key a) l) refl (accurate a))

-- 5. Other entries, and a partition's directories

elsewhere_apart : (name : Bytes) (k : Key) → Elsewhere k → topic_key name ≡ k → ⊥
unfolding key_rank
elsewhere_apart name k a e = a.no_topic (sym (ap key_rank e))

pub put_accurate : (l : List Entry) (e : Entry) → Elsewhere (key e) → Accurate l → Accurate (put key e l)
unfolding partitions
put_accurate l e a accurate name =
    rw (
      get-put_other key (topic_key name) e (elsewhere_apart name (key e) a) l,
      count-put_other key (of_topic name) e (other_rank name (key e) a.no_partition) l,
    ) (accurate name)

pub remove_accurate : (l : List Entry) (k : Key) → Asc key l → Elsewhere k → Accurate l → Accurate (remove key k l)
unfolding partitions
remove_accurate l k ascends a accurate name =
    rw (
      get_remove_other key (topic_key name) k (elsewhere_apart name k a) l ascends,
      count-remove_other key (of_topic name) k (other_rank name k a.no_partition) l,
    ) (accurate name)

directories_agree : (k : Key) (v : Bytes) (o : Option Entry) (n : ℕ) → Agree o n → Agree (over (set_directories k v) o) n
unfolding set_directories
directories_agree k v none n h = h
directories_agree k v (some (topic name id m f p)) n h = h
directories_agree k v (some (part r)) n h = absurd h
directories_agree k v (some (plain r)) n h = absurd h

pub directories_accurate : (l : List Entry) (k : Key) (v : Bytes) → Accurate l → Accurate (on_real (directories_m k v) l)
unfolding on_real partitions
directories_accurate l k v accurate name =
    rw (
      get-map key key (set_directories k v) (key-directories k v) (topic_key name) l,
      count_map key key (set_directories k v) (key-directories k v) (of_topic name) l,
    )
    (directories_agree k v (get key (topic_key name) l) (partitions name l) (accurate name))
