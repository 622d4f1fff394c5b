-- Restored contents fit where the contents did.
use Rattle.std.specs.Prelude.{◌≡◌, Bool, cond, ℕ, zero, suc, ◌≤◌, ◌<◌}
use Rattle.std.proofs.Math.Path.{refl, ap}
use Rattle.std.proofs.Common.{sym, ◌∙◌, inl, inr}
use mathlib.Core.List.{List, [], ◌∷◌, map}
use Rattle.std.proofs.Math.Option.{Option, none, some}
use Rattle.std.proofs.Math.Bool.{true, false}
use native.Mathlib.Omega.{arith}
use Rattle.std.proofs.Math.Dec.{lit<}
use Rattle.model.specs.Choice.{given, total, folded}
use Rattle.model.specs.Number.{Bytes, AreBytes, span, is_negative}
use Rattle.model.specs.Order.{Key, same_bytes}
use Rattle.model.specs.Run.{Run, value}
use Rattle.model.specs.Kind.{kind_number}
use Rattle.model.specs.Shape.{rows_of, stored, shape_of, fault}
use Rattle.model.specs.Key.{topic_key}
use Rattle.model.specs.Map.{get, count}
use Rattle.model.specs.Contents.{Entry, topic, part, plain, flag_bytes, kept, key, Contents, partitions, size, names_id, weight}
use Rattle.model.specs.Move.{count_of, replicas, node_count}
use Rattle.model.specs.Snapshot.{last_factor, restored_factor, last_owner, owner_of, restored_entry, levels, less_one, restored_epoch, restored}
use Rattle.model.specs.declared.Kind.TheVariants.{Partition}
use Rattle.laws.specs.Choice.{impossible, and_left, and_right, over}
use Rattle.laws.specs.Order.{same_bytes_self, same_bytes_true}
use Rattle.laws.specs.Lists.{All, In, all_imp, all_map}
use Rattle.laws.specs.Numbers.{bytes_are_bytes}
use Rattle.laws.specs.Map.{map_asc, get-map, get_in}
use Rattle.laws.specs.Count.{count_map}
use Rattle.laws_records.specs.Stored.{topic_passes}
use Rattle.laws_records.specs.Faults.{fault-value}
use Rattle.laws_image.specs.Fits.{Readable, Proper, Fits}
use Rattle.laws_image.specs.Orderly.{Storable, names, Orderly, orderly, sound_orderly}
use Rattle.laws_image.specs.Tests.{capacity-most}
use Rattle.laws_restore.specs.Settled.{key-restored}
use Rattle.laws_restore.specs.Weight.{levels-total, partitions-total}
use Rattle.laws_restore.specs.Restored.{settled-room}

-- 1. Folds

module _ {A B : Type 0} (f : B → A → B) where
  -- what every step keeps
  folded_keeps : (P : B → Type 0) (l : List A) → All (λ x. (b : B) → P b → P (f b x)) l → (b : B) → P b → P (folded f b l)
  unfolding folded
  folded_keeps P [] u b h = h
  folded_keeps P (x ∷ l) u b h = folded_keeps P l u.1 (f b x) (u.0 b h)

  -- a step that forgets what came before it
  folded_forgets : (x : A) → ((a b : B) → f a x ≡ f b x) → (l : List A) → In x l → (a b : B) → folded f a l ≡ folded f b l
  unfolding folded
  folded_forgets x h [] x'' a b = elim x'' [ ]
  folded_forgets x h (y ∷ l) (inl e) a b = ap (λ z. folded f z l) (rw e at (h a b))
  folded_forgets x h (y ∷ l) (inr i) a b = folded_forgets x h l i (f a y) (f b y)

-- 2. Entries

-- a partition has at most 64 replicas
replicas_few : (r : Run) → fault stored Partition r ≡ 0 → node_count (replicas r) ≤ 64
unfolding rows_of shape_of kind_number
replicas_few r ok = (fault-value stored Partition r ok 4 refl refl).1

factor_fits : (name : Bytes) (factor : ℕ) (l : List Entry) → factor < span 2 → All Proper l → restored_factor name factor l < span 2
unfolding restored_factor last_factor kept
factor_fits name factor l h u =
    folded_keeps (last_factor name) (λ n. n < span 2) l
    (all_imp Proper (λ e. (n : ℕ) → n < span 2 → last_factor name n e < span 2) one l u) factor h
  where
    one : (e : Entry) → Proper e → (n : ℕ) → n < span 2 → last_factor name n e < span 2
    one (topic a i c f b) p n k = k
    one (part r) p n k = go (same_bytes (value 1 r) name)
      where
        go : (b : Bool) → cond b (node_count (replicas r)) n < span 2
        go true = omega (arith, replicas_few r p.readable.passes)
        go false = k
    one (plain r) p n k = k

flag_bytes_lem : (b : Bool) → AreBytes (flag_bytes b)
flag_bytes_lem true = (lit< tt, (lit< tt, (lit< tt, (lit< tt, (lit< tt, tt)))))
flag_bytes_lem false = (lit< tt, (lit< tt, (lit< tt, (lit< tt, (lit< tt, tt)))))

topic_readable : (name id : Bytes) (count factor c f : ℕ) (named b : Bool)
    → Readable (kept (topic name id count factor named)) → Readable (kept (topic name id c f b))
unfolding kept
topic_readable name id count factor c f named b r = record {
  passes = topic_passes name id count factor c f named b ∙ r.passes;
  fields =
      let g = r.fields in
      (g.0, g.1, (g.2.0, g.2.1, (lit< tt, bytes_are_bytes 4 c, (lit< tt, bytes_are_bytes 2 f, (lit< tt, flag_bytes_lem b, tt)))));
}

restored_proper : (l : List Entry) → All Proper l → total size l < span 4 → (e : Entry) → Proper e → Proper (restored_entry l e)
unfolding restored_entry
restored_proper l u small (topic name id count factor named) p =
    let most = restored_factor name factor l in
    let owns = same_bytes (owner_of id name l) name in
    record {
      readable = topic_readable name id count factor (partitions name l) most named owns p.readable;
      numbers = (omega (arith, partitions-total name l), factor_fits name factor l p.numbers.1 u);
    }
restored_proper l u small (part r) p = p
restored_proper l u small (plain r) p = p

restored-storable : (l : List Entry) (e : Entry) → Storable e → Storable (restored_entry l e)
unfolding restored_entry
restored-storable l (topic name id count factor named) s = tt
restored-storable l (part r) s = tt
restored-storable l (plain r) s = s

-- 3. Counts and ids

module _ (l : List Entry) where
  pub get-restored : (k : Key) → get key k (map (restored_entry l) l) ≡ over (restored_entry l) (get key k l)
  get-restored k = get-map key key (restored_entry l) (key-restored l) k l

  pub partitions-restored : (name : Bytes) → partitions name (map (restored_entry l) l) ≡ partitions name l
  unfolding partitions
  partitions-restored name = count_map key key (restored_entry l) (key-restored l) _ l

  restored-counts : (name : Bytes) → count_of (get key (topic_key name) (map (restored_entry l) l)) ≤ partitions name (map (restored_entry l) l)
  unfolding key restored_entry count_of
  restored-counts name = rw (get-restored (topic_key name), partitions-restored name) (go (get key (topic_key name) l) refl)
    where
      go : (o : Option Entry) → get key (topic_key name) l ≡ o → count_of (over (restored_entry l) o) ≤ partitions name l
      go none e = omega arith
      go (some (topic n i c f b)) e =
          let k = (get_in key (topic_key name) l (topic n i c f b) e).1 in
          let q : n ≡ name = cc in
          rw q (omega arith)
      go (some (part r)) e = omega arith
      go (some (plain r)) e = omega arith

  -- a topic that is named for an id owns it, whoever owned it before
  record Owns (id name : Bytes) : Type 0 where
    last : owner_of id name l ≡ name
    alone : (a b : Bytes) → owner_of id a l ≡ owner_of id b l

  names_owns : (id name : Bytes) → names id name (map (restored_entry l) l) ≡ true → Owns id name
  unfolding key restored_entry names_id owner_of last_owner
  names_owns id name h = go (get key (topic_key name) l) refl (rw (get-restored (topic_key name)) at h)
    where
      go : (o : Option Entry) → get key (topic_key name) l ≡ o → given (over (restored_entry l) o) false (names_id id) ≡ true → Owns id name
      go none e q = impossible cc
      go (some (topic n i c f b)) e q =
          let found = get_in key (topic_key name) l (topic n i c f b) e in
          let same : n ≡ name = let k = found.1 in cc in
          let last = same_bytes_true (owner_of i n l) n (and_left (same_bytes (owner_of i n l) n) (same_bytes i id) q) in
          let mine = same_bytes_true i id (and_right (same_bytes (owner_of i n l) n) (same_bytes i id) q) in
          record {
            last = rw (mine, same) at last;
            alone = folded_forgets (last_owner id) (topic n i c f b) (λ x y. rw (mine, same_bytes_self id)) l found.0;
          }
      go (some (part r)) e q = impossible cc
      go (some (plain r)) e q = impossible cc

  restored-named : (id a b : Bytes) → names id a (map (restored_entry l) l) ≡ true → names id b (map (restored_entry l) l) ≡ true → a ≡ b
  restored-named id a b p q = let x = names_owns id a p in let y = names_owns id b q in sym x.last ∙ x.alone a b ∙ y.last

-- 4. Contents

pub restored_orderly : (c : Contents) → Orderly c → Orderly (restored c)
unfolding restored
restored_orderly c o =
    let l = c.real in
    record {
      ascends = map_asc key key (restored_entry l) (key-restored l) l o.ascends;
      storables = all_map Storable Storable (restored_entry l) (restored-storable l) l o.storables;
      counts = restored-counts l;
      named = restored-named l;
      empties_ascend = tt;
      groups = tt;
      vacant = tt;
    }

epoch_fits : (n e : ℕ) → n < span 8 → e < span 8 → restored_epoch n e < span 8
unfolding restored_epoch
epoch_fits n e h k = go (is_negative 8 e)
  where
    less : (m : ℕ) → m < span 8 → less_one m < span 8
    less zero q = unfold less_one in lit< tt
    less (suc m) q = unfold less_one in omega arith

    go : (b : Bool) → cond b (less_one n) e < span 8
    go true = less n h
    go false = k

pub restored_fits : (capacity : ℕ) (c : Contents) → Fits capacity c → Fits capacity (restored c)
unfolding restored weight
restored_fits capacity c fits =
    let l = c.real in
    let small : total size l ≤ 65536 = omega (arith, fits.room, capacity-most capacity fits.within) in
    record {
      within = fits.within;
      entries = all_map Proper Proper (restored_entry l) (restored_proper l fits.entries (omega arith)) l fits.entries;
      groups = tt;
      orderly = sound_orderly (restored c) (restored_orderly c (orderly c fits.orderly));
      epoch = epoch_fits (levels l) c.fixed.epoch (omega (arith, levels-total l)) fits.epoch;
      kraft = fits.kraft;
      offset = fits.offset;
      room = settled-room capacity c fits;
    }
