-- What holds of contents along a history that meets the premises, so that a restore changes neither their entries nor their fixed parts.
use Rattle.std.specs.Prelude.{◌≡◌, List, [], ◌∷◌, map, Bool, not, ℕ, ◌-◌}
use Rattle.std.proofs.Math.Path.{refl}
use Rattle.std.proofs.Common.{sym, inl, inr, eqb-true}
use Rattle.std.proofs.Math.Option.{Option, none, some}
use Rattle.std.proofs.Math.Bool.{true, false, cond}
use Rattle.std.proofs.lemmas.Bool.{not-true}
use Rattle.model.specs.Choice.{every}
use Rattle.model.specs.Number.{Bytes, span, is_negative}
use Rattle.model.specs.Order.{same_bytes}
use Rattle.model.specs.Run.{Run}
use Rattle.model.specs.Key.{topic_key}
use Rattle.model.specs.Map.{get, count}
use Rattle.model.specs.Contents.{Entry, topic, part, plain, key, Contents, fresh, partitions}
use Rattle.model.specs.Move.{partition_topic, replicas, node_count}
use Rattle.model.specs.Snapshot.{last_factor, restored_factor, last_owner, owner_of, restored_entry, is_level, levels, less_one, restored_epoch, restored}
use Rattle.model.specs.History.{has_id, ids_apart, factor_is, factor_holds, premises}
use Rattle.laws.specs.Choice.{true_false, and_left, and_right}
use Rattle.laws.specs.Order.{same_bytes_self, same_bytes_true}
use Rattle.laws.specs.Lists.{All, In, all_in, in_all, every_true, map_same, folded-still, nil}
use Rattle.laws.specs.Map.{Asc, in_get}
use Rattle.laws.specs.Count.{count_none}
use Rattle.history.specs.Like.{Like}

-- 1. The premises on entries, as relations between two of them

-- topics of one id have one name; a partition has its topic's replication factor of replicas
pub record Premises (l : List Entry) : Type 0 where
  pub ids : (a b i j : Bytes) (m n f g : ℕ) (p q : Bool) → i ≡ j → In (topic a i m f p) l → In (topic b j n g q) l → a ≡ b
  pub factors : (r : Run) (id : Bytes) (n f : ℕ) (p : Bool)
      → In (part r) l → get key (topic_key (partition_topic r)) l ≡ some (topic (partition_topic r) id n f p) → node_count (replicas r) ≡ f

apart_tail : (x : Entry) (l : List Entry) → ids_apart (x ∷ l) ≡ true → ids_apart l ≡ true
unfolding ids_apart
apart_tail (topic name id n f p) l h = and_right (every (λ e. not (has_id id e)) l) (ids_apart l) h
apart_tail (part r) l h = h
apart_tail (plain r) l h = h

apart_head : (name id : Bytes) (n f : ℕ) (p : Bool) (l : List Entry) → ids_apart (topic name id n f p ∷ l) ≡ true
    → (other : Bytes) (m g : ℕ) (q : Bool) → In (topic other id m g q) l → ⊥
unfolding ids_apart has_id
apart_head name id n f p l h other m g q i =
    let none_has = every_true (λ e. not (has_id id e)) l (and_left (every (λ e. not (has_id id e)) l) (ids_apart l) h) in
    let apart = in_all (λ e. not (has_id id e) ≡ true) l none_has (topic other id m g q) i in
    true_false (same_bytes_self id) (not-true (same_bytes id id) apart)

apart_names : (l : List Entry) → ids_apart l ≡ true
    → (a b id : Bytes) (m n f g : ℕ) (p q : Bool) → In (topic a id m f p) l → In (topic b id n g q) l → a ≡ b
apart_names [] h a b id m n f g p q x3 _ = elim x3 [ ]
apart_names (x ∷ l) h a b id m n f g p q (inl d) (inl e) = cc
apart_names (x ∷ l) h a b id m n f g p q (inl d) (inr j) = absurd (apart_head a id m f p l (rw d h) b n g q j)
apart_names (x ∷ l) h a b id m n f g p q (inr i) (inl e) = absurd (apart_head b id n g q l (rw e h) a m f p i)
apart_names (x ∷ l) h a b id m n f g p q (inr i) (inr j) = apart_names l (apart_tail x l h) a b id m n f g p q i j

pub premises_hold : (c : Contents) → premises c ≡ true → Premises c.real
unfolding premises factor_holds factor_is
premises_hold c h =
    let l = c.real in
    let each = every_true (factor_holds l) l (and_right (ids_apart l) (every (factor_holds l) l) h) in
    record {
      ids = λ a b i j m n f g p q e. rw e (apart_names l (and_left (ids_apart l) (every (factor_holds l) l) h) a b j m n f g p q);
      factors = λ r id n f p i e.
          let one = in_all (λ x. factor_holds l x ≡ true) l each (part r) i in
          sym (eqb-true f (node_count (replicas r)) (rw e at one));
    }

-- 2. Good contents

-- a topic counts its stored partitions and the id index names it for its id; a name without a topic has no partitions
abbrev pub Agree : Option Entry → ℕ → Type 0
Agree none n = n ≡ 0
Agree (some (topic name id count factor named)) n = (count ≡ n) × (named ≡ true)
Agree (some (part r)) n = ⊥
Agree (some (plain r)) n = ⊥

abbrev pub Accurate : List Entry → Type 0
Accurate l = (name : Bytes) → Agree (get key (topic_key name) l) (partitions name l)

abbrev pub NoLevels : List Entry → Type 0
NoLevels l = All (λ e. is_level (key e) ≡ false) l

-- the epoch is negative only at the start: it is -1, and there is no level
pub record Unraised (e : ℕ) (l : List Entry) : Type 0 where
  pub first : e ≡ span 8 - 1
  pub no_levels : NoLevels l

abbrev pub Early : ℕ → List Entry → Type 0
Early e l = is_negative 8 e ≡ true → Unraised e l

pub record Good (c : Contents) : Type 0 where
  pub accurate : Accurate c.real
  pub early : Early c.fixed.epoch c.real

pub good_fresh : Good fresh
unfolding get partitions count
good_fresh = record { accurate = λ name. refl; early = λ h. record { first = refl; no_levels = tt } }

-- 3. A restore changes no entry

module _ (l : List Entry) (ascends : Asc key l) (accurate : Accurate l) (premise : Premises l) where
  module _ (name id : Bytes) (n f : ℕ) (p : Bool) (i : In (topic name id n f p) l) where
    found : get key (topic_key name) l ≡ some (topic name id n f p)
    unfolding key
    found = in_get key l ascends (topic name id n f p) i

    same_factor : (e : Entry) → In e l → last_factor name f e ≡ f
    unfolding last_factor
    same_factor (topic a j m g q) k = refl
    same_factor (plain r) k = refl
    same_factor (part r) k = go (same_bytes (partition_topic r) name) refl
      where
        go : (b : Bool) → same_bytes (partition_topic r) name ≡ b → cond b (node_count (replicas r)) f ≡ f
        go true e = premise.factors r id n f p k (rw (same_bytes_true (partition_topic r) name e) found)
        go false e = refl

    same_owner : (e : Entry) → In e l → last_owner id name e ≡ name
    unfolding last_owner
    same_owner (part r) k = refl
    same_owner (plain r) k = refl
    same_owner (topic a j m g q) k = go (same_bytes j id) refl
      where
        go : (b : Bool) → same_bytes j id ≡ b → cond b a name ≡ name
        go true e = premise.ids a name j id m n g f q p (same_bytes_true j id e) k i
        go false e = refl

    restored_factor_lem : restored_factor name f l ≡ f
    unfolding restored_factor
    restored_factor_lem = folded-still (last_factor name) f l (all_in (λ e. last_factor name f e ≡ f) l same_factor)

    restored_owner : owner_of id name l ≡ name
    unfolding owner_of
    restored_owner = folded-still (last_owner id) name l (all_in (λ e. last_owner id name e ≡ name) l same_owner)

  same_entry : (e : Entry) → In e l → restored_entry l e ≡ e
  unfolding restored_entry
  same_entry (part r) i = refl
  same_entry (plain r) i = refl
  same_entry (topic name id n f p) i =
      let agrees : (n ≡ partitions name l) × (p ≡ true) = rw (found name id n f p i) at (accurate name) in
      cc (agrees.0, agrees.1, restored_factor_lem name id n f p i, restored_owner name id n f p i, same_bytes_self name)

  pub entries-still : map (restored_entry l) l ≡ l
  entries-still = map_same (restored_entry l) l (all_in (λ e. restored_entry l e ≡ e) l same_entry)

pub epoch-still : (e : ℕ) (l : List Entry) → Early e l → restored_epoch (levels l) e ≡ e
unfolding restored_epoch less_one
epoch-still e l h = go (is_negative 8 e) refl
  where
    none-counted : NoLevels l → levels l ≡ 0
    none-counted u = unfold levels in count_none key is_level l u

    go : (b : Bool) → is_negative 8 e ≡ b → cond b (less_one (levels l)) e ≡ e
    go true q = let u = h q in rw (none-counted u.no_levels) (sym u.first)
    go false q = refl

-- what is restored of contents like good ones is like them too: only empty groups are gone
pub like_restored : (u c : Contents) → Asc key u.real → Good u → Premises u.real → Like u c → Like u (restored c)
unfolding restored
like_restored u c ascends good premise k = record {
  real = rw k.real (entries-still u.real ascends good.accurate premise);
  fixed =
      rw (k.real, k.fixed)
      (λ i. record { epoch = epoch-still u.fixed.epoch u.real good.early i; kraft = u.fixed.kraft; offset = u.fixed.offset });
  empties = nil;
}
