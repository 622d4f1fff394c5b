-- A restore leaves settled contents as they are.
use mathlib.Core.Path.{◌≡◌, refl, sym}
use mathlib.Core.Bool.{Bool, true, false, cond, ◌&&◌}
use mathlib.Core.List.{List, [], map}
use Prim.Native.Nat.{ℕ, ◌-◌}
use borrow.Author.Tests.{eqb-true}
use lib.Dec.{eqb}
use Rattle.model.specs.Choice.{every}
use Rattle.model.specs.Number.{Bytes, span, is_negative}
use Rattle.model.specs.Order.{same_bytes}
use Rattle.model.specs.Contents.{Entry, topic, part, plain, key, Contents, partitions, names_id}
use Rattle.model.specs.Snapshot.{restored_factor, last_owner, owner_of, restored_entry, levels, less_one, restored_epoch, restored}
use Rattle.laws.specs.Choice.{and_left, and_right}
use Rattle.laws.specs.Order.{same_bytes_self, same_bytes_true}
use Rattle.laws.specs.Lists.{In, all_in, in_all, every_true, map_same, folded-still}
use Rattle.laws.specs.Map.{in_get}
use Rattle.laws_image.specs.Orderly.{names, Orderly}
use Rattle.restore_settled.specs.Settled.{settled_entry}

module _ (c : Contents) (o : Orderly c) (all : every (settled_entry c.real) c.real ≡ true) where
  abbrev l : List Entry
  l = c.real

  -- what is asked of a topic
  module _ (name id : Bytes) (n f : ℕ) (p : Bool) (i : In (topic name id n f p) l) where
    settled : p && eqb n (partitions name l) && eqb f (restored_factor name f l) ≡ true
    unfolding settled_entry
    settled = in_all (λ e. settled_entry l e ≡ true) l (every_true (settled_entry l) l all) (topic name id n f p) i

    both : p && eqb n (partitions name l) ≡ true
    both = and_left (p && eqb n (partitions name l)) (eqb f (restored_factor name f l)) settled

    named : p ≡ true
    named = and_left p (eqb n (partitions name l)) both

    count : n ≡ partitions name l
    count = eqb-true n (partitions name l) (and_right p (eqb n (partitions name l)) both)

    factor : f ≡ restored_factor name f l
    factor = eqb-true f (restored_factor name f l) (and_right (p && eqb n (partitions name l)) (eqb f (restored_factor name f l)) settled)

    owns : names id name l ≡ true
    unfolding key names_id
    owns = rw (in_get key l o.ascends (topic name id n f p) i, named, same_bytes_self id)

  module _ (name id : Bytes) (n f : ℕ) (p : Bool) (i : In (topic name id n f p) l) where
    same_owner : (e : Entry) → In e l → last_owner id name e ≡ name
    unfolding last_owner
    same_owner (part r) k = refl
    same_owner (plain r) k = refl
    same_owner (topic a j m g q) k = go (same_bytes j id) refl
      where
        go : (b : Bool) → same_bytes j id ≡ b → cond b a name ≡ name
        go true e = o.named id a name (rw (same_bytes_true j id e) at (owns a j m g q k)) (owns name id n f p i)
        go false e = refl

    owner : owner_of id name l ≡ name
    unfolding owner_of
    owner = folded-still (last_owner id) name l (all_in (λ e. last_owner id name e ≡ name) l same_owner)

  same_entry : (e : Entry) → In e l → restored_entry l e ≡ e
  unfolding restored_entry
  same_entry (part r) i = refl
  same_entry (plain r) i = refl
  same_entry (topic name id n f p) i =
      cc (count name id n f p i, factor name id n f p i, named name id n f p i, owner name id n f p i, same_bytes_self name)

  entries-still : map (restored_entry l) l ≡ l
  entries-still = map_same (restored_entry l) l (all_in (λ e. restored_entry l e ≡ e) l same_entry)

  -- the whole: no empty group, and an epoch that is not negative, or is -1 where there is no level
  pub still : c.empties ≡ [] → restored_epoch (levels l) c.fixed.epoch ≡ c.fixed.epoch → restored c ≡ c
  unfolding restored
  still none epoch = λ i. record {
    real = entries-still i;
    empties = sym none i;
    fixed = record { epoch = epoch i; kraft = c.fixed.kraft; offset = c.fixed.offset };
  }

pub epoch_raised : (n e : ℕ) → is_negative 8 e ≡ false → restored_epoch n e ≡ e
unfolding restored_epoch
epoch_raised n e h = rw h refl

pub epoch_unraised : (n e : ℕ) → n ≡ 0 → e ≡ span 8 - 1 → restored_epoch n e ≡ e
unfolding restored_epoch less_one
epoch_unraised n e h first = go (is_negative 8 e)
  where
    go : (b : Bool) → cond b (less_one n) e ≡ e
    go true = rw h (sym first)
    go false = refl
