-- A change of the one entry of a key is that entry put anew.
use mathlib.Core.Path.{◌≡◌, refl, sym, ap, ap₂, ◌∙◌}
use mathlib.Core.List.{List, [], ◌∷◌, map}
use mathlib.Core.Option.{none, some}
use Prim.Native.Nat.{Ordering}
use native.Mathlib.Omega.{arith}
use Rattle.model.specs.Choice.{choose}
use Rattle.model.specs.Number.{Bytes}
use Rattle.model.specs.Order.{Key, compare_keys}
use Rattle.model.specs.Run.{Run, set_field}
use Rattle.model.specs.Key.{key_of, subject}
use Rattle.model.specs.Map.{put, get}
use Rattle.model.specs.Contents.{Entry, topic, part, plain, key}
use Rattle.model.specs.Move.{set_directories}
use Rattle.model.specs.declared.Kind.TheVariants.{Partition}
use Rattle.laws.specs.Choice.{impossible}
use Rattle.laws.specs.Order.{Lt, lt_ne, gt_flip, keys_total, apart_same_keys, same_keys_self}
use Rattle.laws.specs.Lists.{all_imp, map_same}
use Rattle.laws.specs.Map.{Asc}
use Rattle.laws_records.specs.Fields.{value-set_other}

-- over any elements with a key
module _ {E : Type 0} (keyed : E → Key) (k : Key) (f : E → E) (still : (y : E) → (keyed y ≡ k → ⊥) → f y ≡ y) (e x : E) (same : keyed e ≡ k)
    (is : f x ≡ e) where
  pub map-one : (l : List E) → Asc keyed l → get keyed k l ≡ some x → map f l ≡ put keyed e l
  unfolding get put
  map-one [] a g = impossible cc
  map-one (y ∷ l) a g = rw same (go (compare_keys k (keyed y)) refl g (map-one l a.1))
    where
      go : (o : Ordering) → compare_keys k (keyed y) ≡ o → choose o none (some y) (get keyed k l) ≡ some x
          → (get keyed k l ≡ some x → map f l ≡ put keyed e l) → f y ∷ map f l ≡ choose o (e ∷ y ∷ l) (e ∷ l) (y ∷ put keyed e l)
      go Ordering.lt q t i = impossible cc
      go Ordering.eq q t i =
          let yx : y ≡ x = cc in
          let ky : k ≡ keyed y = keys_total.eqv k (keyed y) q in
          let rest : map f l ≡ l =
          map_same f l (all_imp (λ z. Lt (keyed y) (keyed z)) (λ z. f z ≡ z) (λ z h. still z (λ p. lt_ne h (sym ky ∙ sym p))) l a.0) in
          ap₂ (λ u v. u ∷ v) (ap f yx ∙ is) rest
      go Ordering.gt q t i = ap₂ (λ u v. u ∷ v) (still y (lt_ne (gt_flip k (keyed y) q))) (i t)

-- the directories of the one partition of a key
module _ (p : Run) (v : Bytes) where
  key-kept : key (part (set_field 9 v p)) ≡ key_of Partition p
  unfolding key key_of subject
  key-kept = rw (value-set_other 9 v 1 (λ e. omega arith) p, value-set_other 9 v 2 (λ e. omega arith) p)

  others-still : (y : Entry) → (key y ≡ key_of Partition p → ⊥) → set_directories (key_of Partition p) v y ≡ y
  unfolding set_directories key
  others-still (topic name id count factor named) h = refl
  others-still (part r) h = rw (apart_same_keys (key_of Partition r) (key_of Partition p) h)
  others-still (plain r) h = refl

  this_set : set_directories (key_of Partition p) v (part p) ≡ part (set_field 9 v p)
  unfolding set_directories
  this_set = rw (same_keys_self (key_of Partition p))

  pub directories-put : (l : List Entry) → Asc key l → get key (key_of Partition p) l ≡ some (part p)
      → map (set_directories (key_of Partition p) v) l ≡ put key (part (set_field 9 v p)) l
  directories-put =
      map-one key (key_of Partition p) (set_directories (key_of Partition p) v) others-still (part (set_field 9 v p)) (part p) key-kept this_set
