-- How keys stand to those of a topic's partitions: later keys stand no lower, and to a later topic all stand lower.
use mathlib.Core.Path.{◌≡◌, refl, sym, ap, ◌∙◌}
use mathlib.Core.List.{List, [], ◌∷◌}
use mathlib.Core.Bool.{Bool, true, false, cond, ◌&&◌}
use Prim.Native.Nat.{ℕ, suc, ◌≤◌, ◌<◌, compare, Ordering}
use native.Mathlib.Omega.{arith}
use borrow.Author.Tests.{eq-eqb, ne_eqb}
use lib.Dec.{eqb}
use Rattle.model.specs.Number.{Bytes}
use Rattle.model.specs.Order.{Key, then_by, compare_bytes, compare_keys, ordering, is_same, same_bytes}
use Rattle.model.specs.Run.{value}
use Rattle.model.specs.Record.{Rec}
use Rattle.model.specs.Key.{rank, subject, key_of, key_rank, key_name}
use Rattle.model.specs.Map.{count}
use Rattle.model.specs.Contents.{record_key, of_topic}
use Rattle.model.specs.declared.Kind.TheVariants.{Partition}
use Rattle.std.specs.declared.cmp.Ordering.{Ordering as Order}
use Rattle.laws.specs.Choice.{impossible}
use Rattle.laws.specs.Order.{lt≢eq, lt≢gt, compare-lt, compare_eq, compare_gt, lt-compare, gt_compare, eq_compare, lt_gt, gt_lt, bytes-total, Lt, lt-rank}
use Rattle.laws.specs.Lists.{all_imp}
use Rattle.laws.specs.Map.{Over}
use Rattle.laws.specs.Count.{count_none}
use Rattle.laws_image.specs.Ranks.{rank_injective, key_rank_lem}
use Rattle.keys.specs.Keys.{kind_in, run_in, rank_of, key_in, Keyed}
use Rattle.image_counts.specs.Counts.{beside_topic}

-- 1. Byte strings

-- what is not below a string that is above x is above x
above_keeps : (x a b : Bytes) → (compare_bytes b a ≡ Ordering.lt → ⊥) → compare_bytes a x ≡ Ordering.gt → compare_bytes b x ≡ Ordering.gt
above_keeps x a b h g = go (compare_bytes a b) refl
  where
    go : (o : Ordering) → compare_bytes a b ≡ o → compare_bytes b x ≡ Ordering.gt
    go Ordering.lt e = lt_gt bytes-total x b (bytes-total.step x a b (gt_lt bytes-total a x g) e)
    go Ordering.eq e = ap (λ z. compare_bytes z x) (sym (bytes-total.eqv a b e)) ∙ g
    go Ordering.gt e = absurd (h (gt_lt bytes-total a b e))

-- what is not above a string that is below y is below y
below_keeps : (x y a : Bytes) → compare_bytes x y ≡ Ordering.lt → (compare_bytes a x ≡ Ordering.gt → ⊥) → compare_bytes a y ≡ Ordering.lt
below_keeps x y a l h = go (compare_bytes a x) refl
  where
    go : (o : Ordering) → compare_bytes a x ≡ o → compare_bytes a y ≡ Ordering.lt
    go Ordering.lt e = bytes-total.step a x y e l
    go Ordering.eq e = ap (λ z. compare_bytes z y) (bytes-total.eqv a x e) ∙ l
    go Ordering.gt e = absurd (h e)

-- 2. Keys that begin with a rank

-- keys that begin alike ascend by name
names_ascend : (p : Bytes) (a b : Key) → compare_keys a b ≡ Ordering.lt → compare_bytes (key_name (p ∷ b)) (key_name (p ∷ a)) ≡ Ordering.lt → ⊥
unfolding compare_keys compare_bytes key_name
names_ascend p [] [] h g = lt≢eq (sym h)
names_ascend p [] ([] ∷ b) h g = lt≢eq (sym g)
names_ascend p [] ((x ∷ q) ∷ b) h g = lt≢gt (sym g)
names_ascend p (x ∷ a) [] h g = lt≢gt (sym h)
names_ascend p (x ∷ a) (y ∷ b) h g = lt≢gt (sym h ∙ ap (λ o. then_by o (compare_keys a b)) (lt_gt bytes-total y x g))

pub same_start : (p : Bytes) (a b : Key) → compare_keys (p ∷ a) (p ∷ b) ≡ compare_keys a b
unfolding compare_keys
same_start p a b = ap (λ o. then_by o (compare_keys a b)) (bytes-total.same p)

module _ (name : Bytes) where
  beside-ascends : (n m : ℕ) (a b : Key) → Lt ((n ∷ []) ∷ a) ((m ∷ []) ∷ b) → beside_topic name ((n ∷ []) ∷ a) ≡ Ordering.gt
      → beside_topic name ((m ∷ []) ∷ b) ≡ Ordering.gt
  unfolding beside_topic key_rank key_name
  beside-ascends n m a b h = go (compare n (rank Partition)) (compare m (rank Partition)) refl refl
    where
      low : n ≤ m
      low = lt-rank h

      go : (o p : Ordering) → compare n (rank Partition) ≡ o → compare m (rank Partition) ≡ p
          → then_by o (compare_bytes (key_name ((n ∷ []) ∷ a)) name) ≡ Ordering.gt
          → then_by p (compare_bytes (key_name ((m ∷ []) ∷ b)) name) ≡ Ordering.gt
      go Ordering.lt p e f g = impossible cc
      go Ordering.eq Ordering.lt e f g = absurd (omega (arith, low, compare_eq n (rank Partition) e, compare-lt m (rank Partition) f))
      go Ordering.eq Ordering.eq e f g =
          let same : m ≡ n = compare_eq m (rank Partition) f ∙ sym (compare_eq n (rank Partition) e) in
          let up : Lt ((n ∷ []) ∷ a) ((n ∷ []) ∷ b) = rw same at h in
          above_keeps name (key_name ((n ∷ []) ∷ a)) (key_name ((n ∷ []) ∷ b)) (names_ascend (n ∷ []) a b (sym (same_start (n ∷ []) a b) ∙ up.is)) g
      go Ordering.eq Ordering.gt e f g = refl
      go Ordering.gt Ordering.lt e f g = absurd (omega (arith, low, compare_gt n (rank Partition) e, compare-lt m (rank Partition) f))
      go Ordering.gt Ordering.eq e f g = absurd (omega (arith, low, compare_gt n (rank Partition) e, compare_eq m (rank Partition) f))
      go Ordering.gt Ordering.gt e f g = refl

  -- records' keys begin with a rank
  pub later-after : (r q : Rec) → Lt (record_key r) (record_key q) → beside_topic name (record_key r) ≡ Ordering.gt
      → beside_topic name (record_key q) ≡ Ordering.gt
  unfolding key_of
  later-after r q h = beside-ascends (rank r.kind) (rank q.kind) (subject r.kind r.run) (subject q.kind q.run) h

  -- what is not after a topic's partitions is before those of a later one
  pub before-later : (other : Bytes) (k : Key) → compare_bytes name other ≡ Ordering.lt → (beside_topic name k ≡ Ordering.gt → ⊥)
      → beside_topic other k ≡ Ordering.lt
  unfolding beside_topic
  before-later other k l = go (compare (key_rank k) (rank Partition))
    where
      go : (o : Ordering) → (then_by o (compare_bytes (key_name k) name) ≡ Ordering.gt → ⊥) → then_by o (compare_bytes (key_name k) other) ≡ Ordering.lt
      go Ordering.lt h = refl
      go Ordering.eq h = below_keeps name other (key_name k) l h
      go Ordering.gt h = absurd (h refl)

  pub of_beside : (k : Key) → of_topic name k ≡ is_same (beside_topic name k)
  unfolding beside_topic of_topic same_bytes
  of_beside k = go (compare (key_rank k) (rank Partition)) refl
    where
      go : (o : Ordering) → compare (key_rank k) (rank Partition) ≡ o
          → eqb (key_rank k) (rank Partition) && is_same (compare_bytes (key_name k) name) ≡ is_same (then_by o (compare_bytes (key_name k) name))
      go Ordering.lt e = rw (ne_eqb _ _ (λ (q : key_rank k ≡ rank Partition). omega (arith, compare-lt (key_rank k) (rank Partition) e)))
      go Ordering.eq e = rw (eq-eqb _ _ (compare_eq (key_rank k) (rank Partition) e))
      go Ordering.gt e = rw (ne_eqb _ _ (λ (q : key_rank k ≡ rank Partition). omega (arith, compare_gt (key_rank k) (rank Partition) e)))

-- 3. Counting

count-passed : (test : Key → Bool) (r : Rec) (l : List Rec) (b : Bool) → test (record_key r) ≡ b
    → count record_key test (r ∷ l) ≡ cond b (suc (count record_key test l)) (count record_key test l)
unfolding count
count-passed test r l b e = rw e

module _ (name : Bytes) (r : Rec) (l : List Rec) where
  told : (o : Ordering) → beside_topic name (record_key r) ≡ o → of_topic name (record_key r) ≡ is_same o
  told o e = of_beside name (record_key r) ∙ ap is_same e

  pub count_before_lem : beside_topic name (record_key r) ≡ Ordering.lt → count record_key (of_topic name) (r ∷ l) ≡ count record_key (of_topic name) l
  count_before_lem e = count-passed (of_topic name) r l false (told Ordering.lt e)

  pub count_among : beside_topic name (record_key r) ≡ Ordering.eq → count record_key (of_topic name) (r ∷ l) ≡ suc (count record_key (of_topic name) l)
  count_among e = count-passed (of_topic name) r l true (told Ordering.eq e)

  -- behind an entry that stands after them there are none
  pub count-after : beside_topic name (record_key r) ≡ Ordering.gt → Over record_key (record_key r) l → count record_key (of_topic name) (r ∷ l) ≡ 0
  count-after e over = count_none record_key (of_topic name) (r ∷ l) (told Ordering.gt e, all_imp _ _ later l over)
    where
      later : (q : Rec) → Lt (record_key r) (record_key q) → of_topic name (record_key q) ≡ false
      later q h = of_beside name (record_key q) ∙ ap is_same (later-after name r q h e)

  -- an entry that does not stand after them is no partition of a later topic
  pub count-later : (other : Bytes) → compare_bytes name other ≡ Ordering.lt → (beside_topic name (record_key r) ≡ Ordering.gt → ⊥)
      → count record_key (of_topic other) (r ∷ l) ≡ count record_key (of_topic other) l
  count-later other up h =
      count-passed (of_topic other) r l false (of_beside other (record_key r) ∙ ap is_same (before-later name other (record_key r) up h))

-- 4. By an entry's bytes

module _ (name s : Bytes) (keyed : Keyed s) (n : ℕ) (e : n ≡ rank_of (kind_in s)) where
  key_of_lem : key_in s ≡ key_of keyed.kind (run_in s)
  unfolding key_in
  key_of_lem = rw keyed.known

  rank_is : key_rank (key_in s) ≡ n
  unfolding rank_of
  rank_is = ap key_rank key_of_lem ∙ key_rank_lem keyed.kind (run_in s) ∙ sym (e ∙ rw keyed.known)

  -- the rank decides where it is not that of partitions
  by_rank : (o : Ordering) → compare n 5 ≡ o → beside_topic name (key_in s) ≡ then_by o (compare_bytes (key_name (key_in s)) name)
  unfolding beside_topic rank
  by_rank o h = ap (λ x. then_by x (compare_bytes (key_name (key_in s)) name)) (ap (λ x. compare x 5) rank_is ∙ h)

  pub beside_low : n < 5 → Ordering.lt ≡ beside_topic name (key_in s)
  beside_low h = sym (by_rank Ordering.lt (lt-compare n 5 h))

  pub beside_high : 5 < n → Ordering.gt ≡ beside_topic name (key_in s)
  beside_high h = sym (by_rank Ordering.gt (gt_compare n 5 h))

  named : n ≡ 5 → key_name (key_in s) ≡ value 1 (run_in s)
  unfolding key_of key_name subject rank
  named h =
      let p : keyed.kind ≡ Partition = rank_injective keyed.kind Partition (sym (key_rank_lem keyed.kind (run_in s)) ∙ ap key_rank (sym key_of_lem) ∙ rank_is ∙ h) (omega arith) in
      rw (key_of_lem, p)

  pub beside-named : 5 ≤ n → n ≤ 5 → (v : Bytes) (o : Order) → v ≡ value 1 (run_in s) → ordering o ≡ compare_bytes v name
      → ordering o ≡ beside_topic name (key_in s)
  beside-named low high v o is says =
      let h : n ≡ 5 = omega arith in
      says ∙ ap (λ x. compare_bytes x name) (is ∙ sym (named h)) ∙ sym (by_rank Ordering.eq (eq_compare n 5 h))
