-- Total orders as three-way comparisons: numbers, lists, byte strings, keys.
use Rattle.std.specs.Prelude.{◌≡◌, refl, List, [], ◌∷◌, ◌++◌, true, false, ◌⊎◌}
use Rattle.std.proofs.Common.{sym, ◌∙◌, ap, inl, inr, arith}
use Prim.Native.Nat.compare
use Prim.Native.Nat.{ℕ, zero, suc, ◌≤◌, ◌<◌, compare, Ordering}
use Rattle.model.specs.Number.{Bytes}
use Rattle.model.specs.Order.{then_by, lexicographic, compare_bytes, Key, compare_keys, is_below, is_same, same_bytes}
use Rattle.model.specs.Key.{key_rank}
use Rattle.laws.specs.Choice.{impossible, true_false, not_true_false}

-- 1. Comparisons' results

-- seen from the other side
abbrev pub swapped : Ordering → Ordering
swapped Ordering.lt = Ordering.gt
swapped Ordering.eq = Ordering.eq
swapped Ordering.gt = Ordering.lt

pub lt≢eq : Ordering.lt ≡ Ordering.eq → ⊥
lt≢eq p = impossible cc

pub lt≢gt : Ordering.lt ≡ Ordering.gt → ⊥
lt≢gt p = impossible cc

pub eq≢gt : Ordering.eq ≡ Ordering.gt → ⊥
eq≢gt p = impossible cc

pub is_below_true : (o : Ordering) → is_below o ≡ true → o ≡ Ordering.lt
is_below_true Ordering.lt h = refl
is_below_true Ordering.eq h = impossible cc
is_below_true Ordering.gt h = impossible cc

pub is_same_true : (o : Ordering) → is_same o ≡ true → o ≡ Ordering.eq
is_same_true Ordering.lt h = impossible cc
is_same_true Ordering.eq h = refl
is_same_true Ordering.gt h = impossible cc

pub is_same-swapped : (o : Ordering) → is_same (swapped o) ≡ is_same o
is_same-swapped Ordering.lt = refl
is_same-swapped Ordering.eq = refl
is_same-swapped Ordering.gt = refl

pub then_by_eq : (o : Ordering) → then_by o Ordering.eq ≡ o
then_by_eq Ordering.lt = refl
then_by_eq Ordering.eq = refl
then_by_eq Ordering.gt = refl

pub then_by_assoc : (o p q : Ordering) → then_by (then_by o p) q ≡ then_by o (then_by p q)
then_by_assoc Ordering.lt p q = refl
then_by_assoc Ordering.eq p q = refl
then_by_assoc Ordering.gt p q = refl

-- 2. The laws of a total order

pub record Total (A : Type 0) (order : A → A → Ordering) : Type 0 where
  pub same : (a : A) → order a a ≡ Ordering.eq
  pub eqv : (a b : A) → order a b ≡ Ordering.eq → a ≡ b
  pub flip : (a b : A) → order b a ≡ swapped (order a b)
  pub step : (a b c : A) → order a b ≡ Ordering.lt → order b c ≡ Ordering.lt → order a c ≡ Ordering.lt

module _ {A : Type 0} {order : A → A → Ordering} (T : Total A order) where
  pub lt_gt : (a b : A) → order a b ≡ Ordering.lt → order b a ≡ Ordering.gt
  lt_gt a b h = T.flip a b ∙ ap swapped h

  pub gt_lt : (a b : A) → order a b ≡ Ordering.gt → order b a ≡ Ordering.lt
  gt_lt a b h = T.flip a b ∙ ap swapped h

  pub apart_order : (a b : A) → (a ≡ b → ⊥) → (order a b ≡ Ordering.lt) ⊎ (order a b ≡ Ordering.gt)
  apart_order a b h = go (order a b) refl
    where
      go : (o : Ordering) → order a b ≡ o → (order a b ≡ Ordering.lt) ⊎ (order a b ≡ Ordering.gt)
      go Ordering.lt e = inl e
      go Ordering.eq e = absurd (h (T.eqv a b e))
      go Ordering.gt e = inr e

  -- equality as a test
  pub same_self : (a : A) → is_same (order a a) ≡ true
  same_self a = rw (T.same a)

  pub same_true : (a b : A) → is_same (order a b) ≡ true → a ≡ b
  same_true a b h = T.eqv a b (is_same_true (order a b) h)

  pub same_false : (a b : A) → is_same (order a b) ≡ false → a ≡ b → ⊥
  same_false a b h e = true_false (rw e (same_self b)) h

  pub apart_same : (a b : A) → (a ≡ b → ⊥) → is_same (order a b) ≡ false
  apart_same a b h = not_true_false (is_same (order a b)) (λ e. h (same_true a b e))

  pub same_sym : (a b : A) → is_same (order a b) ≡ is_same (order b a)
  same_sym a b = rw (T.flip a b) (sym (is_same-swapped (order a b)))

-- 3. Numbers

numbers_same : (a : ℕ) → compare a a ≡ Ordering.eq
numbers_same zero = compare.zero-zero
numbers_same (suc a) = compare.suc-suc a a ∙ numbers_same a

numbers_flip : (a b : ℕ) → compare b a ≡ swapped (compare a b)
numbers_flip zero zero = rw compare.zero-zero
numbers_flip zero (suc b) = rw (compare.zero-suc, compare.suc-zero)
numbers_flip (suc a) zero = rw (compare.zero-suc, compare.suc-zero)
numbers_flip (suc a) (suc b) = rw (compare.suc-suc b a, compare.suc-suc a b) (numbers_flip a b)

pub lt-compare : (a b : ℕ) → a < b → compare a b ≡ Ordering.lt
lt-compare zero zero h = absurd (omega arith)
lt-compare zero (suc b) h = compare.zero-suc b
lt-compare (suc a) zero h = absurd (omega arith)
lt-compare (suc a) (suc b) h = compare.suc-suc a b ∙ lt-compare a b (omega arith)

pub compare-lt : (a b : ℕ) → compare a b ≡ Ordering.lt → a < b
compare-lt zero zero h = absurd (lt≢eq (sym h ∙ compare.zero-zero))
compare-lt zero (suc b) h = omega arith
compare-lt (suc a) zero h = absurd (lt≢gt (sym h ∙ compare.suc-zero a))
compare-lt (suc a) (suc b) h = let r : a < b = compare-lt a b (sym (compare.suc-suc a b) ∙ h) in omega arith

pub compare_eq : (a b : ℕ) → compare a b ≡ Ordering.eq → a ≡ b
compare_eq zero zero h = refl
compare_eq zero (suc b) h = cc (compare.zero-suc b)
compare_eq (suc a) zero h = cc (compare.suc-zero a)
compare_eq (suc a) (suc b) h = ap suc (compare_eq a b (sym (compare.suc-suc a b) ∙ h))

pub gt_compare : (a b : ℕ) → b < a → compare a b ≡ Ordering.gt
gt_compare a b h = numbers_flip b a ∙ ap swapped (lt-compare b a h)

pub eq_compare : (a b : ℕ) → a ≡ b → compare a b ≡ Ordering.eq
eq_compare a b e = rw e (numbers_same b)

pub compare_gt : (a b : ℕ) → compare a b ≡ Ordering.gt → b < a
compare_gt a b h = compare-lt b a (numbers_flip a b ∙ ap swapped h)

pub numbers_total : Total ℕ compare
numbers_total = record {
  same = numbers_same;
  eqv = compare_eq;
  flip = numbers_flip;
  step = λ a b c p q. let u : a < b = compare-lt a b p in let v : b < c = compare-lt b c q in lt-compare a c (omega arith);
}

-- 4. Lists

module _ {A : Type 0} {order : A → A → Ordering} (T : Total A order) where
  lists_same : (x : List A) → lexicographic A order x x ≡ Ordering.eq
  lists_same [] = refl
  lists_same (a ∷ x) = rw (T.same a) (lists_same x)

  lists_eqv : (x y : List A) → lexicographic A order x y ≡ Ordering.eq → x ≡ y
  lists_eqv [] [] h = refl
  lists_eqv [] (b ∷ y) h = impossible cc
  lists_eqv (a ∷ x) [] h = impossible cc
  lists_eqv (a ∷ x) (b ∷ y) h = go (order a b) refl (lists_eqv x y) h
    where
      go : (o : Ordering) → order a b ≡ o → (lexicographic A order x y ≡ Ordering.eq → x ≡ y)
          → then_by o (lexicographic A order x y) ≡ Ordering.eq → ◌≡◌ {A = List A} (a ∷ x) (b ∷ y)
      go Ordering.lt e ih q = impossible cc
      go Ordering.eq e ih q = cc (T.eqv a b e, ih q)
      go Ordering.gt e ih q = impossible cc

  lists_flip : (x y : List A) → lexicographic A order y x ≡ swapped (lexicographic A order x y)
  lists_flip [] [] = refl
  lists_flip [] (b ∷ y) = refl
  lists_flip (a ∷ x) [] = refl
  lists_flip (a ∷ x) (b ∷ y) = rw (T.flip a b) (go (order a b) (lists_flip x y))
    where
      go : (o : Ordering) → lexicographic A order y x ≡ swapped (lexicographic A order x y)
          → then_by (swapped o) (lexicographic A order y x) ≡ swapped (then_by o (lexicographic A order x y))
      go Ordering.lt e = refl
      go Ordering.eq e = e
      go Ordering.gt e = refl

  lists_step : (x y z : List A) → lexicographic A order x y ≡ Ordering.lt → lexicographic A order y z ≡ Ordering.lt
      → lexicographic A order x z ≡ Ordering.lt
  lists_step [] [] z p q = q
  lists_step [] (b ∷ y) [] p q = impossible cc
  lists_step [] (b ∷ y) (c ∷ z) p q = refl
  lists_step (a ∷ x) [] z p q = impossible cc
  lists_step (a ∷ x) (b ∷ y) [] p q = impossible cc
  lists_step (a ∷ x) (b ∷ y) (c ∷ z) p q = go (order a b) (order b c) refl refl (lists_step x y z) p q
    where
      go : (o r : Ordering) → order a b ≡ o → order b c ≡ r
          → (lexicographic A order x y ≡ Ordering.lt → lexicographic A order y z ≡ Ordering.lt → lexicographic A order x z ≡ Ordering.lt)
          → then_by o (lexicographic A order x y) ≡ Ordering.lt → then_by r (lexicographic A order y z) ≡ Ordering.lt
          → then_by (order a c) (lexicographic A order x z) ≡ Ordering.lt
      go Ordering.lt Ordering.lt e f ih u v = rw (T.step a b c e f)
      go Ordering.lt Ordering.eq e f ih u v = rw (← T.eqv b c f, e)
      go Ordering.lt Ordering.gt e f ih u v = impossible cc
      go Ordering.eq Ordering.lt e f ih u v = rw (T.eqv a b e, f)
      go Ordering.eq Ordering.eq e f ih u v = rw (T.eqv a b e, f) (ih u v)
      go Ordering.eq Ordering.gt e f ih u v = impossible cc
      go Ordering.gt r e f ih u v = impossible cc

  pub lists_total : Total (List A) (lexicographic A order)
  lists_total = record { same = lists_same; eqv = lists_eqv; flip = lists_flip; step = lists_step }

  -- what two lists begin with alike decides nothing
  pub lexicographic-append : (s x y : List A) → lexicographic A order (s ++ x) (s ++ y) ≡ lexicographic A order x y
  lexicographic-append [] x y = refl
  lexicographic-append (a ∷ s) x y = rw (T.same a) (lexicographic-append s x y)

-- 5. Byte strings and keys

pub bytes-total : Total Bytes compare_bytes
unfolding compare_bytes
bytes-total = lists_total numbers_total

pub keys_total : Total Key compare_keys
unfolding compare_keys
keys_total = lists_total bytes-total

pub same_bytes_self : (a : Bytes) → same_bytes a a ≡ true
unfolding same_bytes
same_bytes_self a = same_self bytes-total a

pub same_bytes_true : (a b : Bytes) → same_bytes a b ≡ true → a ≡ b
unfolding same_bytes
same_bytes_true a b h = same_true bytes-total a b h

pub same_bytes_false : (a b : Bytes) → same_bytes a b ≡ false → a ≡ b → ⊥
unfolding same_bytes
same_bytes_false a b h = same_false bytes-total a b h

pub apart_same_bytes : (a b : Bytes) → (a ≡ b → ⊥) → same_bytes a b ≡ false
unfolding same_bytes
apart_same_bytes a b h = apart_same bytes-total a b h

pub same_bytes_sym : (a b : Bytes) → same_bytes a b ≡ same_bytes b a
unfolding same_bytes
same_bytes_sym a b = same_sym bytes-total a b

pub same_keys_self : (a : Key) → is_same (compare_keys a a) ≡ true
same_keys_self a = same_self keys_total a

pub same_keys_true : (a b : Key) → is_same (compare_keys a b) ≡ true → a ≡ b
same_keys_true a b h = same_true keys_total a b h

pub same_keys_false : (a b : Key) → is_same (compare_keys a b) ≡ false → a ≡ b → ⊥
same_keys_false a b h = same_false keys_total a b h

pub apart_same_keys : (a b : Key) → (a ≡ b → ⊥) → is_same (compare_keys a b) ≡ false
apart_same_keys a b h = apart_same keys_total a b h

pub same_keys_sym : (a b : Key) → is_same (compare_keys a b) ≡ is_same (compare_keys b a)
same_keys_sym a b = same_sym keys_total a b

-- The order of keys. A record, so that its two keys are inferred wherever a proof of it stands.
pub record Lt (a b : Key) : Type 0 where
  pub is : compare_keys a b ≡ Ordering.lt

pub lt_trans : {a b c : Key} → Lt a b → Lt b c → Lt a c
lt_trans {a} {b} {c} p q = record { is = keys_total.step a b c p.is q.is }

pub lt_flip : {a b : Key} → Lt a b → compare_keys b a ≡ Ordering.gt
lt_flip {a} {b} p = lt_gt keys_total a b p.is

pub gt_flip : (a b : Key) → compare_keys a b ≡ Ordering.gt → Lt b a
gt_flip a b p = record { is = gt_lt keys_total a b p }

pub lt_irrefl : {a : Key} → Lt a a → ⊥
lt_irrefl {a} p = lt≢eq (sym p.is ∙ keys_total.same a)

pub lt_ne : {a b : Key} → Lt a b → a ≡ b → ⊥
lt_ne p e = lt_irrefl (rw e at p)

-- a key of a lower rank comes before
pub rank_lt : (a b : Key) → key_rank a < key_rank b → Lt a b
unfolding key_rank compare_keys compare_bytes
rank_lt [] [] h = absurd (omega arith)
rank_lt [] (p ∷ y) h = record { is = refl }
rank_lt ([] ∷ x) [] h = absurd (omega arith)
rank_lt ([] ∷ x) ([] ∷ y) h = absurd (omega arith)
rank_lt ([] ∷ x) ((n ∷ q) ∷ y) h = record { is = refl }
rank_lt ((m ∷ p) ∷ x) [] h = absurd (omega arith)
rank_lt ((m ∷ p) ∷ x) ([] ∷ y) h = absurd (omega arith)
rank_lt ((m ∷ p) ∷ x) ((n ∷ q) ∷ y) h = record { is = rw (lt-compare m n h) }

pub lt-rank : {a b : Key} → Lt a b → key_rank a ≤ key_rank b
lt-rank {a} {b} p = go (compare (key_rank b) (key_rank a)) refl
  where
    go : (o : Ordering) → compare (key_rank b) (key_rank a) ≡ o → key_rank a ≤ key_rank b
    go Ordering.lt e = absurd (lt_irrefl (lt_trans p (rank_lt b a (compare-lt (key_rank b) (key_rank a) e))))
    go Ordering.eq e = let r : key_rank b ≡ key_rank a = compare_eq (key_rank b) (key_rank a) e in omega arith
    go Ordering.gt e = let r : key_rank a < key_rank b = compare_gt (key_rank b) (key_rank a) e in omega arith
