-- How many elements of a map have a key that passes a test, and whether any has.
use Rattle.std.specs.Prelude.{◌≡◌, Bool, ◌||◌}
use Rattle.std.proofs.Math.Path.{refl, sym}
use Rattle.std.proofs.Common.{◌∙◌, ap, zero-add, add-zero, lt-ltb}
use mathlib.Core.List.{List, [], ◌∷◌, ◌++◌, map}
use Rattle.std.proofs.Math.Option.{Option, none, some}
use Rattle.std.proofs.Math.Bool.{true, false, cond, or_assoc, or-true, or_self_left}
use Rattle.std.proofs.Math.Logic.{inl, inr}
use Prim.Native.Nat.{ℕ, suc, ◌+◌, ◌≤◌, Ordering}
use native.Mathlib.Omega.{arith}
use Rattle.std.proofs.Math.Dec.{ltb}
use Rattle.model.specs.Choice.{choose, total}
use Rattle.model.specs.Order.{Key, compare_keys}
use Rattle.model.specs.Map.{put, get, remove, keep, any, count}
use Rattle.model.specs.Contents.{Entry}
use Rattle.model.specs.Move.{is_new}
use Rattle.laws.specs.Choice.{impossible, true_false, or_left, or_right, present, missing}
use Rattle.laws.specs.Order.{keys_total}
use Rattle.laws.specs.Lists.{All, In, Sub, sub-all}

-- one element more on both sides; one more on the left, which the right adds, or none
both_more : (b : Bool) (c d z : ℕ) → d ≡ c + z → cond b (suc d) d ≡ cond b (suc c) c + z
both_more true c d z h = omega arith
both_more false c d z h = h

one_more : (b : Bool) (c : ℕ) → cond b (suc c) c ≡ c + cond b 1 0
one_more true c = omega arith
one_more false c = omega arith

none_more : (b : Bool) (c : ℕ) → c ≡ c + cond b 0 0
none_more true c = omega arith
none_more false c = omega arith

or_left_comm : (a b c : Bool) → a || (b || c) ≡ b || (a || c)
or_left_comm true true c = refl
or_left_comm true false c = refl
or_left_comm false b c = refl

module _ {E : Type 0} (key : E → Key) (test : Key → Bool) where
  -- 1. How many

  pub count-append : (l m : List E) → count key test (l ++ m) ≡ count key test l + count key test m
  unfolding count
  count-append [] m = sym (zero-add (count key test m))
  count-append (x ∷ l) m = both_more (test (key x)) (count key test l) (count key test (l ++ m)) (count key test m) (count-append l m)

  pub count_none : (l : List E) → All (λ x. test (key x) ≡ false) l → count key test l ≡ 0
  unfolding count
  count_none [] u = refl
  count_none (x ∷ l) u = rw u.0 (count_none l u.1)

  pub none-count : (l : List E) → count key test l ≡ 0 → All (λ x. test (key x) ≡ false) l
  unfolding count
  none-count [] h = tt
  none-count (x ∷ l) h = go (test (key x)) refl h (none-count l)
    where
      go : (b : Bool) → test (key x) ≡ b → cond b (suc (count key test l)) (count key test l) ≡ 0
          → (count key test l ≡ 0 → All (λ y. test (key y) ≡ false) l) → All (λ y. test (key y) ≡ false) (x ∷ l)
      go true e q i = absurd (omega arith)
      go false e q i = (e, i q)

  pub count-put : (e : E) (l : List E)
      → count key test (put key e l) ≡ count key test l + cond (test (key e)) (missing (get key (key e) l)) 0
  unfolding count put get
  count-put e [] = sym (zero-add (cond (test (key e)) 1 0))
  count-put e (x ∷ l) = go (compare_keys (key e) (key x)) refl (count-put e l)
    where
      go : (o : Ordering) → compare_keys (key e) (key x) ≡ o
          → count key test (put key e l) ≡ count key test l + cond (test (key e)) (missing (get key (key e) l)) 0
          → count key test (choose o (e ∷ x ∷ l) (e ∷ l) (x ∷ put key e l))
          ≡ count key test (x ∷ l) + cond (test (key e)) (missing (choose o none (some x) (get key (key e) l))) 0
      go Ordering.lt q i = one_more (test (key e)) (count key test (x ∷ l))
      go Ordering.eq q i = rw (← keys_total.eqv (key e) (key x) q) (none_more (test (key e)) (count key test (e ∷ l)))
      go Ordering.gt q i =
          both_more (test (key x)) (count key test l) (count key test (put key e l))
          (cond (test (key e)) (missing (get key (key e) l)) 0) i

  pub count-remove : (k : Key) (l : List E)
      → count key test l ≡ count key test (remove key k l) + cond (test k) (present (get key k l)) 0
  unfolding count remove get
  count-remove k [] = none_more (test k) 0
  count-remove k (x ∷ l) = go (compare_keys k (key x)) refl (count-remove k l)
    where
      go : (o : Ordering) → compare_keys k (key x) ≡ o
          → count key test l ≡ count key test (remove key k l) + cond (test k) (present (get key k l)) 0
          → count key test (x ∷ l)
          ≡ count key test (choose o (x ∷ l) l (x ∷ remove key k l)) + cond (test k) (present (choose o none (some x) (get key k l))) 0
      go Ordering.lt q i = none_more (test k) (count key test (x ∷ l))
      go Ordering.eq q i = rw (keys_total.eqv k (key x) q) (one_more (test (key x)) (count key test l))
      go Ordering.gt q i =
          both_more (test (key x)) (count key test (remove key k l)) (count key test l) (cond (test k) (present (get key k l)) 0) i

  -- an element that does not pass
  pub count-put_other : (e : E) → test (key e) ≡ false → (l : List E) → count key test (put key e l) ≡ count key test l
  count-put_other e h l = count-put e l ∙ rw (h, add-zero)

  pub count-remove_other : (k : Key) → test k ≡ false → (l : List E) → count key test (remove key k l) ≡ count key test l
  count-remove_other k h l = sym (count-remove k l ∙ rw (h, add-zero))

  -- what is left out does not pass
  pub count-keep : (kept : Key → Bool) → ((k : Key) → test k ≡ true → kept k ≡ true) → (l : List E)
      → count key test (keep key kept l) ≡ count key test l
  unfolding count keep
  count-keep kept h [] = refl
  count-keep kept h (x ∷ l) = go (test (key x)) refl (kept (key x)) refl (count-keep kept h l)
    where
      go : (b : Bool) → test (key x) ≡ b → (c : Bool) → kept (key x) ≡ c → count key test (keep key kept l) ≡ count key test l
          → count key test (cond c (x ∷ keep key kept l) (keep key kept l)) ≡ cond b (suc (count key test l)) (count key test l)
      go true e true f i = rw (e, i)
      go true e false f i = absurd (true_false (h (key x) e) f)
      go false e true f i = rw (e, i)
      go false e false f i = i

  -- a sum that grows with each that passes is no less
  pub count-total : (f : E → ℕ) → ((x : E) → test (key x) ≡ true → 1 ≤ f x) → (l : List E) → count key test l ≤ total f l
  unfolding count total
  count-total f h [] = omega arith
  count-total f h (x ∷ l) = go (test (key x)) refl (count-total f h l)
    where
      go : (b : Bool) → test (key x) ≡ b → count key test l ≤ total f l
          → cond b (suc (count key test l)) (count key test l) ≤ f x + total f l
      go true e i = let k : 1 ≤ f x = h x e in omega arith
      go false e i = omega arith

  -- 2. Whether any

  pub any-count : (l : List E) → any key test l ≡ ltb 0 (count key test l)
  unfolding any count
  any-count [] = refl
  any-count (x ∷ l) = go (test (key x)) (any-count l)
    where
      go : (b : Bool) → any key test l ≡ ltb 0 (count key test l)
          → b || any key test l ≡ ltb 0 (cond b (suc (count key test l)) (count key test l))
      go true i = sym (lt-ltb 0 (suc (count key test l)) (omega arith))
      go false i = i

  pub any_append : (l m : List E) → any key test (l ++ m) ≡ any key test l || any key test m
  unfolding any
  any_append [] m = refl
  any_append (x ∷ l) m = rw (any_append l m) (sym (or_assoc (test (key x)) (any key test l) (any key test m)))

  pub any_in : (l : List E) (x : E) → In x l → test (key x) ≡ true → any key test l ≡ true
  unfolding any
  any_in [] x x4 h = elim x4 [ ]
  any_in (y ∷ l) x (inl e) h = rw (← e, h)
  any_in (y ∷ l) x (inr i) h = rw (any_in l x i h, or-true)

  pub in_any : (l : List E) → any key test l ≡ true → (x : E) × In x l × (test (key x) ≡ true)
  unfolding any
  in_any [] h = impossible cc
  in_any (y ∷ l) h = go (test (key y)) refl h (in_any l)
    where
      go : (b : Bool) → test (key y) ≡ b → b || any key test l ≡ true
          → (any key test l ≡ true → (x : E) × In x l × (test (key x) ≡ true)) → (x : E) × In x (y ∷ l) × (test (key x) ≡ true)
      go true e q i = (y, inl refl, e)
      go false e q i = let r = i q in (r.0, inr r.1, r.2)

  pub any_none : (l : List E) → All (λ x. test (key x) ≡ false) l → any key test l ≡ false
  unfolding any
  any_none [] u = refl
  any_none (x ∷ l) u = rw u.0 (any_none l u.1)

  pub none_any : (l : List E) → any key test l ≡ false → All (λ x. test (key x) ≡ false) l
  unfolding any
  none_any [] h = tt
  none_any (x ∷ l) h = (or_left (test (key x)) (any key test l) h, none_any l (or_right (test (key x)) (any key test l) h))

  pub sub_any : {k l : List E} → Sub k l → any key test l ≡ false → any key test k ≡ false
  sub_any {k} {l} s h = any_none k (sub-all (λ x. test (key x) ≡ false) s (none_any l h))

  pub any-put : (e : E) (l : List E) → any key test (put key e l) ≡ test (key e) || any key test l
  unfolding any put
  any-put e [] = refl
  any-put e (x ∷ l) = go (compare_keys (key e) (key x)) refl (any-put e l)
    where
      go : (o : Ordering) → compare_keys (key e) (key x) ≡ o → any key test (put key e l) ≡ test (key e) || any key test l
          → any key test (choose o (e ∷ x ∷ l) (e ∷ l) (x ∷ put key e l)) ≡ test (key e) || (test (key x) || any key test l)
      go Ordering.lt q i = refl
      go Ordering.eq q i = rw (← keys_total.eqv (key e) (key x) q) (sym (or_self_left (test (key e)) (any key test l)))
      go Ordering.gt q i = rw i (or_left_comm (test (key x)) (test (key e)) (any key test l))

  pub any-remove_other : (k : Key) → test k ≡ false → (l : List E) → any key test (remove key k l) ≡ any key test l
  any-remove_other k h l = any-count (remove key k l) ∙ ap (ltb 0) (count-remove_other k h l) ∙ sym (any-count l)

  pub any-keep : (kept : Key → Bool) → ((k : Key) → test k ≡ true → kept k ≡ true) → (l : List E)
      → any key test (keep key kept l) ≡ any key test l
  any-keep kept h l = any-count (keep key kept l) ∙ ap (ltb 0) (count-keep kept h l) ∙ sym (any-count l)

-- what a new partition adds to its topic's count
pub is_new-missing : (o : Option Entry) → is_new o ≡ missing o
is_new-missing o = refl

-- 3. A map of the elements that keeps their keys

module _ {E F : Type 0} (key : E → Key) (key' : F → Key) (f : E → F) (same : (x : E) → key' (f x) ≡ key x) (test : Key → Bool) where
  pub count_map : (l : List E) → count key' test (map f l) ≡ count key test l
  unfolding count
  count_map [] = refl
  count_map (x ∷ l) = rw (same x, count_map l)

  pub any-map : (l : List E) → any key' test (map f l) ≡ any key test l
  any-map l = any-count key' test (map f l) ∙ ap (ltb 0) (count_map l) ∙ sym (any-count key test l)
