-- A map cut at a key: the elements before it, at it and after it; what it holds after a change, by these; changes of sublists.
use Rattle.std.specs.Prelude.{◌≡◌, Bool, cond}
use Rattle.std.proofs.Math.Path.{refl, ap}
use Rattle.std.proofs.Common.{sym, ◌∙◌, arith}
use mathlib.Core.List.{List, [], ◌∷◌, ◌++◌, append_assoc, append-nil}
use Rattle.std.proofs.Math.Option.{Option, none, some}
use Rattle.std.proofs.Math.Bool.{true, false}
use Prim.Native.Nat.{ℕ, ◌+◌, Ordering}
use Rattle.std.proofs.Math.Nat.{add-zero}
use Rattle.model.specs.Choice.{choose, given, joined, total}
use Rattle.model.specs.Order.{Key, compare_keys}
use Rattle.model.specs.Map.{put, get, remove, keep}
use Rattle.laws.specs.Order.{keys_total, Lt, gt_flip}
use Rattle.laws.specs.Lists.{joined-append, total-append, Sub, nil, skip, keep_on, sub-all}
use Rattle.laws.specs.Map.{Under, Over, Asc, over_trans, put_first, remove_first}

module _ {E : Type 0} (key : E → Key) where
  -- 1. The parts

  unfoldable pub below : Key → List E → List E
  below k [] = []
  below k (x ∷ l) = choose (compare_keys k (key x)) [] [] (x ∷ below k l)

  unfoldable pub above : Key → List E → List E
  above k [] = []
  above k (x ∷ l) = choose (compare_keys k (key x)) (x ∷ l) l (above k l)

  -- none or one
  abbrev pub here : Key → List E → List E
  here k l = given (get key k l) [] (λ e. e ∷ [])

  pub split : (k : Key) (l : List E) → l ≡ below k l ++ here k l ++ above k l
  unfolding below above get
  split k [] = refl
  split k (x ∷ l) = go (compare_keys k (key x)) (split k l)
    where
      go : (o : Ordering) → l ≡ below k l ++ here k l ++ above k l
          → x ∷ l
          ≡ choose o [] [] (x ∷ below k l) ++ given (choose o none (some x) (get key k l)) [] (λ e. e ∷ [])
          ++ choose o (x ∷ l) l (above k l)
      go Ordering.lt i = refl
      go Ordering.eq i = refl
      go Ordering.gt i = ap (λ t. x ∷ t) i

  pub put_split : (e : E) (l : List E) → put key e l ≡ below (key e) l ++ e ∷ above (key e) l
  unfolding below above put
  put_split e [] = refl
  put_split e (x ∷ l) = go (compare_keys (key e) (key x)) (put_split e l)
    where
      go : (o : Ordering) → put key e l ≡ below (key e) l ++ e ∷ above (key e) l
          → choose o (e ∷ x ∷ l) (e ∷ l) (x ∷ put key e l)
          ≡ choose o [] [] (x ∷ below (key e) l) ++ e ∷ choose o (x ∷ l) l (above (key e) l)
      go Ordering.lt i = refl
      go Ordering.eq i = refl
      go Ordering.gt i = ap (λ t. x ∷ t) i

  pub remove_split : (k : Key) (l : List E) → remove key k l ≡ below k l ++ above k l
  unfolding below above remove
  remove_split k [] = refl
  remove_split k (x ∷ l) = go (compare_keys k (key x)) (remove_split k l)
    where
      go : (o : Ordering) → remove key k l ≡ below k l ++ above k l
          → choose o (x ∷ l) l (x ∷ remove key k l) ≡ choose o [] [] (x ∷ below k l) ++ choose o (x ∷ l) l (above k l)
      go Ordering.lt i = refl
      go Ordering.eq i = refl
      go Ordering.gt i = ap (λ t. x ∷ t) i

  pub below-under : (k : Key) (l : List E) → Under key k (below k l)
  unfolding below
  below-under k [] = tt
  below-under k (x ∷ l) = go (compare_keys k (key x)) refl (below-under k l)
    where
      go : (o : Ordering) → compare_keys k (key x) ≡ o → Under key k (below k l) → Under key k (choose o [] [] (x ∷ below k l))
      go Ordering.lt q i = tt
      go Ordering.eq q i = tt
      go Ordering.gt q i = (gt_flip k (key x) q, i)

  pub above-over : (k : Key) (l : List E) → Asc key l → Over key k (above k l)
  unfolding above
  above-over k [] a = tt
  above-over k (x ∷ l) a = go (compare_keys k (key x)) refl (above-over k l a.1)
    where
      go : (o : Ordering) → compare_keys k (key x) ≡ o → Over key k (above k l) → Over key k (choose o (x ∷ l) l (above k l))
      go Ordering.lt q i = let h : Lt k (key x) = record { is = q } in (h, over_trans key k (key x) h l a.0)
      go Ordering.eq q i = rw (keys_total.eqv k (key x) q) a.0
      go Ordering.gt q i = i

  -- 2. Sums and joins

  here-total : (f : E → ℕ) (o : Option E) → total f (given o [] (λ e. e ∷ [])) ≡ given o 0 f
  unfolding total
  here-total f none = refl
  here-total f (some e) = add-zero (f e)

  here-joined : {B : Type 0} (f : E → List B) (o : Option E) → joined f (given o [] (λ e. e ∷ [])) ≡ given o [] f
  here-joined f none = refl
  here-joined f (some e) = append-nil (f e)

  pub total_split : (f : E → ℕ) (k : Key) (l : List E) → total f l ≡ total f (below k l) + given (get key k l) 0 f + total f (above k l)
  total_split f k l = ap (total f) (split k l) ∙ simp (total-append, here-total f (get key k l))

  pub total-put : (f : E → ℕ) (e : E) (l : List E) → total f (put key e l) + given (get key (key e) l) 0 f ≡ total f l + f e
  unfolding total
  total-put f e l =
      omega (arith, total_split f (key e) l, ap (total f) (put_split e l) ∙ total-append f (below (key e) l) (e ∷ above (key e) l))

  pub total-remove : (f : E → ℕ) (k : Key) (l : List E) → total f (remove key k l) + given (get key k l) 0 f ≡ total f l
  total-remove f k l = omega (arith, total_split f k l, ap (total f) (remove_split k l) ∙ total-append f (below k l) (above k l))

  module _ {B : Type 0} (f : E → List B) where
    pub joined_split : (k : Key) (l : List E) → joined f l ≡ joined f (below k l) ++ given (get key k l) [] f ++ joined f (above k l)
    joined_split k l = ap (joined f) (split k l) ∙ simp (joined-append, here-joined f (get key k l))

    pub joined-put : (e : E) (l : List E) → joined f (put key e l) ≡ joined f (below (key e) l) ++ f e ++ joined f (above (key e) l)
    joined-put e l =
        ap (joined f) (put_split e l) ∙ joined-append f (below (key e) l) (e ∷ above (key e) l)
        ∙ sym (append_assoc (joined f (below (key e) l)) (f e) (joined f (above (key e) l)))

    pub joined-remove : (k : Key) (l : List E) → joined f (remove key k l) ≡ joined f (below k l) ++ joined f (above k l)
    joined-remove k l = ap (joined f) (remove_split k l) ∙ joined-append f (below k l) (above k l)

  -- 3. The same change to a list and to a sublist

  nil_put : (e : E) (u : List E) → Asc key u → Sub (e ∷ []) (put key e u)
  unfolding put
  nil_put e [] a = keep_on nil
  nil_put e (x ∷ u) a = go (compare_keys (key e) (key x)) (nil_put e u a.1)
    where
      go : (o : Ordering) → Sub (e ∷ []) (put key e u) → Sub (e ∷ []) (choose o (e ∷ x ∷ u) (e ∷ u) (x ∷ put key e u))
      go Ordering.lt i = keep_on nil
      go Ordering.eq i = keep_on nil
      go Ordering.gt i = skip i

  pub sub-put : (e : E) {c u : List E} → Sub c u → Asc key u → Sub (put key e c) (put key e u)
  unfolding put
  sub-put e (nil {l = l}) a = nil_put e l a
  sub-put e (skip {x = x} {k = c} {l = u} s) a = go (compare_keys (key e) (key x)) refl (sub-put e s a.1)
    where
      front : Over key (key e) u → put key e c ≡ e ∷ c
      front o = put_first key e c (sub-all (λ y. Lt (key e) (key y)) s o)

      go : (o : Ordering) → compare_keys (key e) (key x) ≡ o → Sub (put key e c) (put key e u)
          → Sub (put key e c) (choose o (e ∷ x ∷ u) (e ∷ u) (x ∷ put key e u))
      go Ordering.lt q i = rw (front (over_trans key (key e) (key x) (record { is = q }) u a.0)) (keep_on (skip s))
      go Ordering.eq q i = rw (front (rw (keys_total.eqv (key e) (key x) q) a.0)) (keep_on s)
      go Ordering.gt q i = skip i
  sub-put e (keep_on {x = x} {k = c} {l = u} s) a = go (compare_keys (key e) (key x)) (sub-put e s a.1)
    where
      go : (o : Ordering) → Sub (put key e c) (put key e u)
          → Sub (choose o (e ∷ x ∷ c) (e ∷ c) (x ∷ put key e c)) (choose o (e ∷ x ∷ u) (e ∷ u) (x ∷ put key e u))
      go Ordering.lt i = keep_on (keep_on s)
      go Ordering.eq i = keep_on s
      go Ordering.gt i = keep_on i

  pub sub-remove : (k : Key) {c u : List E} → Sub c u → Asc key u → Sub (remove key k c) (remove key k u)
  unfolding remove
  sub-remove k nil a = nil
  sub-remove k (skip {x = x} {k = c} {l = u} s) a = go (compare_keys k (key x)) refl (sub-remove k s a.1)
    where
      whole : Over key k u → remove key k c ≡ c
      whole o = remove_first key k c (sub-all (λ y. Lt k (key y)) s o)

      go : (o : Ordering) → compare_keys k (key x) ≡ o → Sub (remove key k c) (remove key k u)
          → Sub (remove key k c) (choose o (x ∷ u) u (x ∷ remove key k u))
      go Ordering.lt q i = rw (whole (over_trans key k (key x) (record { is = q }) u a.0)) (skip s)
      go Ordering.eq q i = rw (whole (rw (keys_total.eqv k (key x) q) a.0)) s
      go Ordering.gt q i = skip i
  sub-remove k (keep_on {x = x} {k = c} {l = u} s) a = go (compare_keys k (key x)) (sub-remove k s a.1)
    where
      go : (o : Ordering) → Sub (remove key k c) (remove key k u)
          → Sub (choose o (x ∷ c) c (x ∷ remove key k c)) (choose o (x ∷ u) u (x ∷ remove key k u))
      go Ordering.lt i = keep_on s
      go Ordering.eq i = s
      go Ordering.gt i = keep_on i

  pub sub-keep : (test : Key → Bool) {c u : List E} → Sub c u → Sub (keep key test c) (keep key test u)
  unfolding keep
  sub-keep test nil = nil
  sub-keep test (skip {x = x} {k = c} {l = u} s) = go (test (key x)) (sub-keep test s)
    where
      go : (b : Bool) → Sub (keep key test c) (keep key test u) → Sub (keep key test c) (cond b (x ∷ keep key test u) (keep key test u))
      go true i = skip i
      go false i = i
  sub-keep test (keep_on {x = x} {k = c} {l = u} s) = go (test (key x)) (sub-keep test s)
    where
      go : (b : Bool) → Sub (keep key test c) (keep key test u)
          → Sub (cond b (x ∷ keep key test c) (keep key test c)) (cond b (x ∷ keep key test u) (keep key test u))
      go true i = keep_on i
      go false i = i
