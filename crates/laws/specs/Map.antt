-- Maps, lists that ascend by key: what is found after a change, and that changes keep the order.
use Rattle.std.specs.Prelude.{◌≡◌, Bool, ◌⊎◌}
use Rattle.std.proofs.Math.Path.{refl, sym, ap}
use Rattle.std.proofs.Common.{◌∙◌}
use mathlib.Core.List.{List, [], ◌∷◌, ◌++◌, map, append-nil}
use Rattle.std.proofs.Math.Option.{none, some}
use Rattle.std.proofs.Math.Bool.{true, false, cond}
use Rattle.std.proofs.Math.Logic.{inl, inr}
use Prim.Native.Nat.{Ordering}
use Rattle.model.specs.Choice.{choose, or_else}
use Rattle.model.specs.Order.{Key, compare_keys, is_below}
use Rattle.model.specs.Map.{put, get, remove, keep, ascending}
use Rattle.laws.specs.Choice.{impossible, and_left, and_right, and_both, cond_same, over}
use Rattle.laws.specs.Order.{is_below_true, gt_lt, apart_order, keys_total, Lt, lt_trans, lt_flip, gt_flip}
use Rattle.laws.specs.Lists.{All, In, all_in, in_all, all_imp, all_append, all_map, Sub, nil, skip, keep_on, sub_self, sub-all}
use Rattle.laws.specs.Lists.{sub_in, sub-append-left, sub-append_right}

module _ {E : Type 0} (key : E → Key) where
  -- 1. Ascending keys

  -- every key is below k; above k
  abbrev pub Under : Key → List E → Type 0
  Under k l = All (λ x. Lt (key x) k) l

  abbrev pub Over : Key → List E → Type 0
  Over k l = All (λ x. Lt k (key x)) l

  -- each key is below all later ones
  abbrev pub Asc : List E → Type 0
  Asc [] = Unit {0}
  Asc (x ∷ l) = Over (key x) l × Asc l

  pub over_trans : (a b : Key) → Lt a b → (l : List E) → Over b l → Over a l
  over_trans a b h l u = all_imp (λ x. Lt b (key x)) (λ x. Lt a (key x)) (λ x q. lt_trans h q) l u

  pub under_trans : (a b : Key) → Lt a b → (l : List E) → Under a l → Under b l
  under_trans a b h l u = all_imp (λ x. Lt (key x) a) (λ x. Lt (key x) b) (λ x q. lt_trans q h) l u

  -- the test on neighbours says the same
  pub ascending_asc : (l : List E) → ascending key l ≡ true → Asc l
  unfolding ascending
  ascending_asc [] h = tt
  ascending_asc (x ∷ []) h = (tt, tt)
  ascending_asc (x ∷ y ∷ l) h =
      let b = is_below (compare_keys (key x) (key y)) in
      let r : Lt (key x) (key y) = record { is = is_below_true (compare_keys (key x) (key y)) (and_left b (ascending key (y ∷ l)) h) } in
      let a : Asc (y ∷ l) = ascending_asc (y ∷ l) (and_right b (ascending key (y ∷ l)) h) in
      ((r, over_trans (key x) (key y) r l a.0), a)

  pub asc_ascending : (l : List E) → Asc l → ascending key l ≡ true
  unfolding ascending
  asc_ascending [] a = refl
  asc_ascending (x ∷ []) a = refl
  asc_ascending (x ∷ y ∷ l) a =
      and_both (is_below (compare_keys (key x) (key y))) (ascending key (y ∷ l)) (rw a.0.0.is) (asc_ascending (y ∷ l) a.1)

  pub sub_asc : {k l : List E} → Sub k l → Asc l → Asc k
  sub_asc nil a = tt
  sub_asc (skip s) a = sub_asc s a.1
  sub_asc (keep_on {x = x} s) a = (sub-all (λ y. Lt (key x) (key y)) s a.0, sub_asc s a.1)

  pub asc_append : (l m : List E) → Asc l → Asc m → All (λ x. Over (key x) m) l → Asc (l ++ m)
  asc_append [] m a b u = b
  asc_append (x ∷ l) m a b u = (all_append (λ y. Lt (key x) (key y)) l m a.0 u.0, asc_append l m a.1 b u.1)

  pub asc_left : (l m : List E) → Asc (l ++ m) → Asc l
  asc_left l m a = sub_asc (sub-append-left l m) a

  pub asc_right : (l m : List E) → Asc (l ++ m) → Asc m
  asc_right l m a = sub_asc (sub-append_right l m) a

  -- a list that goes on with e has all keys before it below e's
  pub asc_under : (l : List E) (e : E) (m : List E) → Asc (l ++ (e ∷ m)) → Under (key e) l
  asc_under [] e m a = tt
  asc_under (x ∷ l) e m a =
      ((sub-all (λ y. Lt (key x) (key y)) (sub-append_right l (e ∷ m)) a.0).0, asc_under l e m a.1)

  -- 2. What a change leaves

  pub in_put : (e : E) (l : List E) (x : E) → In x (put key e l) → (x ≡ e) ⊎ In x l
  unfolding put
  in_put e [] x (inr x4) = elim x4 [ ]
  in_put e [] x (inl q) = inl q
  in_put e (y ∷ l) x i = go (compare_keys (key e) (key y)) (in_put e l x) i
    where
      later : (x ≡ e) ⊎ In x l → (x ≡ e) ⊎ In x (y ∷ l)
      later (inl q) = inl q
      later (inr j) = inr (inr j)

      go : (o : Ordering) → (In x (put key e l) → (x ≡ e) ⊎ In x l) → In x (choose o (e ∷ y ∷ l) (e ∷ l) (y ∷ put key e l))
          → (x ≡ e) ⊎ In x (y ∷ l)
      go Ordering.lt h (inl q) = inl q
      go Ordering.lt h (inr j) = inr j
      go Ordering.eq h (inl q) = inl q
      go Ordering.eq h (inr j) = inr (inr j)
      go Ordering.gt h (inl q) = inr (inl q)
      go Ordering.gt h (inr j) = later (h j)

  pub all-put : (P : E → Type 0) (e : E) (l : List E) → All P l → P e → All P (put key e l)
  all-put P e l u h = all_in P (put key e l) (λ x i. go x (in_put e l x i))
    where
      go : (x : E) → (x ≡ e) ⊎ In x l → P x
      go x (inl q) = rw q h
      go x (inr j) = in_all P l u x j

  pub remove-sub : (k : Key) (l : List E) → Sub (remove key k l) l
  unfolding remove
  remove-sub k [] = nil
  remove-sub k (x ∷ l) = go (compare_keys k (key x)) (remove-sub k l)
    where
      go : (o : Ordering) → Sub (remove key k l) l → Sub (choose o (x ∷ l) l (x ∷ remove key k l)) (x ∷ l)
      go Ordering.lt s = sub_self (x ∷ l)
      go Ordering.eq s = skip (sub_self l)
      go Ordering.gt s = keep_on s

  pub keep-sub : (test : Key → Bool) (l : List E) → Sub (keep key test l) l
  unfolding keep
  keep-sub test [] = nil
  keep-sub test (x ∷ l) = go (test (key x)) (keep-sub test l)
    where
      go : (b : Bool) → Sub (keep key test l) l → Sub (cond b (x ∷ keep key test l) (keep key test l)) (x ∷ l)
      go true s = keep_on s
      go false s = skip s

  pub in_remove : (k : Key) (l : List E) (x : E) → In x (remove key k l) → In x l
  in_remove k l x i = sub_in x (remove-sub k l) i

  pub in_keep : (test : Key → Bool) (l : List E) (x : E) → In x (keep key test l) → In x l
  in_keep test l x i = sub_in x (keep-sub test l) i

  pub all_remove : (P : E → Type 0) (k : Key) (l : List E) → All P l → All P (remove key k l)
  all_remove P k l u = sub-all P (remove-sub k l) u

  pub all_keep : (P : E → Type 0) (test : Key → Bool) (l : List E) → All P l → All P (keep key test l)
  all_keep P test l u = sub-all P (keep-sub test l) u

  -- what is kept passes the test
  pub keep_all : (test : Key → Bool) (l : List E) → All (λ x. test (key x) ≡ true) (keep key test l)
  unfolding keep
  keep_all test [] = tt
  keep_all test (x ∷ l) = go (test (key x)) refl (keep_all test l)
    where
      go : (b : Bool) → test (key x) ≡ b → All (λ y. test (key y) ≡ true) (keep key test l)
          → All (λ y. test (key y) ≡ true) (cond b (x ∷ keep key test l) (keep key test l))
      go true e u = (e, u)
      go false e u = u

  -- and where all pass, all are kept
  pub keep_same : (test : Key → Bool) (l : List E) → All (λ x. test (key x) ≡ true) l → keep key test l ≡ l
  unfolding keep
  keep_same test [] u = refl
  keep_same test (x ∷ l) u = rw (u.0, keep_same test l u.1)

  pub keep_append : (test : Key → Bool) (l m : List E) → keep key test (l ++ m) ≡ keep key test l ++ keep key test m
  unfolding keep
  keep_append test [] m = refl
  keep_append test (x ∷ l) m = rw (keep_append test l m) (go (test (key x)))
    where
      go : (b : Bool) → cond b (x ∷ (keep key test l ++ keep key test m)) (keep key test l ++ keep key test m)
          ≡ cond b (x ∷ keep key test l) (keep key test l) ++ keep key test m
      go true = refl
      go false = refl

  -- what is put under a key that is not kept changes nothing of what is
  pub keep-put : (test : Key → Bool) (e : E) → test (key e) ≡ false → (l : List E) → keep key test (put key e l) ≡ keep key test l
  unfolding keep put
  keep-put test e out [] = rw out
  keep-put test e out (x ∷ l) = go (compare_keys (key e) (key x)) refl (keep-put test e out l)
    where
      go : (o : Ordering) → compare_keys (key e) (key x) ≡ o → keep key test (put key e l) ≡ keep key test l
          → keep key test (choose o (e ∷ x ∷ l) (e ∷ l) (x ∷ put key e l)) ≡ keep key test (x ∷ l)
      go Ordering.lt q i = rw out
      go Ordering.eq q i = rw (out, ← keys_total.eqv (key e) (key x) q, out)
      go Ordering.gt q i = ap (λ m. cond (test (key x)) (x ∷ m) m) i

  pub put_asc : (e : E) (l : List E) → Asc l → Asc (put key e l)
  unfolding put
  put_asc e [] a = (tt, tt)
  put_asc e (x ∷ l) a = go (compare_keys (key e) (key x)) refl (put_asc e l a.1)
    where
      go : (o : Ordering) → compare_keys (key e) (key x) ≡ o → Asc (put key e l) → Asc (choose o (e ∷ x ∷ l) (e ∷ l) (x ∷ put key e l))
      go Ordering.lt q i = let h : Lt (key e) (key x) = record { is = q } in ((h, over_trans (key e) (key x) h l a.0), a)
      go Ordering.eq q i = (rw (keys_total.eqv (key e) (key x) q) a.0, a.1)
      go Ordering.gt q i = (all-put (λ y. Lt (key x) (key y)) e l a.0 (gt_flip (key e) (key x) q), i)

  pub remove_asc : (k : Key) (l : List E) → Asc l → Asc (remove key k l)
  remove_asc k l a = sub_asc (remove-sub k l) a

  pub keep_asc : (test : Key → Bool) (l : List E) → Asc l → Asc (keep key test l)
  keep_asc test l a = sub_asc (keep-sub test l) a

  -- 3. Behind keys that are all below, and before keys that are all above

  pub put-after : (e : E) (l m : List E) → Under (key e) l → put key e (l ++ m) ≡ l ++ put key e m
  unfolding put
  put-after e [] m u = refl
  put-after e (x ∷ l) m u = rw (lt_flip u.0) (ap (λ t. x ∷ t) (put-after e l m u.1))

  pub get_after : (k : Key) (l m : List E) → Under k l → get key k (l ++ m) ≡ get key k m
  unfolding get
  get_after k [] m u = refl
  get_after k (x ∷ l) m u = rw (lt_flip u.0) (get_after k l m u.1)

  pub remove-after : (k : Key) (l m : List E) → Under k l → remove key k (l ++ m) ≡ l ++ remove key k m
  unfolding remove
  remove-after k [] m u = refl
  remove-after k (x ∷ l) m u = rw (lt_flip u.0) (ap (λ t. x ∷ t) (remove-after k l m u.1))

  pub put_last : (e : E) (l : List E) → Under (key e) l → put key e l ≡ l ++ (e ∷ [])
  unfolding put
  put_last e l u = ap (put key e) (sym (append-nil l)) ∙ put-after e l [] u

  pub get-last : (k : Key) (l : List E) → Under k l → get key k l ≡ none
  unfolding get
  get-last k l u = ap (get key k) (sym (append-nil l)) ∙ get_after k l [] u

  pub remove-last : (k : Key) (l : List E) → Under k l → remove key k l ≡ l
  unfolding remove
  remove-last k l u = ap (remove key k) (sym (append-nil l)) ∙ remove-after k l [] u ∙ append-nil l

  pub put_first : (e : E) (l : List E) → Over (key e) l → put key e l ≡ e ∷ l
  unfolding put
  put_first e [] o = refl
  put_first e (x ∷ l) o = rw o.0.is

  pub get_first : (k : Key) (l : List E) → Over k l → get key k l ≡ none
  unfolding get
  get_first k [] o = refl
  get_first k (x ∷ l) o = rw o.0.is

  pub remove_first : (k : Key) (l : List E) → Over k l → remove key k l ≡ l
  unfolding remove
  remove_first k [] o = refl
  remove_first k (x ∷ l) o = rw o.0.is

  -- 4. Lookups

  pub get-put-same : (e : E) (l : List E) → get key (key e) (put key e l) ≡ some e
  unfolding get put
  get-put-same e [] = rw (keys_total.same (key e))
  get-put-same e (x ∷ l) = go (compare_keys (key e) (key x)) refl (get-put-same e l)
    where
      go : (o : Ordering) → compare_keys (key e) (key x) ≡ o → get key (key e) (put key e l) ≡ some e
          → get key (key e) (choose o (e ∷ x ∷ l) (e ∷ l) (x ∷ put key e l)) ≡ some e
      go Ordering.lt q i = rw (keys_total.same (key e))
      go Ordering.eq q i = rw (keys_total.same (key e))
      go Ordering.gt q i = rw q i

  pub get-put_other : (k : Key) (e : E) → (k ≡ key e → ⊥) → (l : List E) → get key k (put key e l) ≡ get key k l
  unfolding get put
  get-put_other k e h [] = go (apart_order keys_total k (key e) h)
    where
      go : (compare_keys k (key e) ≡ Ordering.lt) ⊎ (compare_keys k (key e) ≡ Ordering.gt) → get key k (e ∷ []) ≡ none
      go (inl q) = rw q
      go (inr q) = rw q
  get-put_other k e h (x ∷ l) = go (compare_keys (key e) (key x)) refl (apart_order keys_total k (key e) h) (get-put_other k e h l)
    where
      go : (o : Ordering) → compare_keys (key e) (key x) ≡ o → (compare_keys k (key e) ≡ Ordering.lt) ⊎ (compare_keys k (key e) ≡ Ordering.gt)
          → get key k (put key e l) ≡ get key k l → get key k (choose o (e ∷ x ∷ l) (e ∷ l) (x ∷ put key e l)) ≡ get key k (x ∷ l)
      go Ordering.lt q (inl r) i = rw (r, keys_total.step k (key e) (key x) r q)
      go Ordering.lt q (inr r) i = rw r
      go Ordering.eq q (inl r) i = rw (← keys_total.eqv (key e) (key x) q, r)
      go Ordering.eq q (inr r) i = rw (← keys_total.eqv (key e) (key x) q, r)
      go Ordering.gt q r i = ap (λ z. choose (compare_keys k (key x)) none (some x) z) i

  pub get_remove_same : (k : Key) (l : List E) → Asc l → get key k (remove key k l) ≡ none
  unfolding get remove
  get_remove_same k [] a = refl
  get_remove_same k (x ∷ l) a = go (compare_keys k (key x)) refl (get_remove_same k l a.1)
    where
      go : (o : Ordering) → compare_keys k (key x) ≡ o → get key k (remove key k l) ≡ none
          → get key k (choose o (x ∷ l) l (x ∷ remove key k l)) ≡ none
      go Ordering.lt q i = rw q
      go Ordering.eq q i = get_first k l (rw (keys_total.eqv k (key x) q) a.0)
      go Ordering.gt q i = rw q i

  pub get_remove_other : (k d : Key) → (k ≡ d → ⊥) → (l : List E) → Asc l → get key k (remove key d l) ≡ get key k l
  unfolding get remove
  get_remove_other k d h [] a = refl
  get_remove_other k d h (x ∷ l) a = go (compare_keys d (key x)) refl (apart_order keys_total k d h) (get_remove_other k d h l a.1)
    where
      go : (o : Ordering) → compare_keys d (key x) ≡ o → (compare_keys k d ≡ Ordering.lt) ⊎ (compare_keys k d ≡ Ordering.gt)
          → get key k (remove key d l) ≡ get key k l → get key k (choose o (x ∷ l) l (x ∷ remove key d l)) ≡ get key k (x ∷ l)
      go Ordering.lt q r i = refl
      go Ordering.eq q (inl r) i =
          let e : d ≡ key x = keys_total.eqv d (key x) q in
          let u : Lt k (key x) = rw (← e) (record { is = r }) in
          rw u.is (get_first k l (over_trans k (key x) u l a.0))
      go Ordering.eq q (inr r) i = rw (← keys_total.eqv d (key x) q, r)
      go Ordering.gt q r i = ap (λ z. choose (compare_keys k (key x)) none (some x) z) i

  pub get-keep : (test : Key → Bool) (k : Key) (l : List E) → Asc l → get key k (keep key test l) ≡ cond (test k) (get key k l) none
  unfolding get keep
  get-keep test k [] a = sym (cond_same (test k) none)
  get-keep test k (x ∷ l) a = go (test (key x)) refl (compare_keys k (key x)) refl (get-keep test k l a.1)
    where
      go : (b : Bool) → test (key x) ≡ b → (o : Ordering) → compare_keys k (key x) ≡ o
          → get key k (keep key test l) ≡ cond (test k) (get key k l) none
          → get key k (cond b (x ∷ keep key test l) (keep key test l)) ≡ cond (test k) (choose o none (some x) (get key k l)) none
      go true e Ordering.lt q i = rw q (sym (cond_same (test k) none))
      go true e Ordering.eq q i = rw (q, keys_total.eqv k (key x) q, e)
      go true e Ordering.gt q i = rw q i
      go false e Ordering.lt q i =
          i ∙ ap (λ z. cond (test k) z none) (get_first k l (over_trans k (key x) (record { is = q }) l a.0))
      go false e Ordering.eq q i = i ∙ rw (keys_total.eqv k (key x) q, e)
      go false e Ordering.gt q i = i

  pub get_in : (k : Key) (l : List E) (x : E) → get key k l ≡ some x → In x l × (key x ≡ k)
  unfolding get
  get_in k [] x e = impossible cc
  get_in k (y ∷ l) x e = go (compare_keys k (key y)) refl e (get_in k l x)
    where
      go : (o : Ordering) → compare_keys k (key y) ≡ o → choose o none (some y) (get key k l) ≡ some x
          → (get key k l ≡ some x → In x l × (key x ≡ k)) → In x (y ∷ l) × (key x ≡ k)
      go Ordering.lt q r i = impossible cc
      go Ordering.eq q r i = let s : x ≡ y = cc in (inl s, rw s (sym (keys_total.eqv k (key y) q)))
      go Ordering.gt q r i = (inr (i r).0, (i r).1)

  pub in_get : (l : List E) → Asc l → (x : E) → In x l → get key (key x) l ≡ some x
  unfolding get
  in_get [] a x x4 = elim x4 [ ]
  in_get (y ∷ l) a x (inl e) = rw (e, keys_total.same (key y))
  in_get (y ∷ l) a x (inr i) = rw (lt_flip (in_all (λ z. Lt (key y) (key z)) l a.0 x i)) (in_get l a.1 x i)

  pub get-append : (k : Key) (l m : List E) → Asc (l ++ m) → get key k (l ++ m) ≡ or_else (get key k l) (get key k m)
  unfolding get
  get-append k [] m a = refl
  get-append k (x ∷ l) m a = go (compare_keys k (key x)) refl (get-append k l m a.1)
    where
      go : (o : Ordering) → compare_keys k (key x) ≡ o → get key k (l ++ m) ≡ or_else (get key k l) (get key k m)
          → choose o none (some x) (get key k (l ++ m)) ≡ or_else (choose o none (some x) (get key k l)) (get key k m)
      go Ordering.lt q i =
          sym (get_first k m (over_trans k (key x) (record { is = q }) m (sub-all (λ y. Lt (key x) (key y)) (sub-append_right l m) a.0)))
      go Ordering.eq q i = refl
      go Ordering.gt q i = i

  -- a change that changes nothing
  pub put-found : (e : E) (l : List E) → get key (key e) l ≡ some e → put key e l ≡ l
  unfolding get put
  put-found e [] h = impossible cc
  put-found e (x ∷ l) h = go (compare_keys (key e) (key x)) h (put-found e l)
    where
      go : (o : Ordering) → choose o none (some x) (get key (key e) l) ≡ some e → (get key (key e) l ≡ some e → put key e l ≡ l)
          → choose o (e ∷ x ∷ l) (e ∷ l) (x ∷ put key e l) ≡ x ∷ l
      go Ordering.lt q i = impossible cc
      go Ordering.eq q i = cc
      go Ordering.gt q i = ap (λ t. x ∷ t) (i q)

  pub remove-none : (k : Key) (l : List E) → get key k l ≡ none → remove key k l ≡ l
  unfolding get remove
  remove-none k [] h = refl
  remove-none k (x ∷ l) h = go (compare_keys k (key x)) h (remove-none k l)
    where
      go : (o : Ordering) → choose o none (some x) (get key k l) ≡ none → (get key k l ≡ none → remove key k l ≡ l)
          → choose o (x ∷ l) l (x ∷ remove key k l) ≡ x ∷ l
      go Ordering.lt q i = refl
      go Ordering.eq q i = impossible cc
      go Ordering.gt q i = ap (λ t. x ∷ t) (i q)

  -- two maps where the same is found at each key are one
  same-tail : (x : E) (l m : List E) → Asc (x ∷ l) → Asc (x ∷ m) → ((k : Key) → get key k (x ∷ l) ≡ get key k (x ∷ m))
      → (k : Key) → get key k l ≡ get key k m
  unfolding get
  same-tail x l m a b h k = go (compare_keys k (key x)) refl (h k)
    where
      out : (t : List E) → Over (key x) t → Lt k (key x) ⊎ (k ≡ key x) → get key k t ≡ none
      out t u (inl r) = get_first k t (over_trans k (key x) r t u)
      out t u (inr e) = get_first k t (rw e u)

      go : (o : Ordering) → compare_keys k (key x) ≡ o
          → choose o none (some x) (get key k l) ≡ choose o none (some x) (get key k m) → get key k l ≡ get key k m
      go Ordering.lt q e = let r : Lt k (key x) = record { is = q } in out l a.0 (inl r) ∙ sym (out m b.0 (inl r))
      go Ordering.eq q e = let r : k ≡ key x = keys_total.eqv k (key x) q in out l a.0 (inr r) ∙ sym (out m b.0 (inr r))
      go Ordering.gt q e = e

  same_head : (x : E) (l : List E) (y : E) (m : List E) → ((k : Key) → get key k (x ∷ l) ≡ get key k (y ∷ m)) → x ≡ y
  unfolding get
  same_head x l y m h = go (compare_keys (key x) (key y)) refl
    where
      first : (z : E) (t : List E) → get key (key z) (z ∷ t) ≡ some z
      first z t = rw (keys_total.same (key z))

      before : (k : Key) (z : E) (t : List E) → compare_keys k (key z) ≡ Ordering.lt → get key k (z ∷ t) ≡ none
      before k z t q = rw q

      same : compare_keys (key x) (key y) ≡ Ordering.eq → get key (key x) (y ∷ m) ≡ some y
      same q = rw q

      go : (o : Ordering) → compare_keys (key x) (key y) ≡ o → x ≡ y
      go Ordering.lt q = let e : some x ≡ none = sym (first x l) ∙ h (key x) ∙ before (key x) y m q in impossible cc
      go Ordering.eq q = let e : some x ≡ some y = sym (first x l) ∙ h (key x) ∙ same q in cc
      go Ordering.gt q =
          let r : compare_keys (key y) (key x) ≡ Ordering.lt = gt_lt keys_total (key x) (key y) q in
          let e : some y ≡ none = sym (first y m) ∙ sym (h (key y)) ∙ before (key y) x l r in impossible cc

  pub get_ext : (l m : List E) → Asc l → Asc m → ((k : Key) → get key k l ≡ get key k m) → l ≡ m
  unfolding get
  get_ext [] [] a b h = refl
  get_ext [] (y ∷ m) a b h = impossible cc (h (key y), keys_total.same (key y))
  get_ext (x ∷ l) [] a b h = impossible cc (h (key x), keys_total.same (key x))
  get_ext (x ∷ l) (y ∷ m) a b h =
      let e : x ≡ y = same_head x l y m h in
      cc (e, get_ext l m a.1 b.1 (same-tail x l m a (rw e b) (λ k. rw (← e) at (h k))))

-- 5. A map of the elements that keeps their keys

module _ {E F : Type 0} (key : E → Key) (key' : F → Key) (f : E → F) (same : (x : E) → key' (f x) ≡ key x) where
  pub under-map : (k : Key) (l : List E) → Under key k l → Under key' k (map f l)
  under-map k l u = all_map (λ x. Lt (key x) k) (λ y. Lt (key' y) k) f (λ x h. rw (same x) h) l u

  pub over-map : (k : Key) (l : List E) → Over key k l → Over key' k (map f l)
  over-map k l u = all_map (λ x. Lt k (key x)) (λ y. Lt k (key' y)) f (λ x h. rw (same x) h) l u

  pub map_asc : (l : List E) → Asc key l → Asc key' (map f l)
  map_asc [] a = tt
  map_asc (x ∷ l) a = (rw (same x) (over-map (key x) l a.0), map_asc l a.1)

  pub get-map : (k : Key) (l : List E) → get key' k (map f l) ≡ over f (get key k l)
  unfolding get
  get-map k [] = refl
  get-map k (x ∷ l) = rw (same x) (go (compare_keys k (key x)) (get-map k l))
    where
      go : (o : Ordering) → get key' k (map f l) ≡ over f (get key k l)
          → choose o none (some (f x)) (get key' k (map f l)) ≡ over f (choose o none (some x) (get key k l))
      go Ordering.lt i = refl
      go Ordering.eq i = refl
      go Ordering.gt i = i

  pub map-put : (e : E) (l : List E) → map f (put key e l) ≡ put key' (f e) (map f l)
  unfolding put
  map-put e [] = refl
  map-put e (x ∷ l) = rw (same e, same x) (go (compare_keys (key e) (key x)) (map-put e l))
    where
      go : (o : Ordering) → map f (put key e l) ≡ put key' (f e) (map f l)
          → map f (choose o (e ∷ x ∷ l) (e ∷ l) (x ∷ put key e l))
          ≡ choose o (f e ∷ f x ∷ map f l) (f e ∷ map f l) (f x ∷ put key' (f e) (map f l))
      go Ordering.lt i = refl
      go Ordering.eq i = refl
      go Ordering.gt i = ap (λ t. f x ∷ t) i

  pub map-remove : (k : Key) (l : List E) → map f (remove key k l) ≡ remove key' k (map f l)
  unfolding remove
  map-remove k [] = refl
  map-remove k (x ∷ l) = rw (same x) (go (compare_keys k (key x)) (map-remove k l))
    where
      go : (o : Ordering) → map f (remove key k l) ≡ remove key' k (map f l)
          → map f (choose o (x ∷ l) l (x ∷ remove key k l)) ≡ choose o (f x ∷ map f l) (map f l) (f x ∷ remove key' k (map f l))
      go Ordering.lt i = refl
      go Ordering.eq i = refl
      go Ordering.gt i = ap (λ t. f x ∷ t) i

  pub map-keep : (test : Key → Bool) (l : List E) → map f (keep key test l) ≡ keep key' test (map f l)
  unfolding keep
  map-keep test [] = refl
  map-keep test (x ∷ l) = rw (same x) (go (test (key x)) (map-keep test l))
    where
      go : (b : Bool) → map f (keep key test l) ≡ keep key' test (map f l)
          → map f (cond b (x ∷ keep key test l) (keep key test l)) ≡ cond b (f x ∷ keep key' test (map f l)) (keep key' test (map f l))
      go true i = ap (λ t. f x ∷ t) i
      go false i = i
