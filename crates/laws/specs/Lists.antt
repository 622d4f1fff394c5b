-- Lists: what holds of all elements, membership, sums, folds, maps and sublists.
use Rattle.std.specs.Prelude.{◌≡◌, Bool, true, false, ◌&&◌, ◌⊎◌, ℕ, zero, suc, ◌+◌, ◌≤◌, ◌<◌, length, take, drop, replicate}
use Rattle.std.proofs.Math.Path.{refl, sym}
use Rattle.std.proofs.Common.{◌∙◌, ap, inl, inr, not-suc-le-zero, suc-add, zero-add, length-append}
use mathlib.Core.List.{List, [], ◌∷◌, ◌++◌, map, append_assoc}
use Rattle.std.proofs.Math.Option.{none, some}
use native.Mathlib.Omega.{arith}
use Rattle.std.proofs.Math.ListN.{get_elem?}
use Rattle.model.specs.Choice.{every, joined, total, folded}
use Rattle.laws.specs.Choice.{impossible, and_left, and_right, and_both}

-- 1. All elements, and one of them

module _ {A : Type 0} where
  abbrev pub All : (A → Type 0) → List A → Type 0
  All P [] = Unit {0}
  All P (x ∷ l) = P x × All P l

  abbrev pub In : A → List A → Type 0
  In x [] = ⊥
  In x (y ∷ l) = (x ≡ y) ⊎ In x l

  pub all_in : (P : A → Type 0) (l : List A) → ((x : A) → In x l → P x) → All P l
  all_in P [] h = tt
  all_in P (x ∷ l) h = (h x (inl refl), all_in P l (λ y i. h y (inr i)))

  pub in_all : (P : A → Type 0) (l : List A) → All P l → (x : A) → In x l → P x
  in_all P [] u x x4 = elim x4 [ ]
  in_all P (y ∷ l) u x (inl e) = rw e u.0
  in_all P (y ∷ l) u x (inr i) = in_all P l u.1 x i

  pub all_any : (P : A → Type 0) → ((x : A) → P x) → (l : List A) → All P l
  all_any P h l = all_in P l (λ x i. h x)

  pub all_imp : (P Q : A → Type 0) → ((x : A) → P x → Q x) → (l : List A) → All P l → All Q l
  all_imp P Q h l u = all_in Q l (λ x i. h x (in_all P l u x i))

  pub all_both : (P Q : A → Type 0) (l : List A) → All P l → All Q l → All (λ x. P x × Q x) l
  all_both P Q [] u v = tt
  all_both P Q (x ∷ l) u v = ((u.0, v.0), all_both P Q l u.1 v.1)

  pub all_append : (P : A → Type 0) (l m : List A) → All P l → All P m → All P (l ++ m)
  all_append P [] m u v = v
  all_append P (x ∷ l) m u v = (u.0, all_append P l m u.1 v)

  pub all-append-left : (P : A → Type 0) (l m : List A) → All P (l ++ m) → All P l
  all-append-left P [] m u = tt
  all-append-left P (x ∷ l) m u = (u.0, all-append-left P l m u.1)

  pub all-append_right : (P : A → Type 0) (l m : List A) → All P (l ++ m) → All P m
  all-append_right P [] m u = u
  all-append_right P (x ∷ l) m u = all-append_right P l m u.1

  pub all_take : (P : A → Type 0) (n : ℕ) (l : List A) → All P l → All P (take n l)
  all_take P zero l u = tt
  all_take P (suc n) [] u = tt
  all_take P (suc n) (x ∷ l) u = (u.0, all_take P n l u.1)

  pub all_drop : (P : A → Type 0) (n : ℕ) (l : List A) → All P l → All P (drop n l)
  all_drop P zero l u = u
  all_drop P (suc n) [] u = tt
  all_drop P (suc n) (x ∷ l) u = all_drop P n l u.1

  pub all_replicate : (P : A → Type 0) (n : ℕ) (x : A) → P x → All P (replicate n x)
  all_replicate P zero x h = tt
  all_replicate P (suc n) x h = (h, all_replicate P n x h)

  pub in_append_left : (x : A) (l m : List A) → In x l → In x (l ++ m)
  in_append_left x [] m x'' = elim x'' [ ]
  in_append_left x (y ∷ l) m (inl e) = inl e
  in_append_left x (y ∷ l) m (inr i) = inr (in_append_left x l m i)

  pub in_append_right : (x : A) (l m : List A) → In x m → In x (l ++ m)
  in_append_right x [] m i = i
  in_append_right x (y ∷ l) m i = inr (in_append_right x l m i)

  pub in_append : (x : A) (l m : List A) → In x (l ++ m) → In x l ⊎ In x m
  in_append x [] m i = inr i
  in_append x (y ∷ l) m (inl e) = inl (inl e)
  in_append x (y ∷ l) m (inr i) = go (in_append x l m i)
    where
      go : In x l ⊎ In x m → In x (y ∷ l) ⊎ In x m
      go (inl j) = inl (inr j)
      go (inr j) = inr j

  -- a test that all pass
  pub every_true : (test : A → Bool) (l : List A) → every test l ≡ true → All (λ x. test x ≡ true) l
  every_true test [] h = tt
  every_true test (x ∷ l) h = (and_left (test x) (every test l) h, every_true test l (and_right (test x) (every test l) h))

  pub all-every : (test : A → Bool) (l : List A) → All (λ x. test x ≡ true) l → every test l ≡ true
  all-every test [] u = refl
  all-every test (x ∷ l) u = and_both (test x) (every test l) u.0 (all-every test l u.1)

  pub every_append : (test : A → Bool) (l m : List A) → every test (l ++ m) ≡ every test l && every test m
  every_append test [] m = refl
  every_append test (x ∷ l) m = rw (every_append test l m) (go (test x))
    where
      go : (b : Bool) → b && (every test l && every test m) ≡ b && every test l && every test m
      go true = refl
      go false = refl

-- 2. Maps

module _ {A B : Type 0} where
  pub map-append : (f : A → B) (l m : List A) → map f (l ++ m) ≡ map f l ++ map f m
  map-append f [] m = refl
  map-append f (x ∷ l) m = ap (λ t. f x ∷ t) (map-append f l m)

  pub map-all : (f g : A → B) (l : List A) → All (λ x. f x ≡ g x) l → map f l ≡ map g l
  map-all f g [] u = refl
  map-all f g (x ∷ l) u = cc (u.0, map-all f g l u.1)

  pub all_map : (P : A → Type 0) (Q : B → Type 0) (f : A → B) → ((x : A) → P x → Q (f x)) → (l : List A) → All P l → All Q (map f l)
  all_map P Q f h [] u = tt
  all_map P Q f h (x ∷ l) u = (h x u.0, all_map P Q f h l u.1)

  pub in_map : (f : A → B) (l : List A) (x : A) → In x l → In (f x) (map f l)
  in_map f [] x x3 = elim x3 [ ]
  in_map f (y ∷ l) x (inl e) = inl (ap f e)
  in_map f (y ∷ l) x (inr i) = inr (in_map f l x i)

  -- an element of a map is of an element
  pub map_in : (f : A → B) (l : List A) (y : B) → In y (map f l) → (x : A) × In x l × (y ≡ f x)
  map_in f [] y x' = elim x' [ ]
  map_in f (x ∷ l) y (inl e) = (x, inl refl, e)
  map_in f (x ∷ l) y (inr i) = let r = map_in f l y i in (r.0, inr r.1, r.2)

  pub every_map : (test : B → Bool) (f : A → B) (l : List A) → every test (map f l) ≡ every (λ x. test (f x)) l
  every_map test f [] = refl
  every_map test f (x ∷ l) = rw (every_map test f l)

pub map_same : {A : Type 0} (f : A → A) (l : List A) → All (λ x. f x ≡ x) l → map f l ≡ l
map_same f [] u = refl
map_same f (x ∷ l) u = cc (u.0, map_same f l u.1)

pub map-map : {A B C : Type 0} (f : B → C) (g : A → B) (l : List A) → map f (map g l) ≡ map (λ x. f (g x)) l
map-map f g [] = refl
map-map f g (x ∷ l) = ap (λ t. f (g x) ∷ t) (map-map f g l)

-- 3. Joins, sums, folds

module _ {A B : Type 0} (f : A → List B) where
  pub joined-append : (l m : List A) → joined f (l ++ m) ≡ joined f l ++ joined f m
  joined-append [] m = refl
  joined-append (x ∷ l) m = rw (joined-append l m) (sym (append_assoc (f x) (joined f l) (joined f m)))

  pub all-joined : (P : B → Type 0) (l : List A) → All (λ x. All P (f x)) l → All P (joined f l)
  all-joined P [] u = tt
  all-joined P (x ∷ l) u = all_append P (f x) (joined f l) u.0 (all-joined P l u.1)

pub joined-map : {A B C : Type 0} (f : B → List C) (g : A → B) (l : List A) → joined f (map g l) ≡ joined (λ x. f (g x)) l
joined-map f g [] = refl
joined-map f g (x ∷ l) = ap (λ t. f (g x) ++ t) (joined-map f g l)

module _ {A : Type 0} where
  pub total-append : (f : A → ℕ) (l m : List A) → total f (l ++ m) ≡ total f l + total f m
  unfolding total
  total-append f [] m = sym (zero-add (total f m))
  total-append f (x ∷ l) m = rw (total-append f l m) (omega arith)

  pub total-all : (f g : A → ℕ) (l : List A) → All (λ x. f x ≡ g x) l → total f l ≡ total g l
  unfolding total
  total-all f g [] u = refl
  total-all f g (x ∷ l) u = cc (u.0, total-all f g l u.1)

  pub folded-append : {B : Type 0} (f : B → A → B) (b : B) (l m : List A) → folded f b (l ++ m) ≡ folded f (folded f b l) m
  unfolding folded
  folded-append f b [] m = refl
  folded-append f b (x ∷ l) m = folded-append f (f b x) l m

  pub folded-still : {B : Type 0} (f : B → A → B) (b : B) (l : List A) → All (λ x. f b x ≡ b) l → folded f b l ≡ b
  unfolding folded
  folded-still f b [] u = refl
  folded-still f b (x ∷ l) u = rw u.0 (folded-still f b l u.1)

pub total-map : {A B : Type 0} (g : B → ℕ) (f : A → B) (l : List A) → total g (map f l) ≡ total (λ x. g (f x)) l
unfolding total
total-map g f [] = refl
total-map g f (x ∷ l) = ap (λ n. g (f x) + n) (total-map g f l)

pub total-map-same : {A : Type 0} (g : A → ℕ) (f : A → A) (l : List A) → All (λ x. g (f x) ≡ g x) l → total g (map f l) ≡ total g l
total-map-same g f l u = total-map g f l ∙ total-all (λ x. g (f x)) g l u

-- the length of what is joined is the sum of the lengths
pub length-joined : {A B : Type 0} (f : A → List B) (l : List A) → length (joined f l) ≡ total (λ x. length (f x)) l
unfolding total
length-joined f [] = refl
length-joined f (x ∷ l) = length-append (f x) (joined f l) ∙ ap (λ n. length (f x) + n) (length-joined f l)

-- 4. Sublists: some elements left out, the others in the same order

pub data Sub {A : Type 0} : List A → List A → Type 0 where
  nil : {l : List A} → Sub [] l
  skip : {x : A} {k l : List A} → Sub k l → Sub k (x ∷ l)
  keep_on : {x : A} {k l : List A} → Sub k l → Sub (x ∷ k) (x ∷ l)

module _ {A : Type 0} where
  pub sub_self : (l : List A) → Sub l l
  sub_self [] = nil
  sub_self (x ∷ l) = keep_on (sub_self l)

  sub_within : {j k l : List A} → Sub k l → Sub j k → Sub j l
  sub_within nil nil = nil
  sub_within (skip t) s = skip (sub_within t s)
  sub_within (keep_on t) nil = nil
  sub_within (keep_on t) (skip s) = skip (sub_within t s)
  sub_within (keep_on {k = k'} {l = l} t) (keep_on {x = x} {k = k} s) = keep_on (sub_within {j = k} t s)

  pub sub_trans : {j k l : List A} → Sub j k → Sub k l → Sub j l
  sub_trans s t = sub_within t s

  pub sub-all : (P : A → Type 0) {k l : List A} → Sub k l → All P l → All P k
  sub-all P nil u = tt
  sub-all P (skip s) u = sub-all P s u.1
  sub-all P (keep_on s) u = (u.0, sub-all P s u.1)

  pub sub_in : (x : A) {k l : List A} → Sub k l → In x k → In x l
  sub_in x (nil {l = l}) i = elim i [ ]
  sub_in x (skip s) i = inr (sub_in x s i)
  sub_in x (keep_on s) (inl e) = inl e
  sub_in x (keep_on s) (inr i) = inr (sub_in x s i)

  pub sub-every : (test : A → Bool) {k l : List A} → Sub k l → every test l ≡ true → every test k ≡ true
  sub-every test {k} {l} s h = all-every test k (sub-all (λ x. test x ≡ true) s (every_true test l h))

  pub sub-total : (f : A → ℕ) {k l : List A} → Sub k l → total f k ≤ total f l
  unfolding total
  sub-total f nil = omega arith
  sub-total f (skip s) = let h = sub-total f s in omega arith
  sub-total f (keep_on s) = let h = sub-total f s in omega arith

  pub sub-append-left : (l m : List A) → Sub l (l ++ m)
  sub-append-left [] m = nil
  sub-append-left (x ∷ l) m = keep_on (sub-append-left l m)

  pub sub-append_right : (l m : List A) → Sub m (l ++ m)
  sub-append_right [] m = sub_self m
  sub-append_right (x ∷ l) m = skip (sub-append_right l m)

pub sub-map : {A B : Type 0} (f : A → B) {k l : List A} → Sub k l → Sub (map f k) (map f l)
sub-map f nil = nil
sub-map f (skip s) = skip (sub-map f s)
sub-map f (keep_on s) = keep_on (sub-map f s)

-- 5. Elements by their place

module _ {A : Type 0} where
  pub get_elem?_drop : (n i : ℕ) (l : List A) → get_elem? (drop n l) i ≡ get_elem? l (n + i)
  get_elem?_drop zero i l = rw zero-add
  get_elem?_drop (suc n) i [] = refl
  get_elem?_drop (suc n) i (x ∷ l) = rw suc-add (get_elem?_drop n i l)

  pub get_elem?_take : (n i : ℕ) (l : List A) → i < n → get_elem? (take n l) i ≡ get_elem? l i
  get_elem?_take zero i l h = absurd (not-suc-le-zero h)
  get_elem?_take (suc n) i [] h = refl
  get_elem?_take (suc n) zero (x ∷ l) h = refl
  get_elem?_take (suc n) (suc i) (x ∷ l) h = get_elem?_take n i l (omega arith)

  pub get_elem?_take_past : (n i : ℕ) (l : List A) → n ≤ i → get_elem? (take n l) i ≡ none
  get_elem?_take_past zero i l h = refl
  get_elem?_take_past (suc n) i [] h = refl
  get_elem?_take_past (suc n) zero (x ∷ l) h = absurd (not-suc-le-zero h)
  get_elem?_take_past (suc n) (suc i) (x ∷ l) h = get_elem?_take_past n i l (omega arith)

  pub get_elem?_some : (l : List A) (i : ℕ) (x : A) → get_elem? l i ≡ some x → i < length l
  get_elem?_some [] i x e = impossible cc
  get_elem?_some (y ∷ l) zero x e = omega arith
  get_elem?_some (y ∷ l) (suc i) x e = let h = get_elem?_some l i x e in omega arith

  pub get_elem?_past : (l : List A) (n : ℕ) → length l ≤ n → get_elem? l n ≡ none
  get_elem?_past [] n h = refl
  get_elem?_past (x ∷ l) zero h = absurd (omega arith)
  get_elem?_past (x ∷ l) (suc n) h = get_elem?_past l n (omega arith)
