-- Numbers and their bytes: each says the other, in the same order, signed or not, at any width.
use Rattle.std.specs.Prelude.{◌≡◌, refl, List, [], ◌∷◌, ◌++◌, Bool, true, false, length, get_or, take, drop, replicate, eqb}
use Rattle.std.proofs.Common.{sym, ◌∙◌, ap, arith, add-zero, zero-add, zero-mul, add-mul, mul_assoc, pow-suc, div-one, div-add-mod', div-lt_iff_lt-mul, mod-lt, mod-eq_of_lt, length-append, lit<, leb-true, leb-false}
use Prim.Native.Nat.{ℕ, zero, suc, ◌+◌, ◌-◌, ◌*◌, ◌/◌, ◌%◌, ◌≤◌, ◌<◌, compare, Ordering}
use Rattle.std.proofs.Math.Decide.{dec_lt}
use Rattle.std.proofs.Math.Nat.{pow-zero, pow-succ', div-div-eq-div-mul, mod-eq-sub-mod, one-le-pow}
use Rattle.std.proofs.Math.Seq.{slice}
use Rattle.std.proofs.Math.Arith.{digits_lt, digits_div, digits_mod}
use Rattle.std.proofs.Math.Dec.{compare_is_eq}
use Rattle.model.specs.Choice.{joined}
use Rattle.model.specs.Number.{Bytes, AreBytes, spelt, number, bytes, span, half, place, is_negative}
use Rattle.model.specs.Order.{then_by, compare_bytes, is_same, same_bytes}
use Rattle.laws.specs.Lists.{All, all_append, all-append-left, all-append_right, all_take, all_drop, all_replicate, all_imp}
use Rattle.laws.specs.Lists.{all-joined}
use Rattle.laws.specs.Order.{then_by_eq, then_by_assoc, lt-compare, gt_compare, eq_compare, compare-lt, compare_eq, compare_gt}

-- 1. Byte strings

pub bytes-all : (s : Bytes) → AreBytes s → All (λ x. x < 256) s
bytes-all [] h = tt
bytes-all (x ∷ s) h = (h.0, bytes-all s h.1)

pub all-bytes : (s : Bytes) → All (λ x. x < 256) s → AreBytes s
all-bytes [] h = tt
all-bytes (x ∷ s) h = (h.0, all-bytes s h.1)

pub append_are_bytes : (s t : Bytes) → AreBytes s → AreBytes t → AreBytes (s ++ t)
append_are_bytes s t h k = all-bytes (s ++ t) (all_append (λ x. x < 256) s t (bytes-all s h) (bytes-all t k))

pub left_are_bytes : (s t : Bytes) → AreBytes (s ++ t) → AreBytes s
left_are_bytes s t h = all-bytes s (all-append-left (λ x. x < 256) s t (bytes-all (s ++ t) h))

pub right_are_bytes : (s t : Bytes) → AreBytes (s ++ t) → AreBytes t
right_are_bytes s t h = all-bytes t (all-append_right (λ x. x < 256) s t (bytes-all (s ++ t) h))

pub take_are_bytes : (n : ℕ) (s : Bytes) → AreBytes s → AreBytes (take n s)
take_are_bytes n s h = all-bytes (take n s) (all_take (λ x. x < 256) n s (bytes-all s h))

pub drop_are_bytes : (n : ℕ) (s : Bytes) → AreBytes s → AreBytes (drop n s)
drop_are_bytes n s h = all-bytes (drop n s) (all_drop (λ x. x < 256) n s (bytes-all s h))

pub slice_are_bytes : (from upto : ℕ) (s : Bytes) → AreBytes s → AreBytes (slice from upto s)
slice_are_bytes from upto s h = drop_are_bytes from (take upto s) (take_are_bytes upto s h)

pub replicate_are_bytes : (n x : ℕ) → x < 256 → AreBytes (replicate n x)
replicate_are_bytes n x h = all-bytes (replicate n x) (all_replicate (λ y. y < 256) n x h)

pub joined_are_bytes : {A : Type 0} (f : A → Bytes) (l : List A) → All (λ x. AreBytes (f x)) l → AreBytes (joined f l)
joined_are_bytes f l u =
    all-bytes (joined f l)
    (all-joined f (λ x. x < 256) l (all_imp (λ x. AreBytes (f x)) (λ x. All (λ y. y < 256) (f x)) (λ x h. bytes-all (f x) h) l u))

pub byte_at : (s : Bytes) → AreBytes s → (i : ℕ) → get_or s i 0 < 256
byte_at [] h i = lit< tt
byte_at (x ∷ s) h zero = h.0
byte_at (x ∷ s) h (suc i) = byte_at s h.1 i

-- 2. A number's bytes

pub span_pos : (width : ℕ) → 0 < span width
span_pos width = one-le-pow width 256 (lit< tt)

pub span-step : (v x width : ℕ) → v < span width → x < 256 → v * 256 + x < span (suc width)
span-step v x width h k = rw pow-suc (digits_lt h k)

pub span-div : (n width : ℕ) → n < span (suc width) → n / 256 < span width
span-div n width h = (div-lt_iff_lt-mul (lit< tt)).1 (rw pow-suc at h)

pub length-bytes : (width n : ℕ) → length (bytes width n) ≡ width
length-bytes zero n = refl
length-bytes (suc width) n = length-append (bytes width (n / 256)) (n % 256 ∷ []) ∙ (let h = length-bytes width (n / 256) in omega arith)

pub bytes_are_bytes : (width n : ℕ) → AreBytes (bytes width n)
bytes_are_bytes zero n = tt
bytes_are_bytes (suc width) n =
    append_are_bytes (bytes width (n / 256)) (n % 256 ∷ []) (bytes_are_bytes width (n / 256)) (mod-lt n (lit< tt), tt)

-- the upper byte first
pub bytes-cons : (width n : ℕ) → bytes (suc width) n ≡ n / span width % 256 ∷ bytes width n
bytes-cons zero n = rw (pow-zero, div-one)
bytes-cons (suc width) n = rw (bytes-cons width (n / 256), pow-succ' 256 width, div-div-eq-div-mul)

-- 3. The number of bytes

pub spelt-append : (v : ℕ) (s t : Bytes) → spelt v (s ++ t) ≡ spelt (spelt v s) t
spelt-append v [] t = refl
spelt-append v (x ∷ s) t = spelt-append (v * 256 + x) s t

pub spelt-number : (v : ℕ) (s : Bytes) → spelt v s ≡ v * span (length s) + number s
spelt-number v [] = rw pow-zero (omega arith)
spelt-number v (x ∷ s) =
    rw (spelt-number (v * 256 + x) s, spelt-number (0 * 256 + x) s, pow-succ') (simp (add-mul, mul_assoc, zero-mul, zero-add) (omega arith))

pub number_append : (s t : Bytes) → number (s ++ t) ≡ number s * span (length t) + number t
number_append s t = spelt-append 0 s t ∙ spelt-number (number s) t

pub number_byte : (x : ℕ) → number (x ∷ []) ≡ x
number_byte x = omega arith

pub spelt-bound : (v width : ℕ) (s : Bytes) → v < span width → AreBytes s → spelt v s < span (width + length s)
spelt-bound v width [] h b = rw add-zero h
spelt-bound v width (x ∷ s) h b =
    let e : width + suc (length s) ≡ suc width + length s = omega arith in
    rw e (spelt-bound (v * 256 + x) (suc width) s (span-step v x width h b.0) b.1)

pub number_bound : (s : Bytes) → AreBytes s → number s < span (length s)
number_bound s h = rw zero-add at (spelt-bound 0 0 s (lit< tt) h)

-- 4. Each says the other

pub number_bytes_lem : (width n : ℕ) → n < span width → number (bytes width n) ≡ n
number_bytes_lem zero n h = omega arith
number_bytes_lem (suc width) n h =
    spelt-append 0 (bytes width (n / 256)) (n % 256 ∷ [])
    ∙ ap (λ k. k * 256 + n % 256) (number_bytes_lem width (n / 256) (span-div n width h))
    ∙ div-add-mod' n 256

spelt_upper : (v : ℕ) (s : Bytes) → AreBytes s → spelt v s / span (length s) ≡ v
spelt_upper v [] b = rw (pow-zero, div-one)
spelt_upper v (x ∷ s) b = rw (pow-suc, ← div-div-eq-div-mul, spelt_upper (v * 256 + x) s b.1) (digits_div v b.0)

bytes-spelt : (v : ℕ) (s : Bytes) → AreBytes s → bytes (length s) (spelt v s) ≡ s
bytes-spelt v [] b = refl
bytes-spelt v (x ∷ s) b =
    let w = v * 256 + x in
    rw (bytes-cons (length s) (spelt w s), spelt_upper w s b.1, digits_mod v b.0, bytes-spelt w s b.1)

pub bytes-number : (s : Bytes) → AreBytes s → bytes (length s) (number s) ≡ s
bytes-number s b = bytes-spelt 0 s b

pub number_injective : (s t : Bytes) → AreBytes s → AreBytes t → length s ≡ length t → number s ≡ number t → s ≡ t
number_injective s t a b l e = sym (bytes-number s a) ∙ cc (l, e) ∙ bytes-number t b

pub bytes_injective : (width m n : ℕ) → m < span width → n < span width → bytes width m ≡ bytes width n → m ≡ n
bytes_injective width m n p q e = sym (number_bytes_lem width m p) ∙ ap number e ∙ number_bytes_lem width n q

-- 5. Byte strings of one length are in the order of their numbers

digits-compare : (v w x y : ℕ) → x < 256 → y < 256 → compare (v * 256 + x) (w * 256 + y) ≡ then_by (compare v w) (compare x y)
digits-compare v w x y p q = go (compare v w) refl (compare x y) refl
  where
    go : (o : Ordering) → compare v w ≡ o → (r : Ordering) → compare x y ≡ r → compare (v * 256 + x) (w * 256 + y) ≡ then_by o r
    go Ordering.lt e r f = let h : v < w = compare-lt v w e in lt-compare (v * 256 + x) (w * 256 + y) (omega arith)
    go Ordering.gt e r f = let h : w < v = compare_gt v w e in gt_compare (v * 256 + x) (w * 256 + y) (omega arith)
    go Ordering.eq e Ordering.lt f =
        let h : v ≡ w = compare_eq v w e in let k : x < y = compare-lt x y f in lt-compare (v * 256 + x) (w * 256 + y) (omega arith)
    go Ordering.eq e Ordering.eq f =
        let h : v ≡ w = compare_eq v w e in let k : x ≡ y = compare_eq x y f in eq_compare (v * 256 + x) (w * 256 + y) (omega arith)
    go Ordering.eq e Ordering.gt f =
        let h : v ≡ w = compare_eq v w e in let k : y < x = compare_gt x y f in gt_compare (v * 256 + x) (w * 256 + y) (omega arith)

compare-spelt : (v w : ℕ) (a b : Bytes) → length a ≡ length b → AreBytes a → AreBytes b
    → compare (spelt v a) (spelt w b) ≡ then_by (compare v w) (compare_bytes a b)
unfolding compare_bytes
compare-spelt v w [] [] l p q = sym (then_by_eq (compare v w))
compare-spelt v w [] (y ∷ b) l p q = absurd (omega arith)
compare-spelt v w (x ∷ a) [] l p q = absurd (omega arith)
compare-spelt v w (x ∷ a) (y ∷ b) l p q =
    compare-spelt (v * 256 + x) (w * 256 + y) a b (omega arith) p.1 q.1
    ∙ rw (digits-compare v w x y p.0 q.0, then_by_assoc)

pub compare-number : (a b : Bytes) → length a ≡ length b → AreBytes a → AreBytes b → compare_bytes a b ≡ compare (number a) (number b)
compare-number a b l p q = sym (compare-spelt 0 0 a b l p q)

pub same_bytes-number : (a b : Bytes) → length a ≡ length b → AreBytes a → AreBytes b → same_bytes a b ≡ eqb (number a) (number b)
unfolding same_bytes
same_bytes-number a b l p q = rw (compare-number a b l p q) (go (compare (number a) (number b)))
  where
    go : (o : Ordering) → is_same o ≡ compare_is_eq o
    go Ordering.lt = refl
    go Ordering.eq = refl
    go Ordering.gt = refl

-- 6. Signed numbers, by place

pub half-half : (width : ℕ) → 0 < width → half width + half width ≡ span width
half-half zero h = absurd (omega arith)
half-half (suc width) h = omega (arith, pow-suc 256 width)

pub place-bound : (width n : ℕ) → place width n < span width
place-bound width n = mod-lt (n + half width) (span_pos width)

pub place_nonnegative : (width n : ℕ) → n < half width → place width n ≡ n + half width
place_nonnegative width n h = mod-eq_of_lt (omega arith)

pub place-negative : (width n : ℕ) → half width ≤ n → n < span width → place width n ≡ n - half width
place-negative zero n h k = omega arith
place-negative (suc width) n h k =
    let e : half (suc width) + half (suc width) ≡ span (suc width) = half-half (suc width) (omega arith) in
    mod-eq-sub-mod (omega arith) ∙ mod-eq_of_lt (omega arith) ∙ omega arith

pub place-place : (width n : ℕ) → n < span width → place width (place width n) ≡ n
place-place zero n h = omega arith
place-place (suc width) n h = go (dec_lt n (half (suc width)))
  where
    e : half (suc width) + half (suc width) ≡ span (suc width)
    e = half-half (suc width) (omega arith)

    go : Dec (n < half (suc width)) → place (suc width) (place (suc width) n) ≡ n
    go (yes l) =
        rw (place_nonnegative (suc width) n l)
        (place-negative (suc width) (n + half (suc width)) (omega arith) (omega arith) ∙ omega arith)
    go (no l) =
        rw (place-negative (suc width) n (omega arith) h)
        (place_nonnegative (suc width) (n - half (suc width)) (omega arith) ∙ omega arith)

pub place_injective : (width m n : ℕ) → m < span width → n < span width → place width m ≡ place width n → m ≡ n
place_injective width m n p q e = sym (place-place width m p) ∙ ap (place width) e ∙ place-place width n q

-- numbers as far apart as others compare as they do
compare_shift : (a b c d : ℕ) → a + d ≡ c + b → compare a b ≡ compare c d
compare_shift a b c d e = go (compare c d) refl
  where
    go : (o : Ordering) → compare c d ≡ o → compare a b ≡ o
    go Ordering.lt q = let h : c < d = compare-lt c d q in lt-compare a b (omega arith)
    go Ordering.eq q = let h : c ≡ d = compare_eq c d q in eq_compare a b (omega arith)
    go Ordering.gt q = let h : d < c = compare_gt c d q in gt_compare a b (omega arith)

-- places are in the order of the signed values: of one sign, in the numbers' order; a negative one below one that is not
pub place_order : (width m n : ℕ) → m < span width → n < span width → is_negative width m ≡ is_negative width n
    → compare (place width m) (place width n) ≡ compare m n
place_order width m n p q e = go (is_negative width n) e refl
  where
    go : (b : Bool) → is_negative width m ≡ b → is_negative width n ≡ b → compare (place width m) (place width n) ≡ compare m n
    go true h k =
        let u : half width ≤ m = leb-true (half width) m h in
        let v : half width ≤ n = leb-true (half width) n k in
        rw (place-negative width m u p, place-negative width n v q) (compare_shift (m - half width) (n - half width) m n (omega arith))
    go false h k =
        rw (place_nonnegative width m (leb-false (half width) m h), place_nonnegative width n (leb-false (half width) n k))
        (compare_shift (m + half width) (n + half width) m n (omega arith))

pub place-below : (width m n : ℕ) → m < span width → is_negative width m ≡ true → is_negative width n ≡ false → place width m < place width n
place-below zero m n p h k = absurd (omega (arith, leb-false (half 0) n k))
place-below (suc width) m n p h k =
    let u : half (suc width) ≤ m = leb-true (half (suc width)) m h in
    let v : n < half (suc width) = leb-false (half (suc width)) n k in
    rw (place-negative (suc width) m u p, place_nonnegative (suc width) n v) (omega (arith, half-half (suc width) (omega arith)))
