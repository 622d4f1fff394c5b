-- The header part by part: the numbers always spell their bytes, so that the mark and the zeros decide.
use mathlib.Core.Path.{◌≡◌, refl, sym, ap, ap₂, ◌∙◌}
use mathlib.Core.Bool.{Bool, true, false, not, ◌&&◌}
use mathlib.Core.List.{[], ◌∷◌, ◌++◌}
use Prim.Native.Nat.{ℕ, zero, suc, ◌≤◌, ◌<◌, ◌-◌, compare, Ordering}
use native.Mathlib.Omega.{arith}
use lib.Dec.{eqb, lit≤}
use lib.ListN.{length, take, drop, length-drop, take-append-drop}
use lib.Seq.{slice, take-take, take-length, length-take-le, length-slice}
use borrow.Author.Tests.{not-true, not-false, le-leb, lt-leb}
use Rattle.model.specs.Choice.{every}
use Rattle.model.specs.Number.{Bytes, AreBytes, bytes, number, is_offset}
use Rattle.model.specs.Order.{compare_bytes, same_bytes, is_same, then_by}
use Rattle.model.specs.Image.{mark, zeros, header, head_size, used_in, fixed_in, header_ok}
use Rattle.laws.specs.Numbers.{bytes-number, slice_are_bytes}
use Rattle.laws.specs.Order.{same_bytes_self}
use Rattle.fields.proofs.Parse.{take-drop}
use Rattle.header.specs.Header.{front_ok}

-- 1. Bytes that are compared in parts

same_then : (o p : Ordering) → is_same (then_by o p) ≡ is_same o && is_same p
same_then Ordering.lt p = refl
same_then Ordering.eq p = refl
same_then Ordering.gt p = refl

and_assoc : (a b c : Bool) → a && (b && c) ≡ a && b && c
and_assoc true b c = refl
and_assoc false b c = refl

and-true : (a : Bool) → a && true ≡ a
and-true true = refl
and-true false = refl

same-append : (a b c d : Bytes) → length a ≡ length c → same_bytes (a ++ b) (c ++ d) ≡ same_bytes a c && same_bytes b d
unfolding compare_bytes same_bytes
same-append [] b [] d e = refl
same-append [] b (y ∷ c) d e = absurd (omega arith)
same-append (x ∷ a) b [] d e = absurd (omega arith)
same-append (x ∷ a) b (y ∷ c) d e =
    let o = compare x y in
    let i : same_bytes (a ++ b) (c ++ d) ≡ same_bytes a c && same_bytes b d = same-append a b c d (omega arith) in
    same_then o (compare_bytes (a ++ b) (c ++ d)) ∙ ap (λ t. is_same o && t) i ∙ and_assoc (is_same o) (same_bytes a c) (same_bytes b d)
    ∙ ap (λ t. t && same_bytes b d) (sym (same_then o (compare_bytes a c)))

same-zero : (x : ℕ) → is_same (compare x 0) ≡ eqb x 0
same-zero zero = refl
same-zero (suc x) = refl

same-zeros : (s : Bytes) (n : ℕ) → length s ≡ n → same_bytes s (zeros n) ≡ every (λ x. eqb x 0) s
unfolding compare_bytes same_bytes
same-zeros [] zero e = refl
same-zeros [] (suc n) e = absurd (omega arith)
same-zeros (x ∷ s) zero e = absurd (omega arith)
same-zeros (x ∷ s) (suc n) e = same_then (compare x 0) (compare_bytes s (zeros n)) ∙ ap₂ ◌&&◌ (same-zero x) (same-zeros s n (omega arith))

same_number : (s : Bytes) (n : ℕ) → AreBytes s → length s ≡ n → same_bytes s (bytes n (number s)) ≡ true
same_number s n b e = rw (← e, bytes-number s b) (same_bytes_self s)

-- 2. The header

cut : (from upto : ℕ) (s : Bytes) → from ≤ upto → take upto s ≡ take from s ++ slice from upto s
cut from upto s h = sym (ap (λ t. t ++ slice from upto s) (sym (take-take from upto s h)) ∙ take-append-drop from (take upto s))

module _ (b : Bytes) (are_bytes : AreBytes b) (h : head_size ≤ length b) where
  -- one part more, after parts of one length
  part : (from upto : ℕ) (x y : Bytes) (t : Bool) → from ≤ upto → upto ≤ head_size → length x ≡ from → same_bytes (take from b) x ≡ t
      → same_bytes (take upto b) (x ++ y) ≡ t && same_bytes (slice from upto b) y
  part from upto x y t low high ex et =
      ap (λ s. same_bytes s (x ++ y)) (cut from upto b low)
      ∙ same-append (take from b) (slice from upto b) x y (length-take-le from b (omega arith) ∙ sym ex)
      ∙ ap (λ q. q && same_bytes (slice from upto b) y) et

  -- a part that a number fills, and one of zeros
  number_part_lem : (from upto : ℕ) (x : Bytes) (t : Bool) → from ≤ upto → upto ≤ head_size → length x ≡ from → same_bytes (take from b) x ≡ t
      → same_bytes (take upto b) (x ++ bytes (upto - from) (number (slice from upto b))) ≡ t
  number_part_lem from upto x t low high ex et =
      let l : length (slice from upto b) ≡ upto - from = length-slice from upto b (omega arith) in
      part from upto x (bytes (upto - from) (number (slice from upto b))) t low high ex et
      ∙ ap (λ q. t && q) (same_number (slice from upto b) (upto - from) (slice_are_bytes from upto b are_bytes) l) ∙ and-true t

  zero-part : (from upto : ℕ) (x : Bytes) (t : Bool) → from ≤ upto → upto ≤ head_size → length x ≡ from → same_bytes (take from b) x ≡ t
      → same_bytes (take upto b) (x ++ zeros (upto - from)) ≡ t && every (λ y. eqb y 0) (slice from upto b)
  zero-part from upto x t low high ex et =
      part from upto x (zeros (upto - from)) t low high ex et
      ∙ ap (λ q. t && q) (same-zeros (slice from upto b) (upto - from) (length-slice from upto b (omega arith)))

  pub front_same : same_bytes (take head_size b) (header (used_in b) (fixed_in b)) ≡ front_ok b
  unfolding header mark
  front_same =
      let used = number_part_lem 8 12 mark (same_bytes (take 8 b) mark) (lit≤ tt) (lit≤ tt) refl refl in
      let gap = zero-part 12 16 _ _ (lit≤ tt) (lit≤ tt) refl used in
      let epoch = number_part_lem 16 24 _ _ (lit≤ tt) (lit≤ tt) refl gap in
      let kraft = number_part_lem 24 26 _ _ (lit≤ tt) (lit≤ tt) refl epoch in
      let rest = zero-part 26 56 _ _ (lit≤ tt) (lit≤ tt) refl kraft in
      number_part_lem 56 64 _ _ (lit≤ tt) (lit≤ tt) refl rest

-- 3. What the code learns of the mark, of the gap and of the end

module _ (b : Bytes) {m : Bool} (em : m ≡ same_bytes (take 8 (drop 0 b)) mark) where
  pub no_mark : not m ≡ true → false ≡ front_ok b
  no_mark h = rw (← em, not-true m h)

  module _ (hm : not m ≡ false) {g : Bool} (eg : g ≡ every (λ x. eqb x 0) (take 4 (drop 12 b))) where
    gap_slice : every (λ x. eqb x 0) (slice 12 16 b) ≡ g
    gap_slice = ap (every (λ x. eqb x 0)) (sym (take-drop 12 4 b)) ∙ sym eg

    pub no_gap : not g ≡ true → false ≡ front_ok b
    no_gap h = rw (← em, not-false m hm, gap_slice, not-true g h)

    pub front-end : not g ≡ false → {e : Bool} → e ≡ every (λ x. eqb x 0) (take 30 (drop 26 b)) → e ≡ front_ok b
    front-end h q = rw (← em, not-false m hm, gap_slice, not-false g h) (q ∙ ap (every (λ x. eqb x 0)) (take-drop 26 30 b))

-- 4. The header's test, exit by exit

module _ (b : Bytes) (are_bytes : AreBytes b) (h : head_size ≤ length b) {f : Bool} (ef : f ≡ front_ok b) where
  front : same_bytes (take head_size b) (header (used_in b) (fixed_in b)) ≡ f
  front = front_same b are_bytes h ∙ sym ef

  pub bad_front : not f ≡ true → false ≡ header_ok b
  unfolding header_ok
  bad_front q = rw (front, not-true f q)

  module _ (q : not f ≡ false) {u : ℕ} (eu : u ≡ used_in b) where
    pub bad_low : u < head_size → false ≡ header_ok b
    unfolding header_ok
    bad_low l = rw (front, not-false f q, ← eu, lt-leb head_size u l)

    pub bad_high : head_size ≤ u → length b < u → false ≡ header_ok b
    unfolding header_ok
    bad_high l m = rw (front, not-false f q, ← eu, le-leb head_size u l, lt-leb u (length b) m)

    module _ (l : head_size ≤ u) (m : u ≤ length b) {e : Bool} (ee : e ≡ every (λ x. eqb x 0) (take (length b - u) (drop u b))) where
      rest : every (λ x. eqb x 0) (drop u b) ≡ e
      rest =
          let all : take (length b - u) (drop u b) ≡ drop u b = ap (λ n. take n (drop u b)) (sym (length-drop u b)) ∙ take-length (drop u b) in
          rw (← all) (sym ee)

      pub bad_rest : not e ≡ true → false ≡ header_ok b
      unfolding header_ok
      bad_rest r = rw (front, not-false f q, ← eu, le-leb head_size u l, le-leb u (length b) m, rest, not-true e r)

      pub last_offset_lem : not e ≡ false → {n : ℕ} → n ≡ (fixed_in b).offset → {o : Bool} → o ≡ is_offset n → o ≡ header_ok b
      unfolding header_ok
      last_offset_lem r en eo = rw (front, not-false f q, ← eu, le-leb head_size u l, le-leb u (length b) m, rest, not-false e r, ← en) eo
