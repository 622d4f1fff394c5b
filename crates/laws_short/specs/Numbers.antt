-- The numbers of short histories: every history stands under exactly one, shorter ones first, then by positions, leftmost first.
use Rattle.std.specs.Prelude.{◌≡◌, Bool}
use Rattle.std.proofs.Math.Path.{refl, ap, ap₂}
use Rattle.std.proofs.Common.{sym, ◌∙◌, add-mul, div-add-mod', div-lt_iff_lt-mul, mod-lt}
use Rattle.std.proofs.Math.Bool.{true, false, cond}
use mathlib.Core.List.{List, [], ◌∷◌}
use Rattle.std.proofs.Math.Option.{Option, none, some}
use Prim.Native.Nat.{ℕ, zero, suc, ◌+◌, ◌-◌, ◌*◌, ◌/◌, ◌%◌, ◌^◌, ◌≤◌, ◌<◌, compare, Ordering}
use native.Mathlib.Omega.{arith}
use Rattle.std.proofs.Math.Decide.{dec_lt}
use Rattle.std.proofs.Math.Nat.{pow-zero, pow-succ', zero-mul, zero-add, mul_assoc, one-le-pow}
use Rattle.std.proofs.Math.Arith.{digits_lt, digits_div, digits_mod}
use Rattle.std.proofs.Math.Dec.{ltb}
use Rattle.std.proofs.Math.ListN.{length}
use borrow.Author.Tests.{ltb-true, ltb-false, lt-ltb, le-ltb}
use Rattle.model.specs.Order.{then_by, lexicographic}
use Rattle.model.specs.ShortHistory.{length_limit, positions, history_from, history_at, shorter_than, history_count, Among, IsHistory, UnderOneNumber, OnlyHistories, ShorterThenLeftmost, NoneFromTheCount, EightRecords}
use Rattle.laws.specs.Choice.{impossible}
use Rattle.laws.specs.Order.{lt-compare, gt_compare, eq_compare, compare-lt, compare_eq, compare_gt}

-- the number that positions spell to the base n, after some before them
unfoldable pub spelling : ℕ → ℕ → List ℕ → ℕ
spelling n before [] = before
spelling n before (p ∷ ps) = spelling n (before * n + p) ps

-- a history's number: as many as are shorter, and its own among those of its length
unfoldable pub history_number : ℕ → List ℕ → ℕ
history_number n ps = shorter_than n (length ps) + spelling n 0 ps

module _ (n : ℕ) (some_record : 0 < n) where
  pub power_pos : (len : ℕ) → 0 < n ^ len
  power_pos len = one-le-pow len n some_record

  -- 1. Of one length

  spelling_from : (v : ℕ) (ps : List ℕ) → spelling n v ps ≡ v * n ^ length ps + spelling n 0 ps
  unfolding spelling
  spelling_from v [] = rw (pow-zero n) (omega arith)
  spelling_from v (p ∷ ps) =
      rw (spelling_from (v * n + p) ps, spelling_from (0 * n + p) ps, pow-succ' n (length ps)) (simp (add-mul, mul_assoc, zero-mul, zero-add) (omega arith))

  spelling-cons : (p : ℕ) (ps : List ℕ) → spelling n 0 (p ∷ ps) ≡ p * n ^ length ps + spelling n 0 ps
  unfolding spelling
  spelling-cons p ps = ap (λ v. spelling n v ps) (ap (λ z. z + p) (zero-mul n) ∙ zero-add p) ∙ spelling_from p ps

  spelling-below : (ps : List ℕ) → Among n ps → spelling n 0 ps < n ^ length ps
  unfolding spelling
  spelling-below [] h = rw (pow-zero n) (omega arith)
  spelling-below (p ∷ ps) h = rw (spelling-cons p ps, pow-succ' n (length ps)) (digits_lt h.0 (spelling-below ps h.1))

  positions-spelling : (ps : List ℕ) → Among n ps → positions n (length ps) (spelling n 0 ps) ≡ ps
  unfolding positions
  positions-spelling [] h = refl
  positions-spelling (p ∷ ps) h =
      let low = spelling-below ps h.1 in
      rw (spelling-cons p ps, digits_div p low, digits_mod p low, positions-spelling ps h.1)

  positions-length : (len i : ℕ) → length (positions n len i) ≡ len
  unfolding positions
  positions-length zero i = refl
  positions-length (suc len) i = ap suc (positions-length len (i % n ^ len))

  pub positions-below : (len i : ℕ) → i < n ^ len → Among n (positions n len i)
  unfolding positions
  positions-below zero i h = tt
  positions-below (suc len) i h =
      ((div-lt_iff_lt-mul (power_pos len)).1 (rw (pow-succ' n len) at h), positions-below len (i % n ^ len) (mod-lt i (power_pos len)))

  spelling-positions : (len i : ℕ) → i < n ^ len → spelling n 0 (positions n len i) ≡ i
  unfolding positions spelling
  spelling-positions zero i h = let k : i < 1 = rw (pow-zero n) at h in omega arith
  spelling-positions (suc len) i h =
      spelling-cons (i / n ^ len) (positions n len (i % n ^ len))
      ∙ rw (positions-length len (i % n ^ len), spelling-positions len (i % n ^ len) (mod-lt i (power_pos len))) (div-add-mod' i (n ^ len))

  -- 2. Shorter ones first

  -- a history that is found from a length on
  pub record Found (len left i : ℕ) (ps : List ℕ) : Type 0 where
    pub short : length ps < len + left
    pub inside : Among n ps
    pub number : shorter_than n (length ps) + spelling n 0 ps ≡ shorter_than n len + i

  found_from : (left len i : ℕ) (ps : List ℕ) → history_from n left len i ≡ some ps → Found len left i ps
  unfolding history_from shorter_than
  found_from zero len i ps e = impossible cc
  found_from (suc left) len i ps e = go (ltb i (n ^ len)) refl e (λ q. found_from left (suc len) (i - n ^ len) ps q)
    where
      go : (b : Bool) → ltb i (n ^ len) ≡ b → cond b (some (positions n len i)) (history_from n left (suc len) (i - n ^ len)) ≡ some ps
          → (history_from n left (suc len) (i - n ^ len) ≡ some ps → Found (suc len) left (i - n ^ len) ps) → Found len (suc left) i ps
      go true b q f =
          let low = ltb-true i (n ^ len) b in
          let same : positions n len i ≡ ps = cc in
          rw (← same) (record {
            short = omega (arith, positions-length len i);
            inside = positions-below len i low;
            number = ap₂ (λ x y. shorter_than n x + y) (positions-length len i) (spelling-positions len i low);
          })
      go false b q f =
          let d = f q in
          let high = ltb-false i (n ^ len) b in
          record { short = omega (arith, d.short); inside = d.inside; number = omega (arith, d.number) }

  shorter-le : (len k : ℕ) → len < k → shorter_than n len + n ^ len ≤ shorter_than n k
  unfolding shorter_than
  shorter-le len zero h = absurd (omega arith)
  shorter-le len (suc k) h = elim (dec_lt len k) [ yes q ↦ up q (shorter-le len k q) | no q ↦ same (omega arith) ]
    where
      up : len < k → shorter_than n len + n ^ len ≤ shorter_than n k → shorter_than n len + n ^ len ≤ shorter_than n k + n ^ k
      up q r = omega arith

      same : k ≡ len → shorter_than n len + n ^ len ≤ shorter_than n k + n ^ k
      same q = rw q (omega arith)

  from_found : (left len i : ℕ) (ps : List ℕ) → len ≤ length ps → Found len left i ps → history_from n left len i ≡ some ps
  unfolding history_from shorter_than
  from_found zero len i ps least d = absurd (omega (arith, d.short))
  from_found (suc left) len i ps least d =
      elim (dec_lt len (length ps)) [ yes q ↦ later q (λ f. from_found left (suc len) (i - n ^ len) ps q f) | no q ↦ here (omega arith) ]
    where
      later : len < length ps → (Found (suc len) left (i - n ^ len) ps → history_from n left (suc len) (i - n ^ len) ≡ some ps)
          → cond (ltb i (n ^ len)) (some (positions n len i)) (history_from n left (suc len) (i - n ^ len)) ≡ some ps
      later q f =
          let past : n ^ len ≤ i = omega (arith, d.number, shorter-le len (length ps) q) in
          rw (le-ltb i (n ^ len) past) (f (record { short = omega (arith, d.short); inside = d.inside; number = omega (arith, d.number) }))

      here : length ps ≡ len → cond (ltb i (n ^ len)) (some (positions n len i)) (history_from n left (suc len) (i - n ^ len)) ≡ some ps
      here q =
          let there : spelling n 0 ps ≡ i = omega (arith, d.number, ap (shorter_than n) q) in
          let low : i < n ^ len = rw (← there, ← q) (spelling-below ps d.inside) in
          rw (lt-ltb i (n ^ len) low) (ap some (ap₂ (λ k j. positions n k j) (sym q) (sym there) ∙ positions-spelling ps d.inside))

  -- 3. "every history stands under exactly one number"

  history_number_lem : (i : ℕ) (ps : List ℕ) → history_at n i ≡ some ps → IsHistory n ps × (history_number n ps ≡ i)
  unfolding history_at history_number shorter_than
  history_number_lem i ps e =
      let d = found_from (suc length_limit) 0 i ps e in
      ((omega (arith, d.short), d.inside), omega (arith, d.number))

  number_history : (ps : List ℕ) → IsHistory n ps → history_at n (history_number n ps) ≡ some ps
  unfolding history_at history_number shorter_than
  number_history ps h =
      from_found (suc length_limit) 0 (shorter_than n (length ps) + spelling n 0 ps) ps (omega arith)
      (record { short = omega (arith, h.0); inside = h.1; number = omega arith })

  -- shorter first, then by the positions, leftmost first
  spelling_order : (ps qs : List ℕ) → length ps ≡ length qs → Among n ps → Among n qs
      → compare (spelling n 0 ps) (spelling n 0 qs) ≡ lexicographic ℕ compare ps qs
  spelling_order [] [] l a b = eq_compare _ _ refl
  spelling_order [] (q ∷ qs) l a b = absurd (omega arith)
  spelling_order (p ∷ ps) [] l a b = absurd (omega arith)
  spelling_order (p ∷ ps) (q ∷ qs) l a b =
      let same : length ps ≡ length qs = omega arith in
      rw (spelling-cons p ps, spelling-cons q qs, same) (go (compare p q) refl (lexicographic ℕ compare ps qs) (spelling_order ps qs same a.1 b.1))
    where
      w : ℕ
      w = n ^ length qs

      low_p : spelling n 0 ps < n ^ length qs
      low_p = let same : length ps ≡ length qs = omega arith in rw (← same) (spelling-below ps a.1)

      low_q : spelling n 0 qs < n ^ length qs
      low_q = spelling-below qs b.1

      apart : (x y u v m : ℕ) → x < y → u < m → x * m + u < y * m + v
      apart x y u v m h k = let d : x * m + u < y * m = digits_lt h k in omega arith

      go : (o : Ordering) → compare p q ≡ o → (r : Ordering) → compare (spelling n 0 ps) (spelling n 0 qs) ≡ r
          → compare (p * n ^ length qs + spelling n 0 ps) (q * n ^ length qs + spelling n 0 qs) ≡ then_by o r
      go Ordering.lt e r f = lt-compare _ _ (apart p q (spelling n 0 ps) (spelling n 0 qs) (n ^ length qs) (compare-lt p q e) low_p)
      go Ordering.gt e r f = gt_compare _ _ (apart q p (spelling n 0 qs) (spelling n 0 ps) (n ^ length qs) (compare_gt p q e) low_q)
      go Ordering.eq e Ordering.lt f =
          let h = compare_eq p q e in let k = compare-lt (spelling n 0 ps) (spelling n 0 qs) f in rw h (lt-compare _ _ (omega arith))
      go Ordering.eq e Ordering.eq f =
          let h = compare_eq p q e in let k = compare_eq (spelling n 0 ps) (spelling n 0 qs) f in rw (h, k) (eq_compare _ _ refl)
      go Ordering.eq e Ordering.gt f =
          let h = compare_eq p q e in let k = compare_gt (spelling n 0 ps) (spelling n 0 qs) f in rw h (gt_compare _ _ (omega arith))

  number_order : (ps qs : List ℕ) → IsHistory n ps → IsHistory n qs
      → compare (history_number n ps) (history_number n qs) ≡ then_by (compare (length ps) (length qs)) (lexicographic ℕ compare ps qs)
  unfolding history_number
  number_order ps qs a b = go (compare (length ps) (length qs)) refl
    where
      go : (o : Ordering) → compare (length ps) (length qs) ≡ o
          → compare (shorter_than n (length ps) + spelling n 0 ps) (shorter_than n (length qs) + spelling n 0 qs) ≡ then_by o (lexicographic ℕ compare ps qs)
      go Ordering.lt e =
          lt-compare _ _ (omega (arith, shorter-le (length ps) (length qs) (compare-lt (length ps) (length qs) e), spelling-below ps a.1))
      go Ordering.gt e =
          gt_compare _ _ (omega (arith, shorter-le (length qs) (length ps) (compare_gt (length ps) (length qs) e), spelling-below qs b.1))
      go Ordering.eq e =
          let same = compare_eq (length ps) (length qs) e in
          rw same (shift (shorter_than n (length qs)) (spelling n 0 ps) (spelling n 0 qs)) ∙ spelling_order ps qs same a.1 b.1
        where
          shift : (s x y : ℕ) → compare (s + x) (s + y) ≡ compare x y
          shift s x y = by (compare x y) refl
            where
              by : (o : Ordering) → compare x y ≡ o → compare (s + x) (s + y) ≡ o
              by Ordering.lt h = let k = compare-lt x y h in lt-compare (s + x) (s + y) (omega arith)
              by Ordering.eq h = let k = compare_eq x y h in eq_compare (s + x) (s + y) (omega arith)
              by Ordering.gt h = let k = compare_gt x y h in gt_compare (s + x) (s + y) (omega arith)

  -- 26 is "number past the last": exactly from the count on
  past_from : (left len i : ℕ) → history_from n left len i ≡ none → shorter_than n (left + len) ≤ shorter_than n len + i
  unfolding history_from shorter_than
  past_from zero len i e = rw (zero-add len) (omega arith)
  past_from (suc left) len i e = go (ltb i (n ^ len)) refl e (past_from left (suc len) (i - n ^ len))
    where
      go : (b : Bool) → ltb i (n ^ len) ≡ b → cond b (some (positions n len i)) (history_from n left (suc len) (i - n ^ len)) ≡ none
          → (history_from n left (suc len) (i - n ^ len) ≡ none → shorter_than n (left + suc len) ≤ shorter_than n len + n ^ len + (i - n ^ len))
          → shorter_than n (suc left + len) ≤ shorter_than n len + i
      go true b q f = impossible cc
      go false b q f =
          let high = ltb-false i (n ^ len) b in
          let same : suc left + len ≡ left + suc len = omega arith in
          rw same (omega (arith, f q))

  past_last : (i : ℕ) → history_at n i ≡ none → history_count n ≤ i
  unfolding history_at shorter_than
  past_last i e = let h = past_from (suc length_limit) 0 i e in omega arith

  -- a history's number is below the count
  number-below : (ps : List ℕ) → IsHistory n ps → history_number n ps < history_count n
  unfolding history_number
  number-below ps d = omega (arith, shorter-le (length ps) (suc length_limit) (omega (arith, d.0)), spelling-below ps d.1)

  last_past : (i : ℕ) → history_count n ≤ i → history_at n i ≡ none
  last_past i h = go (history_at n i) refl
    where
      go : (o : Option (List ℕ)) → history_at n i ≡ o → history_at n i ≡ none
      go none e = e
      go (some ps) e = let d = history_number_lem i ps e in absurd (omega (arith, number-below ps d.0, d.1))

-- 4. The claims

pub under-one-number : UnderOneNumber
under-one-number n some_record ps h =
    (history_number n ps, number_history n some_record ps h, λ j e. sym (history_number_lem n some_record j ps e).1)

pub only_histories : OnlyHistories
only_histories n some_record i ps e = (history_number_lem n some_record i ps e).0

pub shorter_then_leftmost : ShorterThenLeftmost
shorter_then_leftmost n some_record i j ps qs e f =
    let p = history_number_lem n some_record i ps e in
    let q = history_number_lem n some_record j qs f in
    ap₂ compare (sym p.1) (sym q.1) ∙ number_order n some_record ps qs p.0 q.0

pub none_from_the_count : NoneFromTheCount
none_from_the_count n some_record i = (last_past n some_record i, past_last n some_record i)

pub eight_records : EightRecords
unfolding shorter_than
eight_records = refl
