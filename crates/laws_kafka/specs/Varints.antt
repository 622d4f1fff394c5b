-- Varints: the shortest form reads back, and what is read strictly is the shortest form.
use Rattle.std.specs.Prelude.{◌≡◌, Bool, true, false, cond, ◌||◌, not, [], ◌∷◌, ◌++◌, leb, ltb, eqb, length}
use Rattle.std.proofs.Math.Path.{refl}
use Rattle.std.proofs.Common.{sym, ap, ap₂, ◌∙◌, arith, pow-suc, mul_comm, mul_assoc, add-mul, mul-one, zero-add, div-add-mod', length-append, ltb-false, le-ltb, le-leb, eqb-true, eq-eqb}
use Prim.Native.Nat.{ℕ, zero, suc, ◌+◌, ◌-◌, ◌*◌, ◌/◌, ◌%◌, ◌^◌, ◌≤◌, ◌<◌}
use Rattle.std.proofs.Math.Arith.{digits_div, digits_mod}
use Rattle.model.specs.Number.{Bytes, AreBytes}
use Rattle.model.specs.Kafka.{Taken, bad, took, and_then, varint_bytes, varint, varint_from, read_varint}
use Rattle.laws.specs.Choice.{impossible}

-- 1. What is written reads back

abbrev most : ℕ → ℕ
most more = 16 * 128 ^ more

step_value : (n weight before : ℕ) → before + (n % 128 + 128 - 128) * weight + n / 128 * (weight * 128) ≡ before + n * weight
step_value n weight before =
    let low : n % 128 + 128 - 128 ≡ n % 128 = omega arith in
    let high : n / 128 * (weight * 128) ≡ n / 128 * 128 * weight = ap (λ x. n / 128 * x) (mul_comm weight 128) ∙ sym (mul_assoc (n / 128) 128 weight) in
    let sum : n / 128 * 128 * weight + n % 128 * weight ≡ n * weight = sym (add-mul (n / 128 * 128) (n % 128) weight) ∙ ap (λ x. x * weight) (div-add-mod' n 128) in
    rw (low, high) (omega (arith, sum))

div_most : (more n : ℕ) → n < most (suc more) → n / 128 < most more
div_most more n h =
    let same : most (suc more) ≡ most more * 128 = ap (λ x. 16 * x) (pow-suc 128 more) ∙ sym (mul_assoc 16 (128 ^ more) 128) in
    let k : n < most more * 128 = rw same at h in
    omega (arith, div-add-mod' n 128)

varint_back : (more weight before n : ℕ) (rest : Bytes) → n < most more
    → varint_from more weight before (varint_bytes more n ++ rest) ≡ took (before + n * weight) rest
unfolding varint_from varint_bytes
varint_back zero weight before n rest h =
    rw (le-leb n 15 (small h))
  where
    small : n < 16 → n ≤ 15
    small h = omega arith
varint_back (suc more) weight before n rest h = go (ltb n 128) refl (λ w b. varint_back more w b (n / 128) rest (div_most more n h))
  where
    go : (c : Bool) → ltb n 128 ≡ c
        → ((w b : ℕ) → varint_from more w b (varint_bytes more (n / 128) ++ rest) ≡ took (b + n / 128 * w) rest)
        → varint_from (suc more) weight before (cond c (n ∷ []) ((n % 128 + 128) ∷ varint_bytes more (n / 128)) ++ rest) ≡ took (before + n * weight) rest
    go true e ih = rw e
    go false e ih =
        rw (le-ltb (n % 128 + 128) 128 (omega arith))
        (ih (weight * 128) (before + (n % 128 + 128 - 128) * weight) ∙ ap (λ x. took x rest) (step_value n weight before))

pub read_varint_lem : (strict : Bool) (n : ℕ) (rest : Bytes) → n < 4294967296 → read_varint strict (varint n ++ rest) ≡ took n rest
unfolding read_varint
read_varint_lem strict n rest h =
    let value : 0 + n * 1 ≡ n = ap (λ x. 0 + x) (mul-one n) ∙ zero-add n in
    let back : varint_from 4 1 0 (varint n ++ rest) ≡ took n rest = varint_back 4 1 0 n rest h ∙ ap (λ x. took x rest) value in
    rw (back, eq-eqb (length (varint n ++ rest)) (length (varint n) + length rest) (length-append (varint n) rest)) (go strict)
  where
    go : (b : Bool) → cond (not b || true) (took n rest) (bad 4) ≡ took n rest
    go true = refl
    go false = refl

-- 2. What is read strictly is the shortest form

-- a value that is read, by the number it adds
record Read (more weight before : ℕ) (s : Bytes) (v : ℕ) (rest : Bytes) : Type 0 where
  adds : ℕ
  total : v ≡ before + adds * weight
  shrinks : length rest < length s
  bytes : AreBytes rest
  shortest : length s ≡ length (varint_bytes more adds) + length rest → s ≡ varint_bytes more adds ++ rest

module _ (more weight before b : ℕ) (s : Bytes) (v : ℕ) (rest : Bytes) (byte : b < 256) (high : 128 ≤ b) where
  one_more : Read more (weight * 128) (before + (b - 128) * weight) s v rest → Read (suc more) weight before (b ∷ s) v rest
  unfolding varint_bytes
  one_more d = record { adds = d.adds * 128 + (b - 128); total = d.total ∙ sum; shrinks = omega (arith, d.shrinks); bytes = d.bytes; shortest = λ h. go (ltb n 128) refl h }
    where
      n : ℕ
      n = d.adds * 128 + (b - 128)

      sum : before + (b - 128) * weight + d.adds * (weight * 128) ≡ before + (d.adds * 128 + (b - 128)) * weight
      sum =
          let a : d.adds * (weight * 128) ≡ d.adds * 128 * weight = ap (λ x. d.adds * x) (mul_comm weight 128) ∙ sym (mul_assoc d.adds 128 weight) in
          omega (arith, a, add-mul (d.adds * 128) (b - 128) weight)

      upper : n / 128 ≡ d.adds
      upper = digits_div d.adds (omega arith)

      lower : n % 128 ≡ b - 128
      lower = digits_mod d.adds (omega arith)

      go : (c : Bool) → ltb n 128 ≡ c → suc (length s) ≡ length (cond c (n ∷ []) ((n % 128 + 128) ∷ varint_bytes more (n / 128))) + length rest
          → b ∷ s ≡ cond c (n ∷ []) ((n % 128 + 128) ∷ varint_bytes more (n / 128)) ++ rest
      go true e h = absurd (omega (arith, d.shrinks))
      go false e h =
          let first : n % 128 + 128 ≡ b = omega (arith, lower) in
          let size : suc (length s) ≡ suc (length (varint_bytes more (n / 128)) + length rest) = omega arith in
          let tail : s ≡ varint_bytes more d.adds ++ rest = d.shortest (omega (arith, size, ap (λ x. length (varint_bytes more x)) upper)) in
          cc (first, tail ∙ ap (λ x. varint_bytes more x ++ rest) (sym upper))

reads : (more weight before : ℕ) (s : Bytes) (v : ℕ) (rest : Bytes) → AreBytes s → varint_from more weight before s ≡ took v rest
    → Read more weight before s v rest
unfolding varint_from varint_bytes
reads more weight before [] v rest are e = impossible cc
reads zero weight before (b ∷ s) v rest are e = go (leb b 15) refl e
  where
    go : (c : Bool) → leb b 15 ≡ c → cond c (took (before + b * weight) s) (bad 4) ≡ took v rest → Read zero weight before (b ∷ s) v rest
    go true f q =
        let same : s ≡ rest = cc in
        let value : before + b * weight ≡ v = cc in
        record { adds = b; total = sym value; shrinks = omega (arith, ap length same); bytes = rw (← same) are.1; shortest = λ h. ap (λ x. b ∷ x) same }
    go false f q = impossible cc
reads (suc more) weight before (b ∷ s) v rest are e = go (ltb b 128) refl e (reads more (weight * 128) (before + (b - 128) * weight) s v rest are.1)
  where
    go : (c : Bool) → ltb b 128 ≡ c
        → cond c (took (before + b * weight) s) (varint_from more (weight * 128) (before + (b - 128) * weight) s) ≡ took v rest
        → (varint_from more (weight * 128) (before + (b - 128) * weight) s ≡ took v rest → Read more (weight * 128) (before + (b - 128) * weight) s v rest)
        → Read (suc more) weight before (b ∷ s) v rest
    go true f q ih =
        let same : s ≡ rest = cc in
        let value : before + b * weight ≡ v = cc in
        record { adds = b; total = sym value; shrinks = omega (arith, ap length same); bytes = rw (← same) are.1; shortest = λ h. rw f (ap (λ x. b ∷ x) same) }
    go false f q ih = one_more more weight before b s v rest are.0 (ltb-false b 128 f) (ih q)

-- a read varint tells the number, and strictly its bytes
pub varint-read : (strict : Bool) (s : Bytes) (n : ℕ) (rest : Bytes) → AreBytes s → read_varint strict s ≡ took n rest
    → AreBytes rest × (length rest < length s) × (strict ≡ true → s ≡ varint n ++ rest) × (read_varint false s ≡ took n rest)
unfolding read_varint
varint-read strict s n rest are e = go (varint_from 4 1 0 s) refl e
  where
    go : (t : Taken ℕ) → varint_from 4 1 0 s ≡ t
        → and_then t (λ m r. cond (not strict || eqb (length s) (length (varint m) + length r)) (took m r) (bad 4)) ≡ took n rest
        → AreBytes rest × (length rest < length s) × (strict ≡ true → s ≡ varint n ++ rest) × (and_then t (λ m r. took m r) ≡ took n rest)
    go (bad m) f q = impossible cc
    go (took m r) f q = by (not strict || eqb (length s) (length (varint m) + length r)) refl q
      where
        by : (c : Bool) → (not strict || eqb (length s) (length (varint m) + length r)) ≡ c → cond c (took m r) (bad 4) ≡ took n rest
            → AreBytes rest × (length rest < length s) × (strict ≡ true → s ≡ varint n ++ rest) × (took m r ≡ took n rest)
        by true c q =
            let d = reads 4 1 0 s m r are f in
            let one : m ≡ n = cc in
            let same : r ≡ rest = cc in
            let value : d.adds ≡ m = sym (d.total ∙ ap (λ x. 0 + x) (mul-one d.adds) ∙ zero-add d.adds) in (
              rw (← same) d.bytes,
              omega (arith, d.shrinks, ap length same),
              (λ h. d.shortest (eqb-true (length s) (length (varint d.adds) + length r) (rw value (rw h at c))) ∙ ap₂ (λ x y. varint x ++ y) (value ∙ one) same),
              q,
            )
        by false c q = impossible cc
