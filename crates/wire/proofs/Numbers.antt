-- A number byte by byte: what is read stays below the width's span, and the bytes still to write are those of what is left of the number.
use mathlib.Core.Path.{◌≡◌, sym, ap, ◌∙◌}
use mathlib.Core.List.{[], ◌∷◌}
use Prim.Native.Nat.{ℕ, zero, suc, ◌+◌, ◌-◌, ◌*◌, ◌/◌, ◌%◌, ◌^◌, ◌≤◌, ◌<◌}
use native.Mathlib.Nat.{pow-le-pow_right, lt_of_lt_of_le}
use native.Mathlib.Numerals.{add-one}
use native.Mathlib.Omega.{arith}
use lib.ListN.{length, get_or, take}
use lib.Seq.{slice, slice-cons, slice_empty, get_or_at, get_or-take, take_at, take-take, take_all}
use lib.Dec.{lit<}
use Rattle.model.specs.Number.{Bytes, number, bytes, span}
use Rattle.laws.specs.Numbers as laws
use Rattle.laws.specs.Numbers.{length-bytes}

-- a byte more
pub slice-step : (s : Bytes) (from upto : ℕ) → from < upto → upto ≤ length s → slice from upto s ≡ get_or s from 0 ∷ slice (from + 1) upto s
slice-step s from upto h k = rw add-one (slice-cons from upto s 0 h k)

pub span-step : (v x i : ℕ) → v < span i → x < 256 → v * 256 + x < span (i + 1)
span-step v x i h k = rw add-one (laws.span-step v x i h k)

pub span_fits : (v x i width : ℕ) → v < span i → x < 256 → i < width → width ≤ 8 → v * 256 + x < 2 ^ 64
span_fits v x i width h k l m =
    lt_of_lt_of_le (span-step v x i h k) (pow-le-pow_right {n = 256} (lit< tt) {i = i + 1} {j = 8} (omega arith))

-- two bytes
pub number_pair : (s : Bytes) (at x y : ℕ) → at + 2 ≤ length s → x ≡ get_or s at 0 → y ≡ get_or s (at + 1) 0
    → x * 256 + y ≡ number (slice at (at + 2) s)
number_pair s at x y h p q =
    let a : at < at + 2 = omega arith in
    let b : at + 1 < at + 2 = omega arith in
    let e : at + 1 + 1 ≡ at + 2 = omega arith in
    rw (slice-step s at (at + 2) a h, slice-step s (at + 1) (at + 2) b h, e, slice_empty) (omega arith)

-- a byte less to write
bytes-suc : (width n j rest : ℕ) → j < width → bytes (suc j) rest ≡ take (suc j) (bytes width n)
    → (rest % 256 ≡ get_or (bytes width n) j 0) × (bytes j (rest / 256) ≡ take j (bytes width n))
bytes-suc width n j rest h e =
    let l : length (bytes j (rest / 256)) ≡ j = length-bytes j (rest / 256) in (
      sym (get_or_at (bytes j (rest / 256)) (rest % 256) [] 0 j l) ∙ ap (λ t. get_or t j 0) e ∙ get_or-take (suc j) (bytes width n) j 0 (omega arith),
      sym (take_at (bytes j (rest / 256)) (rest % 256 ∷ []) j l) ∙ ap (take j) e ∙ take-take j (suc j) (bytes width n) (omega arith),
    )

pub bytes-step : (width n i rest : ℕ) → 0 < i → i ≤ width → bytes i rest ≡ take i (bytes width n)
    → (rest % 256 ≡ get_or (bytes width n) (i - 1) 0) × (bytes (i - 1) (rest / 256) ≡ take (i - 1) (bytes width n))
bytes-step width n zero rest h k e = absurd (omega arith)
bytes-step width n (suc j) rest h k e = let p : suc j - 1 ≡ j = omega arith in rw p (bytes-suc width n j rest k e)

pub take-bytes : (width n : ℕ) → take width (bytes width n) ≡ bytes width n
take-bytes width n = take_all width (bytes width n) (omega (arith, length-bytes width n))
