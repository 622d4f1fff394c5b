-- The shortest varint of a number below 16,384 has one byte or two.
use mathlib.Core.Path.{◌≡◌, refl, sym, ap, ◌∙◌}
use mathlib.Core.List.{[], ◌∷◌, ◌++◌}
use Prim.Native.Nat.{ℕ, suc, ◌+◌, ◌/◌, ◌%◌, ◌≤◌, ◌<◌}
use native.Mathlib.Omega.{arith}
use native.Mathlib.Nat.{div-add-mod'}
use native.Mathlib.Numerals.{add-one}
use lib.ListN.{length, take, drop, set}
use lib.Seq.{sets-eq}
use borrow.Author.Tests.{lt-ltb, le-ltb}
use Rattle.model.specs.Number.{Bytes}
use Rattle.model.specs.Kafka.{varint_bytes, varint}

one_byte : (n : ℕ) → n < 128 → varint n ≡ n ∷ []
unfolding varint_bytes
one_byte n h = rw (lt-ltb n 128 h) refl

two_bytes : (n : ℕ) → 128 ≤ n → n < 16384 → varint n ≡ (n % 128 + 128) ∷ (n / 128) ∷ []
unfolding varint_bytes
two_bytes n h k = let low : n / 128 < 128 = omega (arith, div-add-mod' n 128) in rw (le-ltb n 128 h, lt-ltb (n / 128) 128 low) refl

pub one_long : (n : ℕ) → n < 128 → length (varint n) ≡ 1
one_long n h = ap length (one_byte n h)

pub two_long : (n : ℕ) → 128 ≤ n → n < 16384 → length (varint n) ≡ 2
two_long n h k = ap length (two_bytes n h k)

module _ (out : Bytes) (at n : ℕ) where
  pub one-put : n < 128 → at + length (varint n) ≤ length out
      → (at + 1 ≡ at + length (varint n)) × (set out at n ≡ take at out ++ varint n ++ drop (at + length (varint n)) out)
  one-put h k =
      let l = one_long n h in (
        omega (arith, l),
        sets-eq (n ∷ []) out at (omega (arith, l)) ∙ ap (λ x. take at out ++ x ++ drop (at + length x) out) (sym (one_byte n h)),
      )

  pub two-put : 128 ≤ n → n < 16384 → at + length (varint n) ≤ length out
      → (at + 2 ≡ at + length (varint n))
      × (set (set out at (n % 128 + 128)) (at + 1) (n / 128) ≡ take at out ++ varint n ++ drop (at + length (varint n)) out)
  two-put h m k =
      let l = two_long n h m in (
        omega (arith, l),
        ap (λ i. set (set out at (n % 128 + 128)) i (n / 128)) (add-one at)
            ∙ sets-eq ((n % 128 + 128) ∷ (n / 128) ∷ []) out at (omega (arith, l))
            ∙ ap (λ x. take at out ++ x ++ drop (at + length x) out) (sym (two_bytes n h m)),
      )
