-- A varint's bytes one after the other: what is left of them, with the number and the weight so far, reads as all of them.
use mathlib.Core.Path.{◌≡◌, refl, sym, ap, ap₂, ◌∙◌}
use mathlib.Core.Bool.{false, cond, ◌||◌, not}
use mathlib.Core.List.{[], ◌∷◌}
use Prim.Native.Nat.{ℕ, zero, suc, ◌+◌, ◌-◌, ◌*◌, ◌≤◌, ◌<◌}
use native.Mathlib.Omega.{arith}
use native.Mathlib.Nat.{mul-le-mul_right}
use lib.Dec.{eqb}
use lib.ListN.{length, get_or, drop}
use lib.Seq.{drop-length}
use borrow.Author.Tests.{lt-ltb, le-ltb, le-leb, lt-leb}
use Rattle.model.specs.Number.{Bytes}
use Rattle.model.specs.Kafka.{Taken, bad, took, and_then, varint, varint_from, read_varint}
use Rattle.wire.proofs.Rest.{drop-step}
use Rattle.varints.specs.Varints.{taken, Onward, VarintAs, LastAs}
use Rattle.varints.specs.declared.Varint.{Varint}
use Rattle.varints.specs.declared.Varint.TheVariants.{Is, Refused}

-- read loosely, a varint is what its bytes make
loose : (x : Bytes) → read_varint false x ≡ varint_from 4 1 0 x
unfolding read_varint
loose x = go (varint_from 4 1 0 x)
  where
    go : (t : Taken ℕ) → and_then t (λ n rest. cond (not false || eqb (length x) (length (varint n) + length rest)) (took n rest) (bad 4)) ≡ t
    go (bad n) = refl
    go (took n rest) = refl

drop-end : (s : Bytes) (i : ℕ) → i ≡ length s → drop i s ≡ []
drop-end s i e = ap (λ k. drop k s) e ∙ drop-length s

-- 1. The fifth byte

module _ (s : Bytes) (at n : ℕ) where
  pub fifth_ended : at ≡ length s → LastAs s at n (Refused 2)
  unfolding varint_from
  fifth_ended e = (ap (varint_from zero 268435456 n) (drop-end s at e), omega arith)

  module _ {b : ℕ} (k : at < length s) (e : b ≡ get_or s at 0) where
    fifth_byte : drop at s ≡ b ∷ drop (at + 1) s
    fifth_byte = drop-step s at k ∙ ap (λ x. x ∷ drop (at + 1) s) (sym e)

    pub fifth_wrong : 15 < b → LastAs s at n (Refused 4)
    unfolding varint_from
    fifth_wrong h = (ap (varint_from zero 268435456 n) fifth_byte ∙ rw (lt-leb b 15 h) refl, omega arith)

    pub fifth_right : b ≤ 15 → n < 268435456 → LastAs s at n (Is (n + b * 268435456) (at + 1))
    unfolding varint_from
    fifth_right h l = (ap (varint_from zero 268435456 n) fifth_byte ∙ rw (le-leb b 15 h) refl, (omega arith, omega arith, omega arith))

-- 2. Weights, by how many bytes may follow

abbrev pub weight_of : ℕ → ℕ
weight_of zero = 268435456
weight_of (suc zero) = 2097152
weight_of (suc (suc zero)) = 16384
weight_of (suc (suc (suc zero))) = 128
weight_of (suc (suc (suc (suc more)))) = 1

weight-step : (more : ℕ) → more < 4 → weight_of (suc more) * 128 ≡ weight_of more
weight-step zero h = refl
weight-step (suc zero) h = refl
weight-step (suc (suc zero)) h = refl
weight-step (suc (suc (suc zero))) h = refl
weight-step (suc (suc (suc (suc more)))) h = absurd (omega arith)

weight-most : (more : ℕ) → weight_of more ≤ 268435456
weight-most zero = omega arith
weight-most (suc zero) = omega arith
weight-most (suc (suc zero)) = omega arith
weight-most (suc (suc (suc zero))) = omega arith
weight-most (suc (suc (suc (suc more)))) = omega arith

-- 3. The loop

pub record Left (s : Bytes) (at to n weight more : ℕ) : Type 0 where
  pub onward : at ≤ to
  pub within : to ≤ length s
  pub few : more ≤ 4
  pub weighs : weight ≡ weight_of more
  pub below : n < weight
  pub same : varint_from 4 1 0 (drop at s) ≡ varint_from more weight n (drop to s)

pub left-start : (s : Bytes) (at : ℕ) → at ≤ length s → Left s at at 0 1 4
left-start s at h = record { onward = omega arith; within = h; few = omega arith; weighs = refl; below = omega arith; same = refl }

module _ {s : Bytes} {at to n weight more : ℕ} (h : Left s at to n weight more) where
  pub ended : to ≡ length s → VarintAs s at (Refused 2)
  unfolding varint_from
  ended e = (loose (drop at s) ∙ h.same ∙ ap (varint_from more weight n) (drop-end s to e), omega arith)

  -- four bytes are read, and the fifth decides
  module _ (none : more ≤ 0) where
    no_more : more ≡ 0
    no_more = omega arith

    heaviest : weight ≡ 268435456
    heaviest = h.weighs ∙ ap weight_of no_more

    pub fifth_low : n < 268435456
    fifth_low = omega (arith, h.below, heaviest)

    pub fifth_said : (r : Varint) → LastAs s to n r → VarintAs s at r
    fifth_said r d = (loose (drop at s) ∙ h.same ∙ ap₂ (λ k w. varint_from k w n (drop to s)) no_more heaviest ∙ d.0, go r d.1)
      where
        go : (r : Varint) → Onward s to r → Onward s at r
        go (Is v end) o = (omega (arith, h.onward, o.0), o.1, o.2)
        go (Refused v) o = o

  module _ (some : 0 < more) where
    one_more : more ≡ suc (more - 1)
    one_more = omega arith

    heavier : weight * 128 ≡ weight_of (more - 1)
    heavier = ap (λ w. w * 128) (h.weighs ∙ ap weight_of one_more) ∙ weight-step (more - 1) (omega (arith, h.few))

    pub light : weight ≤ 2097152
    light = omega (arith, heavier, weight-most (more - 1))

    -- what a byte of at most seven bits adds
    pub adds : (d : ℕ) → d < 128 → n + d * weight < weight * 128
    adds d l = let k : d ≤ 127 = omega arith in omega (arith, h.below, mul-le-mul_right weight k)

    module _ {b : ℕ} (k : to < length s) (e : b ≡ get_or s to 0) where
      opened : varint_from 4 1 0 (drop at s) ≡ varint_from (suc (more - 1)) weight n (b ∷ drop (to + 1) s)
      opened =
          h.same ∙ ap₂ (λ m x. varint_from m weight n x) one_more (drop-step s to k ∙ ap (λ x. x ∷ drop (to + 1) s) (sym e))

      pub last : b < 128 → VarintAs s at (Is (n + b * weight) (to + 1))
      unfolding varint_from
      last l = (
        loose (drop at s) ∙ opened ∙ rw (lt-ltb b 128 l) refl,
        (omega (arith, h.onward), omega arith, omega (arith, adds b l, light)),
      )

      pub onwards : 128 ≤ b → b < 256 → Left s at (to + 1) (n + (b - 128) * weight) (weight * 128) (more - 1)
      unfolding varint_from
      onwards l m =
          record {
            onward = omega (arith, h.onward);
            within = omega arith;
            few = omega (arith, h.few);
            weighs = heavier;
            below = adds (b - 128) (omega arith);
            same = opened ∙ rw (le-ltb b 128 l) refl;
          }
