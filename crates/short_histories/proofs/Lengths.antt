-- The length of a number's history: as many as are shorter are left out, length after length.
use mathlib.Core.Path.{◌≡◌, refl, sym, ap, ap₂, ◌∙◌}
use Prim.Native.Nat.{ℕ, zero, suc, ◌+◌, ◌-◌, ◌*◌, ◌^◌, ◌≤◌, ◌<◌}
use native.Mathlib.Omega.{arith}
use native.Mathlib.Nat.{pow-suc, pow-le-pow_left}
use borrow.Author.Tests.{lt-ltb, le-ltb}
use Rattle.model.specs.ShortHistory.{length_limit, positions, history_from, history_at}
use Rattle.short_histories.specs.Histories.{FoundAs}
use Rattle.short_histories.specs.declared.Found.TheVariants.{History, Past}

-- 1. Powers

-- of at most 8 records there are at most 4,096 histories of a length
pub power_small : (n i : ℕ) → n ≤ 8 → i ≤ 4 → n ^ i ≤ 4096
power_small n zero h k = let e : n ^ 0 ≤ 1 = pow-le-pow_left h 0 in omega arith
power_small n (suc zero) h k = let e : n ^ 1 ≤ 8 = pow-le-pow_left h 1 in omega arith
power_small n (suc (suc zero)) h k = let e : n ^ 2 ≤ 64 = pow-le-pow_left h 2 in omega arith
power_small n (suc (suc (suc zero))) h k = let e : n ^ 3 ≤ 512 = pow-le-pow_left h 3 in omega arith
power_small n (suc (suc (suc (suc zero)))) h k = pow-le-pow_left h 4
power_small n (suc (suc (suc (suc (suc i))))) h k = absurd (omega arith)

module _ (n i : ℕ) {p : ℕ} (ep : p ≡ n ^ i) where
  pub power_turn : p * n ≡ n ^ (i + 1)
  power_turn = let next : i + 1 ≡ suc i = omega arith in ap (λ x. x * n) ep ∙ sym (pow-suc n i) ∙ ap (λ k. n ^ k) (sym next)

  pub power_fits : {len : ℕ} → n ≤ 8 → len ≤ 4 → i < len → p * n ≤ 4096
  power_fits h k l = omega (arith, power_turn, power_small n (i + 1) h (omega arith))

  pub power_done : {len : ℕ} → i ≤ len → len ≤ i → p ≡ n ^ len
  power_done {len} h k = let same : i ≡ len = omega arith in ep ∙ ap (λ m. n ^ m) same

-- 2. From a length on

module _ (n number : ℕ) where
  pub record Left (len i : ℕ) : Type 0 where
    pub short : len ≤ 5
    pub same : history_from n (5 - len) len i ≡ history_at n number

  pub left-start : Left 0 number
  unfolding history_at
  left-start = record { short = omega arith; same = refl }

  module _ {len i : ℕ} (h : Left len i) where
    pub none_left : 4 < len → FoundAs n number Past
    unfolding history_from
    none_left k = let all : 5 - len ≡ 0 = omega arith in sym h.same ∙ ap (λ left. history_from n left len i) all

    module _ (k : len ≤ 4) {p : ℕ} (ep : p ≡ n ^ len) where
      one_left : 5 - len ≡ suc (4 - len)
      one_left = omega arith

      pub of_length : i < p → FoundAs n number (History len i)
      unfolding history_from
      of_length q =
          let low : i < n ^ len = omega (arith, ep) in
          (sym h.same ∙ ap (λ left. history_from n left len i) one_left ∙ rw (lt-ltb i (n ^ len) low) refl, k, low)

      pub longer : p ≤ i → Left (len + 1) (i - p)
      unfolding history_from
      longer q =
          let high : n ^ len ≤ i = omega (arith, ep) in
          let less : 5 - (len + 1) ≡ 4 - len = omega arith in
          let next : len + 1 ≡ suc len = omega arith in
          record {
            short = omega arith;
            same =
                ap (λ left. history_from n left (len + 1) (i - p)) less
                ∙ ap₂ (λ l d. history_from n (4 - len) l (i - d)) next ep
                ∙ sym (ap (λ left. history_from n left len i) one_left ∙ rw (le-ltb i (n ^ len) high) refl)
                ∙ h.same;
          }
