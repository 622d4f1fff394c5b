-- A number equals itself and no other value does; bits of a number go there and back.
use Rattle.std.proofs.Common.{◌≡◌, ℕ, ◌^◌, ◌<◌, Bool, true, false, not, refl, eq-eqb}
use lib.Ieee.{Float, nan, inf, fin, binary64, eq, is_nan, nan_bits}
use lib.Ieee.Bits.{to_bits-of_bits, nan_bits_is}
use Rattle.quota.specs.Quota.{quota_of, bits_of}

pub eq_self : (x : Float) → eq x x ≡ not (is_nan x)
unfolding eq is_nan
eq_self nan = refl
eq_self (inf true) = refl
eq_self (inf false) = refl
eq_self (fin true m e) = rw (eq-eqb _ _ refl)
eq_self (fin false m e) = rw (eq-eqb _ _ refl)

-- bits, the answer, and bits again
pub there_and_back : (n : ℕ) → n < 2 ^ 64 → bits_of (quota_of n) ≡ n
unfolding bits_of quota_of
there_and_back n h = go (nan_bits binary64 n) refl
  where
    go : (b : Bool) → nan_bits binary64 n ≡ b → bits_of (quota_of n) ≡ n
    go true e = rw e
    go false e = rw (e, ← nan_bits_is binary64 n, e) (to_bits-of_bits binary64 n h (rw (← nan_bits_is binary64 n, e) tt))
