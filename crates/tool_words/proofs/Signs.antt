-- How far a signed number is from 0, as the machine makes it: -1 less a negative one is from 0 on.
use mathlib.Core.Path.{◌≡◌, refl, ap, ◌∙◌}
use mathlib.Core.Bool.{true, false}
use Prim.Native.Nat.{ℕ, zero, suc, ◌+◌, ◌-◌, ◌<◌}
use native.Mathlib.Omega.{arith}
use borrow.Author.Tests.{le-leb, lt-leb}
use lib.Dec.{T}
use lib.IntN.{ℤ, pos, negsuc, ◌-ℤ◌, nat_abs}
use lib.Signed.{le_z, non_neg}
use mir.Syntax.{w64}
use mir.Val.{Fits, SFits, to_z, of_z}
use mir.ValLaws.{to_z-of_z}
use Rattle.laws.specs.Choice.{impossible}

from_zero : (z : ℤ) → SFits w64 z → le_z (pos 0) z ≡ true → T (non_neg z) × Fits w64 (nat_abs z)
from_zero (pos n) f h = (tt, record { fits = let b : n < 0x8000000000000000 = f.sfits in omega arith })
from_zero (negsuc n) f h = impossible cc

less_one : (k : ℕ) → negsuc 0 -ℤ negsuc k ≡ pos k
less_one zero = refl
less_one (suc k) =
    let e : suc (suc k) - 1 ≡ suc k = omega arith in
    rw (lt-leb (suc (suc (suc k))) 1 (omega arith)) (ap pos e)

below-zero : (z : ℤ) → SFits w64 z → le_z (pos 0) z ≡ false → (k : ℕ) × (negsuc 0 -ℤ z ≡ pos k) × (k < 0x8000000000000000)
below-zero (pos n) f h = impossible (cc (le-leb 0 n (omega arith)))
below-zero (negsuc k) f h = (k, less_one k, f.sfits)

module _ (z : ℤ) (f : SFits w64 z) where
  pub cast_fits : le_z (pos 0) (to_z w64 (of_z w64 z)) ≡ true → T (non_neg (to_z w64 (of_z w64 z))) × Fits w64 (nat_abs (to_z w64 (of_z w64 z)))
  cast_fits h = let e = to_z-of_z w64 z f in rw e (from_zero z f (rw e at h))

  module _ (h : le_z (pos 0) (to_z w64 (of_z w64 z)) ≡ false) where
    less : (k : ℕ) × (negsuc 0 -ℤ to_z w64 (of_z w64 z) ≡ pos k) × (k < 0x8000000000000000)
    less = let e = to_z-of_z w64 z f in rw e (below-zero z f (rw e at h))

    pub less_fits : SFits w64 (negsuc 0 -ℤ to_z w64 (of_z w64 z))
    less_fits = rw less.1 (record { sfits = less.2 })

    back : to_z w64 (of_z w64 (negsuc 0 -ℤ to_z w64 (of_z w64 z))) ≡ pos less.0
    back = to_z-of_z w64 _ less_fits ∙ less.1

    pub less_cast : T (non_neg (to_z w64 (of_z w64 (negsuc 0 -ℤ to_z w64 (of_z w64 z))))) × Fits w64 (nat_abs (to_z w64 (of_z w64 (negsuc 0 -ℤ to_z w64 (of_z w64 z)))))
    less_cast = let b = less.2 in rw back (tt, record { fits = omega arith })

    pub less_add : Fits w64 (nat_abs (to_z w64 (of_z w64 (negsuc 0 -ℤ to_z w64 (of_z w64 z)))) + 1)
    less_add = let b = less.2 in rw back (record { fits = omega arith })
