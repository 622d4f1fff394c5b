-- The signed number of four bytes, as the machine makes it.
use mathlib.Core.Path.{◌≡◌, refl, ap, ◌∙◌}
use Prim.Native.Nat.{ℕ, zero, suc, ◌-◌, ◌≤◌, ◌<◌}
use native.Mathlib.Omega.{arith}
use borrow.Author.Tests.{le-leb, lt-leb}
use lib.IntN.{pos, negsuc, ◌-ℤ◌}
use mir.Syntax.{w32}
use mir.Val.{SFits, to_z, of_z}
use mir.ValLaws.{to_z_pos, to_z-of_z}
use Rattle.access.specs.Access.{signed}

pub signed_low : (n : ℕ) → n < 0x80000000 → to_z w32 n ≡ signed 4 n
signed_low n h = to_z_pos w32 n h ∙ rw (lt-leb _ _ h)

-- -1 less a number
module _ (m : ℕ) (h : m < 0x80000000) where
  less : negsuc 0 -ℤ to_z w32 m ≡ negsuc m
  less = rw (to_z_pos w32 m h) (go m)
    where
      go : (m : ℕ) → negsuc 0 -ℤ pos m ≡ negsuc m
      go zero = refl
      go (suc m) = ap negsuc (omega arith)

  pub less_fits : SFits w32 (negsuc 0 -ℤ to_z w32 m)
  less_fits = rw less (record { sfits = h })

pub signed_high : (n : ℕ) → 0x80000000 ≤ n → n < 0x100000000 → to_z w32 (of_z w32 (negsuc 0 -ℤ to_z w32 (0xffffffff - n))) ≡ signed 4 n
signed_high n low high =
    let h : 0xffffffff - n < 0x80000000 = omega arith in
    let e : 0xffffffff - n ≡ 0x100000000 - suc n = omega arith in
    to_z-of_z w32 _ (less_fits (0xffffffff - n) h) ∙ less (0xffffffff - n) h ∙ ap negsuc e ∙ rw (le-leb _ _ low)
