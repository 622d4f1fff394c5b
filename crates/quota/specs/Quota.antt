-- The quota answer: 01, "The quota value is a double and keeps its bits".
use Rattle.std.specs.Prelude.{ℕ, true, false, cond, not, ◌&&◌, pos, ◌==◌, from_bits, is_nan, to_bits, Float}
use Rattle.std.specs.Float.{fin, binary64}
use Rattle.std.specs.Float.Ieee.{nan_bits, le, lt, eq, to_signed, of_int}
use Rattle.quota.specs.declared.Quota.{Quota}
use Rattle.quota.specs.declared.Whole.{Whole}
use Rattle.quota.specs.declared.Whole.TheVariants.{Is, None}

-- of bits: their number, or none
unfoldable pub quota_of : ℕ → Quota
quota_of n =
    cond (nan_bits binary64 n) (record { bits = n; number = false; value = from_bits binary64 0 })
    (record { bits = n; number = true; value = from_bits binary64 n })

-- and back
unfoldable pub bits_of : Quota → ℕ
bits_of q = cond (q.number && not (is_nan q.value)) (to_bits binary64 q.value) q.bits

-- The signed number of 64 bits that a value is: from -2^63 to below 2^63, its whole part spells it again.
unfoldable pub exactly_of : Float → Whole
exactly_of x = cond (le (fin true 1 (pos 63)) x && lt x (fin false 1 (pos 63)) && eq (of_int binary64 (to_signed 63 x)) x) (Is (to_signed 63 x)) None

-- The whole number that a value is, from -2^53 to 2^53. None where the bits spell no number, and none of -0.
unfoldable pub whole_of : Quota → Whole
whole_of q =
    cond (q.number && not (q.bits == 0x8000000000000000) && le (fin true 1 (pos 53)) q.value && le q.value (fin false 1 (pos 53)))
    (exactly_of q.value) None
