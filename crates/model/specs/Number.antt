-- Numbers as bytes: 01, "integers are big-endian, signed ones two's complement". Each statement is over the width in general.
use Rattle.std.specs.Prelude.{ℕ, zero, suc, ◌+◌, ◌*◌, ◌/◌, ◌%◌, ◌^◌, ◌<◌, ◌-◌, Bool, ◌||◌, List, [], ◌∷◌, ◌++◌, leb, ltb, eqb}

-- a byte string: a name, a value, an input
abbrev pub Bytes : Type 0
Bytes = List ℕ

-- each element is a byte
abbrev pub AreBytes : Bytes → Type 0
AreBytes [] = Unit {0}
AreBytes (x ∷ xs) = (x < 256) × AreBytes xs

-- the number that `before`, followed by the bytes, spells
abbrev pub spelt : ℕ → Bytes → ℕ
spelt before [] = before
spelt before (x ∷ xs) = spelt (before * 256 + x) xs

-- the number that the bytes spell
abbrev pub number : Bytes → ℕ
number xs = spelt 0 xs

-- a number as bytes, `width` of them, the upper first
abbrev pub bytes : ℕ → ℕ → Bytes
bytes zero n = []
bytes (suc width) n = bytes width (n / 256) ++ (n % 256 ∷ [])

-- how many numbers there are at a width, and how many of them are negative when signed
abbrev pub span : ℕ → ℕ
span width = 256 ^ width

abbrev pub half : ℕ → ℕ
half width = 256 ^ width / 2

-- A signed number is kept as the unsigned one of the same bytes. Its place counts from the lowest of its width, so that places are in the
-- order of the values: -1 at one byte is kept as 255 and stands at place 127.
abbrev pub place : ℕ → ℕ → ℕ
place width n = (n + half width) % span width

abbrev pub is_negative : ℕ → ℕ → Bool
is_negative width n = leb (half width) n

-- 02, 5: a log offset is -1 or not negative
unfoldable pub is_offset : ℕ → Bool
is_offset n = ltb n (half 8) || eqb n (span 8 - 1)
