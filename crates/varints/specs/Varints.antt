-- What the code says of a varint, in the model's terms.
use Rattle.std.specs.Prelude.{◌≡◌, false, ℕ, zero, ◌≤◌, ◌<◌, length, drop}
use Rattle.model.specs.Number.{Bytes}
use Rattle.model.specs.Kafka.{Taken, bad, took, varint_from, read_varint}
use Rattle.varints.specs.declared.Varint.{Varint}
use Rattle.varints.specs.declared.Varint.TheVariants.{Is, Refused}

-- what was taken of the bytes from a place on, by the code's answer
abbrev pub taken : Bytes → Varint → Taken ℕ
taken s (Is n end) = took n (drop end s)
taken s (Refused n) = bad n

-- the answer is behind the place and within the bytes, and a number has 32 bits
abbrev pub Onward : Bytes → ℕ → Varint → Type 0
Onward s at (Is n end) = (at < end) × (end ≤ length s) × (n < 4294967296)
Onward s at (Refused n) = 0 < n

abbrev pub VarintAs : Bytes → ℕ → Varint → Type 0
VarintAs s at r = (read_varint false (drop at s) ≡ taken s r) × Onward s at r

-- the same of a fifth byte, after four that make a number
abbrev pub LastAs : Bytes → ℕ → ℕ → Varint → Type 0
LastAs s at n r = (varint_from zero 268435456 n (drop at s) ≡ taken s r) × Onward s at r
