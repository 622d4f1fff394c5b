-- Packing can be undone: the halves of the one number are the reply's number and, where that is below 2^32, what came with it.
use Rattle.std.specs.Prelude.{◌≡◌, ℕ, ◌+◌, ◌*◌, ◌<◌, length}
use Rattle.std.proofs.Common.{arith}
use Rattle.model.specs.Reply.{Reply}
use Rattle.model.specs.History.{first_value}
use Rattle.packing.specs.Packed.{packed, counted, upper_half, lower_half}

halves : (n v : ℕ) → v < 4294967296 → (upper_half (n * 4294967296 + v) ≡ n) × (lower_half (n * 4294967296 + v) ≡ v)
halves n v h = (omega arith, omega arith)

-- a value, a count, and a number alone
abbrev pub PackedBack : Reply → Type 0
PackedBack r = (upper_half (packed r) ≡ r.number) × (lower_half (packed r) ≡ first_value r.values)

abbrev pub CountedBack : Reply → Type 0
CountedBack r = (upper_half (counted r) ≡ r.number) × (lower_half (counted r) ≡ length r.values)

abbrev pub AloneBack : Reply → Type 0
AloneBack r = upper_half (r.number * 4294967296) ≡ r.number

pub packed_undone : (r : Reply) → first_value r.values < 4294967296 → PackedBack r
packed_undone r h = halves r.number (first_value r.values) h

pub counted_undone : (r : Reply) → length r.values < 4294967296 → CountedBack r
counted_undone r h = halves r.number (length r.values) h

pub alone_undone : (r : Reply) → AloneBack r
alone_undone r = omega arith
