-- The bytes of a stored entry's record: all of them, but of a topic without its last field.
use Rattle.std.specs.Prelude.{cond, ◌≡◌, ◌++◌, ℕ, ◌+◌, ◌-◌, ◌≤◌, eqb, length, get_or}
use Rattle.std.proofs.Math.Seq.{slice}
use Rattle.model.specs.Number.{Bytes}
use Rattle.records.specs.Answers.{head}

-- the bytes of a topic's flag: tag, length and five bytes
abbrev pub flag_size : ℕ
flag_size = 8

-- an entry's bytes are long enough for a head, and a topic's for its flag
pub record Entire (e : Bytes) : Type 0 where
  pub headed : 3 ≤ length e
  pub flagged : get_or e 0 0 ≡ 1 → 3 + flag_size ≤ length e

abbrev pub returned_size : Bytes → ℕ
returned_size e = cond (eqb (get_or e 0 0) 1) (length e - flag_size) (length e)

unfoldable pub returned_bytes : Bytes → Bytes
returned_bytes e = cond (eqb (get_or e 0 0) 1) (head 1 (length e - flag_size - 3) ++ slice 3 (length e - flag_size) e) e
