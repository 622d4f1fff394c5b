-- A probe: a record with the two fields that a key may be made of.
use Rattle.std.specs.Prelude.{◌++◌, ℕ, ◌+◌, length}
use Rattle.model.specs.Number.{Bytes}
use Rattle.model.specs.Run.{Run, done, item, bytes_of}
use Rattle.records.specs.Answers.{head}

abbrev pub probe_run : Bytes → Bytes → Run
probe_run first second = item 1 first (item 2 second done)

abbrev pub probe_size : Bytes → Bytes → ℕ
probe_size first second = 9 + length first + length second

abbrev pub probe_bytes : ℕ → Bytes → Bytes → Bytes
probe_bytes kind first second = head kind (6 + length first + length second) ++ bytes_of (probe_run first second)
