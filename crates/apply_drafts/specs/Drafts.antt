-- A record that is built in a buffer: what its bytes are, and what is asked of them before a field is set.
use Rattle.std.specs.Prelude.{◌≡◌, ◌∷◌, ◌++◌, ℕ, ◌≤◌, length, take, drop}
use Rattle.model.specs.Number.{Bytes, bytes}
use Rattle.model.specs.Run.{Run, bytes_of, set_field}
use Rattle.laws_records.specs.Runs.{Whole, Short}
use Rattle.keys.specs.Keys.{run_in}
use Rattle.records.specs.Answers.{head}

-- the bytes of a record of a kind number
abbrev pub spells : ℕ → Run → Bytes
spells kind run = kind ∷ bytes 2 (length (bytes_of run)) ++ bytes_of run

-- what is lent to build a record in: the longest one, with room for the fields that are set in it
abbrev pub draft_room : ℕ
draft_room = 40960

-- bytes that a field can be set in: a head, and fields that are whole
pub record IsDraft (s : Bytes) : Type 0 where
  pub headed : 3 ≤ length s
  pub whole : Whole (run_in s)

-- a buffer that begins with a record whose fields can be set
pub record Drafted (b : Bytes) (n kind : ℕ) (run : Run) : Type 0 where
  pub spelt : take n b ≡ spells kind run
  pub whole : Whole run
  pub short : Short run

-- where a field of a tag goes: what is set there, between what stands before and after it, makes the fields with that field set
pub record Spot (s : Bytes) (tag start end : ℕ) : Type 0 where
  pub low : 3 ≤ start
  pub order : start ≤ end
  pub most : end ≤ length s
  pub sets : (w : Bytes) → take start s ++ (head tag (length w) ++ w) ++ drop end s ≡ take 3 s ++ bytes_of (set_field tag w (run_in s))
