-- What Read answers by what was read. What Write writes, and how long it is.
use Rattle.std.specs.Prelude.{List, [], ◌∷◌, ◌++◌, ℕ, ◌+◌, length, take, drop}
use Rattle.model.specs.Number.{Bytes, bytes}
use Rattle.model.specs.Record.{Got, on_got}
use Rattle.model.specs.Shape.{Source, logged, stored, framed}
use Rattle.model.specs.Reply.{Reply, accepted, refused}
use Rattle.records.specs.declared.Source.{Source as Standing}
use Rattle.records.specs.declared.Source.TheVariants.{Logged, Stored, Framed}

-- what is read, as a reply
abbrev pub got_reply : Got → Reply
got_reply g = on_got g refused (λ r used. accepted (used ∷ []))

-- where a record stands, as the code has it
abbrev pub source_of : Standing → Source
source_of Logged = logged
source_of Stored = stored
source_of Framed = framed

-- the length of fields' bytes, by the lengths of their values
unfoldable pub body_length : List ℕ → ℕ
body_length [] = 0
body_length (n ∷ ns) = 3 + n + body_length ns

-- a buffer with some bytes written at a place
abbrev pub put_at : Bytes → ℕ → Bytes → Bytes
put_at out at s = take at out ++ s ++ drop (at + length s) out

-- what a record and a field begin with: a byte, and a length of two bytes
abbrev pub head : ℕ → ℕ → Bytes
head first n = first ∷ bytes 2 n

-- a record whose one field is a number
abbrev pub number_bytes : ℕ → ℕ → ℕ → Bytes
number_bytes kind width n = head kind (3 + width) ++ head 1 width ++ bytes width n
