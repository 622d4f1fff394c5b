-- What a reader's answer says of the bytes from a place on.
use Rattle.std.specs.Prelude.{◌≡◌, ℕ, ◌+◌, ◌≤◌, ◌<◌, length, drop}
use Rattle.std.proofs.Math.Seq.{slice}
use Rattle.model.specs.Number.{Bytes}
use Rattle.model.specs.Run.{Run, done, torn, item, run_of}
use Rattle.reader.specs.declared.Next.{Next}
use Rattle.reader.specs.declared.Next.TheVariants.{Field, Torn, End}

-- the fields that an answer stands for
unfoldable pub told : Bytes → Next → Run
told s (Field tag start len next) = item tag (slice start (start + len) s) (run_of (drop next s))
told s Torn = torn
told s End = done

-- where the parts of a field at a place lie: a tag and a length of two bytes, the value, the next field
pub record Lies (s : Bytes) (at tag start len next : ℕ) : Type 0 where
  pub after : start ≡ at + 3
  pub ends : next ≡ start + len
  pub within : next ≤ length s
  pub short : len < 65536
  pub byte : tag < 256

unfoldable pub Placed : Bytes → ℕ → Next → Type 0
Placed s at (Field tag start len next) = Lies s at tag start len next
Placed s at Torn = Unit {0}
Placed s at End = Unit {0}

-- an answer says what stands at a place: the fields from there on, none past the end, and where the first of them lies
abbrev pub Says : Bytes → ℕ → Next → Type 0
Says s at r = (told s r ≡ run_of (drop at s)) × Placed s at r
