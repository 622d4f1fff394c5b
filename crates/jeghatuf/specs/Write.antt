-- Write by a kind's number.
use Rattle.std.specs.Prelude.{ℕ, List}
use Rattle.model.specs.Choice.{given}
use Rattle.model.specs.Number.{Bytes}
use Rattle.model.specs.Kind.{kind_of}
use Rattle.model.specs.Reply.{Ended, unchanged}
use Rattle.model.specs.Record.{write_of}

-- "3, unknown kind"
unfoldable pub write_of_number : ℕ → List ℕ → List ℕ → Bytes → Bytes → Ended
write_of_number n tags lengths values out = given (kind_of n) (unchanged 3 out) λ k. write_of k tags lengths values out
