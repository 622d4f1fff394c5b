-- Write by a kind's number is Write by its kind.
use mathlib.Core.Path.{◌≡◌}
use mathlib.Core.List.{List}
use mathlib.Core.Option.{none, some}
use Prim.Native.Nat.{ℕ}
use Rattle.model.specs.Number.{Bytes}
use Rattle.model.specs.Kind.{kind_of}
use Rattle.model.specs.declared.Kind.{Kind}
use Rattle.model.specs.Reply.{unchanged}
use Rattle.model.specs.Record.{write_of}
use Rattle.jeghatuf.specs.Write.{write_of_number}

module _ (n : ℕ) (tags : Bytes) (lengths : List ℕ) (values out : Bytes) where
  pub by_kind_lem : (k : Kind) → kind_of n ≡ some k → write_of_number n tags lengths values out ≡ write_of k tags lengths values out
  unfolding write_of_number
  by_kind_lem k e = rw e

  pub by_none : kind_of n ≡ none → write_of_number n tags lengths values out ≡ unchanged 3 out
  unfolding write_of_number
  by_none e = rw e
