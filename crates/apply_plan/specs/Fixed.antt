-- The fixed parts of an image after a record: the features epoch and the kraft version.
use Rattle.std.specs.Prelude.{ℕ, cond, eqb}
use Rattle.model.specs.Number.{number}
use Rattle.model.specs.Run.{value}
use Rattle.model.specs.Kind.{kind_number}
use Rattle.model.specs.Record.{Rec}
use Rattle.model.specs.Move.{bumped}

-- a feature level (11) makes the epoch one more, a features epoch (13) sets it
unfoldable pub epoch_after : Rec → ℕ → ℕ
epoch_after r e =
    cond (eqb (kind_number r.kind) 11) (bumped e) (cond (eqb (kind_number r.kind) 13) (number (value 1 r.run)) e)

-- a kraft version (10) sets it
unfoldable pub kraft_after : Rec → ℕ → ℕ
kraft_after r v = cond (eqb (kind_number r.kind) 10) (number (value 1 r.run)) v
