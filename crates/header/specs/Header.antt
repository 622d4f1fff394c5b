-- The header's parts, as the code tests and writes them.
use Rattle.std.specs.Prelude.{Bool, ◌&&◌, [], ℕ, eqb}
use Rattle.std.proofs.Math.Seq.{slice}
use Rattle.model.specs.Choice.{every}
use Rattle.model.specs.Number.{Bytes}
use Rattle.model.specs.Order.{same_bytes}
use Rattle.model.specs.Contents.{Fixed}
use Rattle.model.specs.Image.{mark}

abbrev pub fixed_of : ℕ → ℕ → ℕ → Fixed
fixed_of epoch kraft offset = record { epoch = epoch; kraft = kraft; offset = offset }

-- the bytes of the header that no number fills
abbrev pub front_ok : Bytes → Bool
front_ok b = same_bytes (slice 0 8 b) mark && every (λ x. eqb x 0) (slice 12 16 b) && every (λ x. eqb x 0) (slice 26 56 b)
