-- `wire::shift` meets its contract: where the two places are one, nothing moves.
use Rattle.std.proofs.lemmas.Cmp.{ranked}
use Rattle.wire.proofs.Laid.{paste-same}
use Rattle.wire.proofs.shift.Goals as goal

pub returns-in-Equal : goal.returns-in-Equal
returns-in-Equal c = paste-same _ _ _ c.args.n (ranked _ _ _ c.in-Equal.ensures)
