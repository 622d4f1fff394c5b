-- `test_replay::history::cut` stays in its buffers.
use mathlib.Core.Path.{sym}
use lib.Seq.{length-take-le}
use Rattle.test_replay.proofs.history.cut.Goals as goal

pub slice_bounds-restore-end-then-n-out : goal.slice_bounds-restore-end-then-n-out
slice_bounds-restore-end-then-n-out c = sym (length-take-le _ _ c.if-n-out.true)
