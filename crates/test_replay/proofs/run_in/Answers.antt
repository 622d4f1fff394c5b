-- `test_replay::run_in` stays in its buffers.
use mathlib.Core.Path.{sym}
use lib.Seq.{length-take-le}
use Rattle.test_replay.proofs.run_in.Goals as goal

pub slice_bounds-run-end-2 : goal.slice_bounds-run-end-2
slice_bounds-run-end-2 c = sym (length-take-le _ _ c.if-work-capacity.false)
