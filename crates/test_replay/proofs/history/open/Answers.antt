-- `test_replay::history::open` stays in its buffers.
use mathlib.Core.Path.{sym}
use lib.Seq.{length-take-le}
use Rattle.test_replay.proofs.history.open.Goals as goal

pub slice_bounds-open_in-end-2 : goal.slice_bounds-open_in-end-2
slice_bounds-open_in-end-2 c = sym (length-take-le _ _ c.if-work-capacity.false)
