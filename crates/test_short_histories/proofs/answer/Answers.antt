-- `test_short_histories::answer` stays in its buffers.
use mathlib.Core.Path.{sym}
use lib.Seq.{length-take-le}
use Rattle.test_short_histories.proofs.answer.Goals as goal

pub slice_bounds-print_history-end-3 : goal.slice_bounds-print_history-end-3
slice_bounds-print_history-end-3 c = sym (length-take-le _ _ c.if-work-room.false)
