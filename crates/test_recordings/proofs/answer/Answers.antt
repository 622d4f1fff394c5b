-- `test_recordings::answer` stays in its buffers.
use mathlib.Core.Path.{sym}
use lib.Seq.{length-take-le}
use Rattle.test_recordings.proofs.answer.Goals as goal

pub slice_bounds-print_compared-end-2 : goal.slice_bounds-print_compared-end-2
slice_bounds-print_compared-end-2 c = sym (length-take-le _ _ c.if-a-n.false)

pub slice_bounds-print_compared-end-4 : goal.slice_bounds-print_compared-end-4
slice_bounds-print_compared-end-4 c = sym (length-take-le _ _ c.if-b-m.false)
