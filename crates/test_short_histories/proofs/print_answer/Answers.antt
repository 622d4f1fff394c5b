-- `test_short_histories::print_answer` stays in its buffers.
use mathlib.Core.Path.{sym}
use lib.Seq.{length-take-le}
use Rattle.test_short_histories.proofs.print_answer.Goals as goal

pub slice_bounds-print_bytes-end : goal.slice_bounds-print_bytes-end
slice_bounds-print_bytes-end c = sym (length-take-le _ _ c.if-n-out.true)
