-- `test_recordings::print_used` stays in its bytes.
use mathlib.Core.Path.{sym}
use lib.Seq.{length-take-le}
use Rattle.test_recordings.proofs.print_used.Goals as goal

pub slice_bounds-print_bytes-end : goal.slice_bounds-print_bytes-end
slice_bounds-print_bytes-end c = sym (length-take-le _ _ c.if-image-used.false)
