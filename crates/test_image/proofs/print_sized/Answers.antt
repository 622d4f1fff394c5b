-- `test_image::print_sized` stays in its buffers.
use mathlib.Core.Path.{sym}
use lib.Seq.{length-take-le}
use Rattle.test_image.proofs.print_sized.Goals as goal

pub slice_bounds-print_open-end-then-open : goal.slice_bounds-print_open-end-then-open
slice_bounds-print_open-end-then-open c = sym (length-take-le _ _ c.if-work-capacity.false)

pub slice_bounds-print_padded-end-else-open : goal.slice_bounds-print_padded-end-else-open
slice_bounds-print_padded-end-else-open c = sym (length-take-le _ _ c.if-work-capacity.false)
