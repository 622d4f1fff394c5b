-- `test_image::lookups::print_broker` stays in its buffers.
use mathlib.Core.Path.{sym}
use lib.Seq.{length-take-le}
use Rattle.test_image.proofs.lookups.print_broker.Goals as goal

pub slice_bounds-print_broker_in-end-3 : goal.slice_bounds-print_broker_in-end-3
slice_bounds-print_broker_in-end-3 c = sym (length-take-le _ _ c.if-work-room.false)
