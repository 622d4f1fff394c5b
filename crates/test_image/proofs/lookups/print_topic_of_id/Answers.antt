-- `test_image::lookups::print_topic_of_id` stays in its buffers.
use mathlib.Core.Path.{sym}
use lib.Seq.{length-take-le}
use Rattle.test_image.proofs.lookups.print_topic_of_id.Goals as goal

pub slice_bounds-print_topic_of_id_in-end-3 : goal.slice_bounds-print_topic_of_id_in-end-3
slice_bounds-print_topic_of_id_in-end-3 c = sym (length-take-le _ _ c.if-work-room.false)
