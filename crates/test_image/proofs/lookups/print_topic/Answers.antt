-- `test_image::lookups::print_topic` stays in its buffers.
use mathlib.Core.Path.{sym}
use borrow.Author.Tests.{ltb-false}
use lib.Seq.{length-take-le}
use Rattle.test_image.proofs.lookups.print_topic.Goals as goal

pub slice_bounds-print_topic_in-end-4 : goal.slice_bounds-print_topic_in-end-4
slice_bounds-print_topic_in-end-4 c = sym (length-take-le _ _ (ltb-false _ _ c.if-work-room.false-raw))
