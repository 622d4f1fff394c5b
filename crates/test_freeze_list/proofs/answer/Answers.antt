-- `test_freeze_list::answer` stays in its buffers.
use borrow.Author.Tests.{ltb-false}
use mathlib.Core.Path.{sym}
use lib.Seq.{length-take-le}
use Rattle.test_freeze_list.proofs.answer.Goals as goal

pub slice_bounds-print_freezes-end-3 : goal.slice_bounds-print_freezes-end-3
slice_bounds-print_freezes-end-3 c =
    sym (length-take-le _ _ (ltb-false _ _ c.if-work-room.false-raw))
