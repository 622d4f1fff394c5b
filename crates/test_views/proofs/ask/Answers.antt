-- `test_views::ask` stays in its buffers.
use mathlib.Core.Path.{sym}
use borrow.Author.Tests.{ltb-false}
use lib.Seq.{length-take-le}
use Rattle.test_views.proofs.ask.Goals as goal

pub slice_bounds-print_query-end-4 : goal.slice_bounds-print_query-end-4
slice_bounds-print_query-end-4 c = sym (length-take-le _ _ (ltb-false _ _ c.if-out-room.false-raw))
