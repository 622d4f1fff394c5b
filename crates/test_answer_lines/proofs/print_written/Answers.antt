-- `test_answer_lines::print_written` stays in its output.
use mathlib.Core.Path.{sym}
use lib.Seq.{length-take-le}
use Rattle.test_answer_lines.proofs.print_written.Goals as goal

pub slice_bounds-digest-end : goal.slice_bounds-digest-end
slice_bounds-digest-end c = sym (length-take-le _ _ c.if-n-out.true)
