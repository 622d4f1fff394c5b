-- `test_kafka::answer` stays in its buffers.
use mathlib.Core.Path.{sym}
use lib.Seq.{length-take-le}
use Rattle.test_kafka.proofs.answer.Goals as goal

pub slice_bounds-read_line-end-then-line-eq0-2 : goal.slice_bounds-read_line-end-then-line-eq0-2
slice_bounds-read_line-end-then-line-eq0-2 c = sym (length-take-le _ _ c.if-work-room.false)

pub slice_bounds-write_line-end-3 : goal.slice_bounds-write_line-end-3
slice_bounds-write_line-end-3 c = sym (length-take-le _ _ c.if-work-room.false)
