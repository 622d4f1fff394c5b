-- `test_kafka::print_written` stays in its buffer.
use mathlib.Core.Path.{sym}
use lib.Seq.{length-take-le}
use Rattle.test_kafka.proofs.print_written.Goals as goal

pub slice_bounds-print_bytes-end : goal.slice_bounds-print_bytes-end
slice_bounds-print_bytes-end c = sym (length-take-le _ _ c.if-n-out.true)
