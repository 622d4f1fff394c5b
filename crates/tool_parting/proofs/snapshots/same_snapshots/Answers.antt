-- `tool_parting::snapshots::same_snapshots` meets its contract: both snapshots are compared as they were written.
use mathlib.Core.Path.{sym}
use lib.Seq.{length-take-le}
use Rattle.tool_parting.proofs.snapshots.same_snapshots.Goals as goal

pub slice_bounds-same_records-end-2 : goal.slice_bounds-same_records-end-2
slice_bounds-same_records-end-2 c = sym (length-take-le _ _ c.take_snapshot-n.ensures.0)

pub slice_bounds-same_records-end-4 : goal.slice_bounds-same_records-end-4
slice_bounds-same_records-end-4 c = sym (length-take-le _ _ c.take_snapshot-m.ensures.0)

pub returns : goal.returns
returns c =
    rw (← c.take_snapshot-n.ensures.1, ← c.take_snapshot-m.ensures.1) c.same_records.ensures
