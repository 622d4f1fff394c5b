-- `tool_parting::ids::same_name` ends, and stays in its buffers.
use mathlib.Core.Path.{sym}
use lib.Seq.{length-take-le}
use Rattle.tool_parting.proofs.ids.same_name.Goals as goal

pub slice_bounds-same-end : goal.slice_bounds-same-end
slice_bounds-same-end c = sym (length-take-le _ _ c.named_by-n.ensures)

pub slice_bounds-same-end-2 : goal.slice_bounds-same-end-2
slice_bounds-same-end-2 c = sym (length-take-le _ _ c.named_by-m.ensures)
