-- `tool_parting::ids::renamed` ends, and stays in its buffers.
use mathlib.Core.Path.{sym}
use lib.Seq.{length-take-le}
use Rattle.tool_parting.proofs.ids.renamed.Goals as goal

pub slice_bounds-count_renamed-end-2 : goal.slice_bounds-count_renamed-end-2
slice_bounds-count_renamed-end-2 c = sym (length-take-le _ _ c.take_snapshot-n.ensures.0)
