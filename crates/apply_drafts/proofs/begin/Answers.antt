-- `apply_drafts::begin` meets its contract: a head of no length stands at the start.
use mathlib.Core.Path.{refl}
use Rattle.apply_drafts.proofs.Fronts.{begun}
use Rattle.apply_drafts.proofs.begin.Goals as goal

pub returns : goal.returns
returns c = let a = c.args in (refl, begun a.b.now a.kind c.put_head.ensures)
