-- `apply_drafts::copy_in` meets its contract: the record stands at the start.
use mathlib.Core.Path.{refl}
use Rattle.apply_drafts.proofs.Fronts.{put_at-front}
use Rattle.apply_drafts.proofs.copy_in.Goals as goal

pub returns : goal.returns
returns c =
    let a = c.args in
    (refl, put_at-front a.b.now a.rec.now c.copy.ensures)
