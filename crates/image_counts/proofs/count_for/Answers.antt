-- `image_counts::count_for` meets its contract: a topic's first field is its name.
use mathlib.Core.Path.{◌∙◌}
use Rattle.keys.proofs.Found.{lent_slice}
use Rattle.image_counts.proofs.Tallies.{counted_as}
use Rattle.image_counts.proofs.count_for.Goals as goal

pub returns : goal.returns
returns c =
    let v = c.value_at-p.ensures in
    counted_as (lent_slice _ _ _ v.1 ∙ v.0) c.count_of.ensures
