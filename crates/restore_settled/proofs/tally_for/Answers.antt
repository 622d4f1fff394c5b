-- `restore_settled::tally_for` meets its contract.
use mathlib.Core.Path.{◌∙◌}
use Rattle.keys.proofs.Found.{lent_slice}
use Rattle.image_counts.proofs.Tallies.{counted_as}
use Rattle.restore_settled.proofs.Tallies.{factored_as}
use Rattle.restore_settled.proofs.tally_for.Goals as goal

pub returns : goal.returns
returns c =
    let v = c.value_at-p.ensures in let e = lent_slice _ _ _ v.1 ∙ v.0 in
    (counted_as e c.tally_of.ensures.0, factored_as e c.number_at.ensures c.tally_of.ensures.1)
