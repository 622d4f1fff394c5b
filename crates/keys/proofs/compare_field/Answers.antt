-- `keys::compare_field` meets its contract: the two parts are the two values.
use mathlib.Core.Path.{ap₂, ◌∙◌}
use Rattle.model.specs.Order.{compare_bytes}
use Rattle.keys.proofs.Found.{lent_slice}
use Rattle.keys.proofs.compare_field.Goals as goal

pub returns : goal.returns
returns c =
    let p = c.value_at-p.ensures in
    let q = c.value_at-q.ensures in
    c.compare.ensures ∙ ap₂ compare_bytes (lent_slice _ _ _ p.1 ∙ p.0) (lent_slice _ _ _ q.1 ∙ q.0)
