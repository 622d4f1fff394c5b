-- `entities::compare_entity` meets its contract: names decide where types are the same.
use mathlib.Core.Path.{ap₂, ◌∙◌}
use Rattle.model.specs.Order.{compare_bytes}
use Rattle.model.specs.Key.{name_part}
use Rattle.keys.proofs.Found.{lent_slice}
use Rattle.keys.proofs.Orders.{first_less, first_equal, first_greater}
use Rattle.keys.proofs.entities.compare_entity.Goals as goal

pub returns-in-Less : goal.returns-in-Less
returns-in-Less c =
    let p = c.part_of-p.ensures in
    let q = c.part_of-q.ensures in
    let types = c.compare.ensures ∙ ap₂ compare_bytes (lent_slice _ _ _ p.inside.0 ∙ p.holds) (lent_slice _ _ _ q.inside.0 ∙ q.holds) in
    first_less _ c.in-Less.is types

pub returns-in-Equal : goal.returns-in-Equal
returns-in-Equal c =
    let p = c.part_of-p.ensures in
    let q = c.part_of-q.ensures in
    let types = c.compare.ensures ∙ ap₂ compare_bytes (lent_slice _ _ _ p.inside.0 ∙ p.holds) (lent_slice _ _ _ q.inside.0 ∙ q.holds) in
    let names = ap₂ (λ n m. compare_bytes (name_part n) (name_part m)) c.behind.ensures.1 c.behind-in-Equal.ensures.1 in
    c.compare_names.ensures ∙ names ∙ first_equal _ c.in-Equal.is types

pub returns-in-Greater : goal.returns-in-Greater
returns-in-Greater c =
    let p = c.part_of-p.ensures in
    let q = c.part_of-q.ensures in
    let types = c.compare.ensures ∙ ap₂ compare_bytes (lent_slice _ _ _ p.inside.0 ∙ p.holds) (lent_slice _ _ _ q.inside.0 ∙ q.holds) in
    first_greater _ c.in-Greater.is types
