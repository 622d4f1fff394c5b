-- `keys::compare_both` meets its contract: the second fields decide where the first are the same.
use mathlib.Core.Path.{◌∙◌}
use Rattle.keys.proofs.Orders.{first_less, first_equal, first_greater}
use Rattle.keys.proofs.compare_both.Goals as goal

pub returns-in-Less : goal.returns-in-Less
returns-in-Less c = first_less _ c.in-Less.is c.compare_field.ensures

pub returns-in-Equal : goal.returns-in-Equal
returns-in-Equal c =
    c.compare_field-in-Equal.ensures ∙ first_equal _ c.in-Equal.is c.compare_field.ensures

pub returns-in-Greater : goal.returns-in-Greater
returns-in-Greater c = first_greater _ c.in-Greater.is c.compare_field.ensures
