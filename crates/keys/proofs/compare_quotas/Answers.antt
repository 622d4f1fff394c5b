-- `keys::compare_quotas` meets its contract: the config key decides where the entities are the same.
use mathlib.Core.Path.{◌∙◌}
use Rattle.keys.proofs.Orders.{first_less, first_equal, first_greater}
use Rattle.keys.proofs.compare_quotas.Goals as goal

pub compare_field-requires : goal.compare_field-requires
compare_field-requires c =
    (c.requires.first, c.requires.second)

pub returns-in-Less : goal.returns-in-Less
returns-in-Less c = first_less _ c.in-Less.is c.compare_entities.ensures

pub returns-in-Equal : goal.returns-in-Equal
returns-in-Equal c = c.compare_field.ensures ∙ first_equal _ c.in-Equal.is c.compare_entities.ensures

pub returns-in-Greater : goal.returns-in-Greater
returns-in-Greater c = first_greater _ c.in-Greater.is c.compare_entities.ensures
