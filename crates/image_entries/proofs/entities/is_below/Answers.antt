-- `entities::is_below` meets its contract: the order of two entities is that of their keys.
use Rattle.keys.proofs.Elements.{told_below}
use Rattle.image_entries.proofs.InOrder.{none_below}
use Rattle.image_entries.proofs.entities.is_below.Goals as goal

pub returns-then-b-eq0 : goal.returns-then-b-eq0
returns-then-b-eq0 c = none_below _ _ _ c.requires.1.0 c.if-b-eq0.true

pub returns-in-Less : goal.returns-in-Less
returns-in-Less c = told_below _ _ c.compare_entity.ensures c.in-Less.is

pub returns-in-Equal : goal.returns-in-Equal
returns-in-Equal c = told_below _ _ c.compare_entity.ensures c.in-Equal.is

pub returns-in-Greater : goal.returns-in-Greater
returns-in-Greater c = told_below _ _ c.compare_entity.ensures c.in-Greater.is
