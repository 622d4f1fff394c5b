-- `shapes::stored_base_of` meets its contract: only the topic's stored shape differs from its record's.
use mathlib.Core.Path.{sym, ◌∙◌}
use Rattle.model.specs.Kind.{kind_of, kinds, kind_number}
use Rattle.model.specs.Shape.{shape_of}
use Rattle.shapes.specs.Table.{kind_base, base_of}
use Rattle.shapes.proofs.Bases.{base_stored}
use Rattle.shapes.proofs.stored_base_of.Goals as goal

pub returns-then-kind-eq-TOPIC : goal.returns-then-kind-eq-TOPIC
unfolding kind_base base_of kind_of kinds kind_number shape_of
returns-then-kind-eq-TOPIC c = rw c.if-kind-eq-TOPIC.true

pub returns : goal.returns
returns c = c.base_of.ensures ∙ sym (base_stored _ c.if-kind-eq-TOPIC.false)
