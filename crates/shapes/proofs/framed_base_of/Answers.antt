-- `shapes::framed_base_of` meets its contract: the log knows the other kinds, by the same rows.
use mathlib.Core.Path.{sym, ◌∙◌}
use Rattle.model.specs.Kind.{kind_of, kinds, kind_number}
use Rattle.model.specs.Shape.{shape_of}
use Rattle.shapes.specs.Table.{kind_base, base_of}
use Rattle.shapes.proofs.Bases.{base_framed}
use Rattle.shapes.proofs.framed_base_of.Goals as goal

pub returns-then-kind-eq-LOG_OFFSET : goal.returns-then-kind-eq-LOG_OFFSET
unfolding kind_base base_of kind_of kinds kind_number shape_of
returns-then-kind-eq-LOG_OFFSET c = rw c.if-kind-eq-LOG_OFFSET.true

pub returns : goal.returns
returns c = c.base_of.ensures ∙ sym (base_framed _ c.if-kind-eq-LOG_OFFSET.false)
