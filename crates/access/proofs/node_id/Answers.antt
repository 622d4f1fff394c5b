-- `access::node_id` meets its contract, by the kind and by whether there is a number.
use Rattle.access.proofs.Named.{node_empty, node_none, node_is, node_missing}
use Rattle.access.proofs.node_id.Goals as goal

pub returns-then-s-eq0 : goal.returns-then-s-eq0
returns-then-s-eq0 c = node_empty _ c.if-s-eq0.true

pub returns-then-tag-eq0 : goal.returns-then-tag-eq0
returns-then-tag-eq0 c = node_none _ _ c.node_tag-tag.ensures c.if-tag-eq0.true

pub returns-in-Is : goal.returns-in-Is
returns-in-Is c =
    node_is _ _ c.node_tag-tag.ensures c.if-tag-eq0.false c.field_number.ensures.0 c.in-Is.is

pub returns-in-Missing : goal.returns-in-Missing
returns-in-Missing c =
    node_missing _ _ c.node_tag-tag.ensures c.if-tag-eq0.false c.field_number.ensures.0 c.in-Missing.is
