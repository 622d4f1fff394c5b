-- `access::node_tag` meets its contract: the constant is the column of tags, and there is no kind past it.
use Rattle.access.proofs.Nodes.{tags_are, tag_past}
use Rattle.access.proofs.node_tag.Goals as goal

pub returns-then-kind-ge27 : goal.returns-then-kind-ge27
returns-then-kind-ge27 c = tag_past _ c.if-kind-ge27.true

pub returns : goal.returns
returns c = tags_are _
