-- `wire::begins_with` meets its contract: its first bytes are compared, as many as the prefix has.
use mathlib.Core.Path.{◌∙◌}
use Rattle.wire.proofs.Compared.{equal}
use Rattle.wire.proofs.Begins.{begins_same}
use Rattle.wire.proofs.begins_with.Goals as goal

pub returns : goal.returns
returns c = c.starts_with.ensures.value ∙ equal _ _ ∙ begins_same _ _
