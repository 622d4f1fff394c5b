-- `wire::same` meets its contract: the library's equality of slices is the model's of bytes.
use mathlib.Core.Path.{◌∙◌}
use Rattle.wire.proofs.Compared.{equal}
use Rattle.wire.proofs.same.Goals as goal

pub returns : goal.returns
returns c = c.eq.ensures ∙ equal _ _
