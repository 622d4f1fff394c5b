-- `wire::compare` meets its contract: the library's order of slices is the model's of bytes.
use mathlib.Core.Path.{ap, ◌∙◌}
use Rattle.model.specs.Order.{ordering}
use Rattle.wire.proofs.Compared.{compared}
use Rattle.wire.proofs.compare.Goals as goal

pub returns : goal.returns
returns c = ap ordering c.cmp.ensures ∙ compared _ _
