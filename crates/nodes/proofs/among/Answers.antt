-- `nodes::among` meets its contract: the library looks for it.
use mathlib.Core.Path.{◌∙◌}
use Rattle.nodes.proofs.Numbers.{among_any}
use Rattle.nodes.proofs.among.Goals as goal

pub returns : goal.returns
returns c = c.contains.ensures.value ∙ among_any _ _
