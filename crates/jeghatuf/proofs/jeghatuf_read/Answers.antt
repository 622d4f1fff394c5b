-- `jeghatuf::jeghatuf_read` meets its contract: Read's answer, packed.
use mathlib.Core.Path.{ap, ◌∙◌}
use Rattle.packing.specs.Packed.{packed}
use Rattle.jeghatuf.proofs.jeghatuf_read.Goals as goal

pub returns : goal.returns
returns c = c.pack.ensures ∙ ap packed c.read.ensures.result_value
