-- `jeghatuf::images::jeghatuf_freeze` meets its contract: the lookup's answer in one number.
use mathlib.Core.Path.{ap, ◌∙◌}
use Rattle.packing.specs.Packed.{packed}
use Rattle.jeghatuf.proofs.images.jeghatuf_freeze.Goals as goal

pub returns : goal.returns
returns c =
    let e = c.freeze.ensures in
    record { value = c.pack.ensures ∙ ap packed e.result_value; out_after = e.out_after }
