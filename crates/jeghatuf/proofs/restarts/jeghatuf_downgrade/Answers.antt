-- `jeghatuf::restarts::jeghatuf_downgrade` meets its contract: its answer in one number.
use mathlib.Core.Path.{ap, ◌∙◌}
use Rattle.packing.specs.Packed.{packed}
use Rattle.jeghatuf.proofs.restarts.jeghatuf_downgrade.Goals as goal

pub returns : goal.returns
returns c =
    let e = c.downgrade.ensures in
    record { value = c.pack.ensures ∙ ap packed e.result_value; out_after = e.out_after }
