-- `jeghatuf::restarts::jeghatuf_snapshot` meets its contract: its answer in one number.
use mathlib.Core.Path.{ap, ◌∙◌}
use Rattle.packing.specs.Packed.{packed}
use Rattle.jeghatuf.proofs.restarts.jeghatuf_snapshot.Goals as goal

pub returns : goal.returns
returns c =
    let e = c.snapshot.ensures in
    record { value = c.pack.ensures ∙ ap packed e.result_value; out_after = e.out_after }
