-- `jeghatuf::viewers::jeghatuf_view_topic` meets its contract: the operation's answer in one number.
use mathlib.Core.Path.{ap, ◌∙◌}
use Rattle.packing.specs.Packed.{packed}
use Rattle.jeghatuf.proofs.viewers.jeghatuf_view_topic.Goals as goal

pub returns : goal.returns
returns c =
    let e = c.view_topic.ensures in
    record { value = c.pack.ensures ∙ ap packed e.result_value; out_after = e.out_after }
