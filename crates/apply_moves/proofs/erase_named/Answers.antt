-- `apply_moves::erase_named` meets its contract: the entry of the probe's key is taken out.
use mathlib.Core.Path.{ap, ◌∙◌}
use mathlib.Core.List.{[]}
use Rattle.keys.specs.Keys.{key_in}
use Rattle.find.proofs.Finds.{query_key_lem, lent_length, lent_probe}
use Rattle.apply_moves.proofs.Singles.{probe_drop}
use Rattle.apply_moves.proofs.erase_named.Goals as goal

pub slice_bounds-drop_real-end : goal.slice_bounds-drop_real-end
slice_bounds-drop_real-end c =
    lent_length c.args.kind c.args.name.now [] c.requires.1 c.probe-n.new.p c.probe-n.ensures.0 c.probe-n.ensures.1

pub drop_real-requires : goal.drop_real-requires
drop_real-requires c = (
  c.requires.0,
  lent_probe c.args.kind c.args.name.now [] c.requires.1 c.probe-n.new.p c.probe-n.ensures.0 c.probe-n.ensures.1,
)

pub returns : goal.returns
returns c =
    probe_drop _ (ap key_in c.probe-n.ensures.1 ∙ query_key_lem c.args.kind c.args.name.now [] c.requires.1) c.drop_real.ensures
