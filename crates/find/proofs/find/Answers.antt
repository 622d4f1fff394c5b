-- `find::find` meets its contract: the place of the probe's key.
use Rattle.find.proofs.Finds.{lent_length, lent_probe, lent-place}
use Rattle.find.proofs.find.Goals as goal

pub slice_bounds-seek-end : goal.slice_bounds-seek-end
slice_bounds-seek-end c =
    lent_length c.args.kind c.args.first.now c.args.second.now c.requires.1 c.probe-n.new.p c.probe-n.ensures.0 c.probe-n.ensures.1

pub seek-requires : goal.seek-requires
seek-requires c = (
  c.requires.0,
  lent_probe c.args.kind c.args.first.now c.args.second.now c.requires.1 c.probe-n.new.p c.probe-n.ensures.0 c.probe-n.ensures.1,
)

pub returns : goal.returns
returns c =
    lent-place c.args.kind c.args.first.now c.args.second.now c.requires.1 c.probe-n.new.p c.probe-n.ensures.0
    c.probe-n.ensures.1 _ _ _ c.seek.ensures
