-- `tests::unregister` meets its contract: the broker of the record's node is taken out where the epochs are the same.
use mathlib.Core.Path.{sym, ◌∙◌}
use native.Mathlib.Omega.{arith}
use lib.ListN.{take}
use lib.Seq.{length-take-le}
use Rattle.laws.specs.Numbers.{length-bytes}
use Rattle.image_entries.proofs.Records.{headed}
use Rattle.find.proofs.Queries.{broker_query}
use Rattle.find.proofs.Epochs.{of_node}
use Rattle.apply_plan.proofs.Arms.{node_wide, unregistered, not_registered}
use Rattle.apply_plan.proofs.tests.unregister.Goals as goal

pub node_at-node-requires : goal.node_at-node-requires
node_at-node-requires c = (headed _ c.requires.1, node_wide _ c.requires.1 c.requires.2)

pub slice_bounds-at_epoch-end-2 : goal.slice_bounds-at_epoch-end-2
slice_bounds-at_epoch-end-2 c =
    sym (length-take-le _ _ (omega (arith, c.requires.0.order, c.requires.0.fits)))

pub at_epoch-requires : goal.at_epoch-requires
at_epoch-requires c = (c.requires.0.reals, headed _ c.requires.1)

pub erase_node-requires : goal.erase_node-requires
erase_node-requires c =
    (c.requires.0, broker_query _ (length-bytes 8 c.node_at-node.result.0))

pub returns-then-at_epoch : goal.returns-then-at_epoch
returns-then-at_epoch c =
    let node = c.node_at-node.ensures in
    let tested = c.at_epoch.ensures ∙ of_node (take c.args.bounds.mid c.args.w.now) c.args.rec.now node in
    unregistered _ c.requires.1 c.requires.2 _ tested c.if-at_epoch.true node c.erase_node.ensures

pub returns : goal.returns
returns c =
    let node = c.node_at-node.ensures in
    let tested = c.at_epoch.ensures ∙ of_node (take c.args.bounds.mid c.args.w.now) c.args.rec.now node in
    not_registered _ c.requires.1 c.requires.2 _ tested c.if-at_epoch.false c.requires.0
