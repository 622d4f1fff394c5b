-- `apply_brokers::change_broker` meets its contract: the broker is copied, changed, and put in its place.
use mathlib.Core.Path.{sym}
use native.Mathlib.Omega.{arith}
use lib.Seq.{length-take-le}
use Rattle.image_entries.proofs.Records.{headed}
use Rattle.apply_brokers.specs.Change.{IsChange}
use Rattle.apply_brokers.proofs.Drafts.{drafted_read, is_record}
use Rattle.apply_brokers.proofs.Fields.{node_width_lem}
use Rattle.apply_brokers.proofs.Plans.{of_node, none_changed, broker_there, is_plain, broker_changed}
use Rattle.apply_brokers.proofs.change_broker.Goals as goal

pub slice_bounds-copy_broker-end-2 : goal.slice_bounds-copy_broker-end-2
slice_bounds-copy_broker-end-2 c =
    sym (length-take-le _ _ (omega (arith, c.requires.0.order, c.requires.0.fits)))

pub node_at-requires : goal.node_at-requires
node_at-requires c =
    (headed _ c.requires.1, node_width_lem _ (record { is = c.requires.1; kind = c.requires.2 }))

pub copy_broker-n-requires : goal.copy_broker-n-requires
copy_broker-n-requires c =
    (c.requires.0.reals, record { is = c.requires.1; kind = c.requires.2 }, c.requires.4)

pub returns-then-n-eq0 : goal.returns-then-n-eq0
returns-then-n-eq0 c =
    let change : IsChange c.args.rec.now = record { is = c.requires.1; kind = c.requires.2 } in
    let broker = of_node c.args.rec.now _ change c.node_at.ensures _ c.copy_broker-n.ensures in
    none_changed _ _ broker c.if-n-eq0.true c.requires.0

pub change-size-requires : goal.change-size-requires
change-size-requires c =
    let change : IsChange c.args.rec.now = record { is = c.requires.1; kind = c.requires.2 } in
    let broker = of_node c.args.rec.now _ change c.node_at.ensures _ c.copy_broker-n.ensures in
    (drafted_read (broker_there _ _ broker c.if-n-eq0.false), change)

pub slice_bounds-set-end-2 : goal.slice_bounds-set-end-2
slice_bounds-set-end-2 c = sym (length-take-le _ _ c.change-size.ensures.fits)

pub set-requires : goal.set-requires
set-requires c =
    let changed = c.change-size.ensures in
    (c.requires.0, is_record changed, is_plain changed, c.requires.3)

pub returns : goal.returns
returns c =
    let change : IsChange c.args.rec.now = record { is = c.requires.1; kind = c.requires.2 } in
    let broker = of_node c.args.rec.now _ change c.node_at.ensures _ c.copy_broker-n.ensures in
    broker_changed _ _ broker c.if-n-eq0.false c.change-size.ensures c.set.ensures
