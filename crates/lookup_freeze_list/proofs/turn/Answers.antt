-- `lookup_freeze_list::turn` meets its contract.
use mathlib.Core.Path.{refl}
use Rattle.lookup_freeze_list.proofs.Stored.{above-told, behind-lent, marked-told}
use Rattle.lookup_freeze_list.proofs.turn.Goals as goal

pub returns-then-is_below : goal.returns-then-is_below
returns-then-is_below c =
    (above-told c.args.e.now c.args.list.now c.value_at-p.ensures c.args.last c.is_below.ensures c.if-is_below.true, refl)

pub mark_from-requires : goal.mark_from-requires
mark_from-requires c =
    let p = c.requires in
    (p.0, p.1, behind-lent c.args.e.now c.args.list.now c.value_at-p.ensures p.4)

pub returns : goal.returns
returns c =
    let entry = c.args.e.now in
    let list = c.args.list.now in
    let m = marked-told entry list c.value_at-p.ensures c.args.literal c.args.index c.args.out.now c.mark_from.ensures in
    (above-told entry list c.value_at-p.ensures c.args.last c.is_below.ensures c.if-is_below.false, m.0, m.1)
