-- `entries::remove` meets its contract: the bytes of the key's entry are left out.
use mathlib.Core.Path.{refl}
use Rattle.entries.proofs.Changes.{lent-entries, remove_changed}
use Rattle.entries.proofs.remove.Goals as goal

pub seek-p-requires : goal.seek-p-requires
seek-p-requires c =
    let p = c.requires in
    (lent-entries _ _ _ p.0 p.3, p.4)

pub returns : goal.returns
returns c =
    let p = c.requires in
    let place = c.seek-p.ensures in
    let spliced = c.splice in
    remove_changed c.args.w.now spliced.new.w _ _ c.args.from c.args.to c.args.used _ _ _ p.0 p.1 p.2 spliced.auto.w refl
    place spliced.ensures
